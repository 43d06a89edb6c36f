-- Those that leave do so in an order: what is left is the same where one of them goes before, if
-- nothing hangs on its cursor.
use Rattle.std.proofs.Common.{◌≡◌, ◌≢◌, ℕ, Bool, cond, List, [], ◌∷◌, None}
use Rattle.std.proofs.Common.{refl, sym, ap, ◌∙◌, arith}
use Rattle.std.specs.Prelude.{◌==◌, map, not}
use Rattle.std.proofs.lemmas.Bool.{cases_eq}
use Rattle.std.proofs.lemmas.Bool.Decides.{nat_tests}
use Rattle.std.specs.List.{filter}
use Rattle.std.specs.Ordering.{nat_cmp}
use Rattle.std.specs.Cmp.{nat_cmp_total}
use Rattle.std.specs.FinMap.{FinMap, entries, entries_sorted, find, get, get-entries, keys}
use Rattle.std.specs.FinMap.{nat_cmp-IsAntisymmetric, remove}
use Rattle.std.specs.FinMap.Entries.{find-where_key, is_sorted-where_key, same_entries, where_key}
use Rattle.mc_model.specs.Game.{Game}
use Rattle.mc_model.specs.Leaving.{leave, leave_all}
use Rattle.mc_model.specs.Good.{Good}
use Rattle.mc_model.proofs.Maps.Lookups.{gone_other, gone_same}
use Rattle.mc_laws.proofs.Deeds.Leaving.{leave_good, leave_nobody, leave_other, leave_same}
use Rattle.mc_laws.proofs.Apart.Leavings.{HasNothing, filter_swap, leave_swap, leaves_nothing}

-- ---- one more, before or after several

pub leave_first : (k : ℕ) (ks : List ℕ) (g : Game) → Good g → HasNothing k g →
    leave k (leave_all ks g) ≡ leave_all ks (leave k g)
leave_first k [] g w none = refl
leave_first k (i ∷ ks) g w none =
    leave_first k ks (leave i g) (leave_good i g w) (leaves_nothing k i g w none)
    ∙ ap (leave_all ks) (leave_swap k i g w none)

-- ---- where one is not there

abbrev is_other : ℕ → ℕ → Bool
is_other k i = not (i == k)

-- it does not matter whether it is among those that leave
leave_others : (k : ℕ) (ks : List ℕ) (g : Game) → get g.players k ≡ None →
    leave_all (filter (is_other k) ks) g ≡ leave_all ks g
leave_others k [] g none = refl
leave_others k (i ∷ ks) g none = grind (
  arith,
  nat_tests,
  cases_eq i k,
  leave_others k ks g none,
  leave_others k ks (leave i g),
  leave_other i k g,
  leave_nobody i g,
)

pub leave_without : (k : ℕ) (u : ℕ → Bool) (ks : List ℕ) (g : Game) → get g.players k ≡ None →
    leave_all (filter u (filter (is_other k) ks)) g ≡ leave_all (filter u ks) g
leave_without k u ks g none =
    ap (λ (js : List ℕ). leave_all js g) (filter_swap u (is_other k) ks)
    ∙ leave_others k (filter u ks) g none

module _ (k : ℕ) (t u : ℕ → Bool) (alike : (i : ℕ) → i ≢ k → t i ≡ u i) where
  same_others : (ks : List ℕ) →
      filter (is_other k) (filter t ks) ≡ filter (is_other k) (filter u ks)
  same_others [] = refl
  same_others (i ∷ ks) = grind (arith, nat_tests, alike i, same_others ks)

  pub leave_but : (ks : List ℕ) (g : Game) → get g.players k ≡ None →
      leave_all (filter t ks) g ≡ leave_all (filter u ks) g
  leave_but ks g none = sym (leave_others k (filter t ks) g none)
      ∙ ap (λ (js : List ℕ). leave_all js g) (same_others ks)
      ∙ leave_others k (filter u ks) g none

  -- so the games are the same once it left both
  pub leave_after : (ks : List ℕ) (g : Game) → Good g → HasNothing k g →
      leave k (leave_all (filter t ks) g) ≡ leave k (leave_all (filter u ks) g)
  leave_after ks g w none = leave_first k (filter t ks) g w none
      ∙ leave_but ks (leave k g) (leave_same k g)
      ∙ sym (leave_first k (filter u ks) g w none)

-- ---- the numbers of those that are left

map_filter : {A B : Type 0} (f : A → B) (p : B → Bool) (xs : List A) →
    map f (filter (λ (x : A). p (f x)) xs) ≡ filter p (map f xs)
map_filter f p [] = refl
map_filter f p (x ∷ xs) = grind (arith, nat_tests, map_filter f p xs)

pub keys_removed : {X : Type 0} (m : FinMap nat_cmp X) (k : ℕ) →
    keys (remove m k) ≡ filter (λ (q : ℕ). not (q == k)) (keys m)
keys_removed {X} m k =
    ap (map (λ (e : ℕ × X). e.0)) (same_entries nat_cmp nat_cmp_total nat_cmp-IsAntisymmetric
    (entries (remove m k)) (where_key nat_cmp (λ (q : ℕ). not (q == k)) (entries m))
    (entries_sorted (remove m k))
    (is_sorted-where_key nat_cmp (λ (q : ℕ). not (q == k)) (entries m) (entries_sorted m))
    (λ q. sym (get-entries (remove m k) q) ∙ at_key q
    ∙ sym (find-where_key nat_cmp (λ (q : ℕ). not (q == k)) q
    (λ x tied. ap (λ (n : ℕ). not (n == k)) (sym (nat_cmp-IsAntisymmetric q x tied)))
    (entries m))))
    ∙ map_filter (λ (e : ℕ × X). e.0) (λ (q : ℕ). not (q == k)) (entries m)
  where
    at_key : (q : ℕ) →
        get (remove m k) q ≡ cond (not (q == k)) (find nat_cmp q (entries m)) None
    at_key q =
        grind (arith, nat_tests, cases_eq q k, gone_same m k, gone_other m k q, get-entries m q)
