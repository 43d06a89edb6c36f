-- What a hash map finds is what the finite map of its entries has.
use Rattle.std.proofs.Common.{◌≡◌, ℕ, suc, ◌+◌, Bool, true, false, cond, List, [], ◌∷◌, ◌++◌}
use Rattle.std.proofs.Common.{length, is_some, arith, Option, Some, None, refl, sym, ap, ◌∙◌}
use Rattle.std.specs.Prelude.{nat_eq}
use Rattle.std.specs.List.{AllByRecursion, IsDistinct}
use Rattle.std.specs.Map.{lookup, keys_of}
use Rattle.std.specs.Ordering.{nat_cmp, is_eq, eq_by_cmp}
use Rattle.std.specs.Cmp.{nat_cmp_total, eq_by_cmp_equiv}
use Rattle.mc_model.specs.Delta.{is_named}
use Rattle.mc_flush.specs.Players.{with_other}
use Rattle.mc_bytes.proofs.Trees.{equal}
use Rattle.std.specs.FinMap.{find, get, len, len-empty, len-insert, contains_key, insert, remove}
use Rattle.std.specs.FinMap.{from_entries, get-from_entries, get-insert, get-remove}
use Rattle.std.specs.FinMap.{nat_cmp-IsAntisymmetric, same_map}
use Rattle.std.proofs.lemmas.Bool.Decides.{nat_tests}

-- ---- two ways to say that keys are equal

pub same_key : (q k : ℕ) → eq_by_cmp nat_cmp q k ≡ true → q ≡ k
same_key q k t = nat_cmp-IsAntisymmetric q k (equal (nat_cmp q k) t)

pub key_tests : (q k : ℕ) → nat_eq q k ≡ eq_by_cmp nat_cmp q k
key_tests q k = grind (arith, nat_tests)

pub key_turned : (k q : ℕ) → nat_eq k q ≡ eq_by_cmp nat_cmp q k
key_turned k q = key_tests k q ∙ (eq_by_cmp_equiv nat_cmp_total).symm k q

-- ---- look-ups

module _ {X : Type 0} where
  pub lookup_found : (q : ℕ) (es : List (ℕ × X)) → lookup (nat_eq q) es ≡ find nat_cmp q es
  lookup_found q [] = refl
  lookup_found q (e ∷ es) = ap (λ (b : Bool). cond b (Some e.1) (lookup (nat_eq q) es)) (key_tests q
      e.0) ∙ ap (cond (eq_by_cmp nat_cmp q e.0) (Some e.1)) (lookup_found q es)

  pub lookup_kept : (q : ℕ) (es : List (ℕ × X)) →
      lookup (nat_eq q) es ≡ get (from_entries {R = nat_cmp} es) q
  lookup_kept q es = lookup_found q es ∙ sym (get-from_entries nat_cmp_total es q)

  -- entries with one more make the map with one more
  pub inserted : (old new : List (ℕ × X)) (k : ℕ) (v : X) → ((q : ℕ) →
      lookup (nat_eq q) new ≡ cond (nat_eq k q) (Some v) (lookup (nat_eq q) old)) →
      from_entries {R = nat_cmp} new ≡ insert (from_entries old) k v
  inserted old new k v given = same_map nat_cmp_total nat_cmp-IsAntisymmetric (from_entries new)
      (insert (from_entries old) k v) (λ q.
      sym (lookup_kept q new) ∙ given q
      ∙ ap (λ (b : Bool). cond b (Some v) (lookup (nat_eq q) old)) (key_turned k q)
      ∙ ap (cond (eq_by_cmp nat_cmp q k) (Some v)) (lookup_kept q old)
      ∙ sym (get-insert nat_cmp_total (from_entries old) k v q))

  -- entries with one less make the map with one less
  pub removed : (old new : List (ℕ × X)) (k : ℕ) → ((q : ℕ) →
      lookup (nat_eq q) new ≡ cond (nat_eq k q) None (lookup (nat_eq q) old)) →
      from_entries {R = nat_cmp} new ≡ remove (from_entries old) k
  removed old new k given = same_map nat_cmp_total nat_cmp-IsAntisymmetric (from_entries new)
      (remove (from_entries old) k) (λ q.
      sym (lookup_kept q new) ∙ given q
      ∙ ap (λ (b : Bool). cond b None (lookup (nat_eq q) old)) (key_turned k q)
      ∙ ap (cond (eq_by_cmp nat_cmp q k) None) (lookup_kept q old)
      ∙ sym (get-remove nat_cmp_total (from_entries old) k q))

  -- a key that stands later stands not before
  pub not_before : (done rest : List (ℕ × X)) (k : ℕ) (v : X) →
      IsDistinct nat_eq (keys_of (done ++ (k, v) ∷ rest)) → lookup (nat_eq k) done ≡ None
  unfolding IsDistinct
  not_before [] rest k v apart = refl
  not_before (e ∷ done) rest k v apart = rw (other done apart.0) (not_before done rest k v apart.1)
    where
      other : (es : List (ℕ × X)) → AllByRecursion (λ y. nat_eq e.0 y ≡ false) (keys_of (es ++ (
        k,
        v,
      ) ∷ rest)) → nat_eq k e.0 ≡ false
      other [] all = key_turned k e.0 ∙ sym (key_tests e.0 k) ∙ all.0
      other (f ∷ es) all = other es all.1

  -- nor does the first stand again
  pub not_again : (k : ℕ) (v : X) (rest : List (ℕ × X)) →
      IsDistinct nat_eq (keys_of ((k, v) ∷ rest)) → find nat_cmp k rest ≡ None
  unfolding IsDistinct
  not_again k v rest apart = none rest apart.0
    where
      none : (es : List (ℕ × X)) → AllByRecursion (λ y. nat_eq k y ≡ false) (keys_of es) →
          find nat_cmp k es ≡ None
      none [] all = refl
      none (e ∷ es) all = ap (λ (b : Bool). cond b (Some e.1) (find nat_cmp k es)) (sym (key_tests k
          e.0) ∙ all.0) ∙ none es all.1

  pub rest_distinct : (e : ℕ × X) (es : List (ℕ × X)) → IsDistinct nat_eq (keys_of (e ∷ es)) →
      IsDistinct nat_eq (keys_of es)
  unfolding IsDistinct
  rest_distinct e es apart = apart.1

-- ---- how many

len_next : (b : Bool) (m n : ℕ) → b ≡ false → m ≡ n → cond b m (m + 1) ≡ suc n
len_next true m n none is = absurd cc
len_next false m n none is = omega (arith, is)

-- entries with keys of their own make a map of as many
pub len_kept : {X : Type 0} (es : List (ℕ × X)) → IsDistinct nat_eq (keys_of es) →
    len (from_entries {R = nat_cmp} es) ≡ length es
len_kept {X = X} [] apart = len-empty nat_cmp X
len_kept (e ∷ es) apart =
    let none : contains_key (from_entries {R = nat_cmp} es) e.0 ≡ false = ap is_some
    (get-from_entries nat_cmp_total es e.0 ∙ not_again e.0 e.1 es apart) in
    len-insert nat_cmp_total (from_entries es) e.0 e.1
    ∙ len_next (contains_key (from_entries {R = nat_cmp} es) e.0) (len (from_entries {R =
    nat_cmp} es)) (length es) none (len_kept es (rest_distinct e es apart))

-- what is kept of a player that others have not
pub kept_so : (others found new : List (ℕ × List ℕ)) (k q : ℕ) (name stored : List ℕ) (named : Bool)
    → named ≡ is_named (find nat_cmp k others) name → named ≡ false → stored ≡ name →
    lookup (λ y. is_eq (nat_cmp q y)) new ≡ cond (is_eq (nat_cmp k q)) (Some stored) (lookup (λ y.
    is_eq (nat_cmp q y)) found) → find nat_cmp q new ≡ with_other others k name (find nat_cmp q
    found) q
kept_so others found new k q name stored named is not_named copy put = grind (arith, nat_tests)

-- whether a name is that of an identifier, by a look-up
pub named_so : (k : ℕ) (es : List (ℕ × List ℕ)) (other : Option (List ℕ)) (name : List ℕ) →
    other ≡ lookup (nat_eq k) es → is_named other name ≡ is_named (find nat_cmp k es) name
named_so k es other name is = ap (λ (o : Option (List ℕ)). is_named o name) (is ∙ lookup_found k es)
