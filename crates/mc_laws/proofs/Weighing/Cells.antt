-- The cells that were changed, counted by the states that they have and had: what setting one cell
-- makes of both counts, and of what lies in chests.
use Rattle.std.proofs.Common.{◌≡◌, ℕ, ◌+◌, Bool, true, false, cond, not, T, List, [], ◌∷◌, refl}
use Rattle.std.proofs.Common.{sym, ap, ◌∙◌, arith}
use Rattle.std.specs.Prelude.{Option, Some, None, unwrap_or, ◌==◌, if◌then◌else◌}
use Rattle.std.specs.List.{sum_by}
use Rattle.std.specs.declared.cmp.Ordering.{Ordering}
use Rattle.std.specs.Ordering.{is_eq, eq_by_cmp}
use Rattle.std.specs.Cmp.{IsTotalOrder, eq_by_cmp_equiv, tied_itself}
use Rattle.std.specs.FinMap.{FinMap, IsAntisymmetric, find, is_sorted, get, insert, remove}
use Rattle.std.specs.FinMap.{entries, entries_sorted, get-entries, get-insert, get-remove}
use Rattle.std.specs.FinMap.{same_map}
use Rattle.std.specs.FinMap.Entries.{where_key, find-where_key}
use Rattle.std.specs.FinMap.Entries.{is_sorted-where_key, same_entries}
use Rattle.std.proofs.lemmas.List.Sums.{sum_by-cons}
use Rattle.mc_slots.specs.declared.pile.Pile.{Pile}
use Rattle.mc_slots.specs.Chest.{empty_chest}
use Rattle.mc_slots.specs.Pile.{Sort}
use Rattle.mc_land.specs.declared.terrain.Terrain.{Terrain}
use Rattle.mc_land.specs.Places.{Key, key_cmp}
use Rattle.mc_land.specs.Land.{chests_after, edited, is_chest, state_at, terrain_at}
use Rattle.mc_land.proofs.Orders.{keys_total, exact_keys}
use Rattle.mc_windows.specs.Stock.{in_chest, in_piles}
use Rattle.mc_model.specs.Balance.{in_chests, one_of, now_edited, once_edited}
use Rattle.mc_model.proofs.Maps.Sorted.{second, equal, find_again}
use Rattle.mc_laws.proofs.Deeds.Chests.{chest_set, edit_set, same_key, state_set}

-- ---- sums over entries

-- what an entry counts that may be there
abbrev counted : {K X : Type 0} → (K × X → ℕ) → K → Option X → ℕ
counted f k None = 0
counted f k (Some v) = f (k, v)

-- a test turned over
turned : {A : Type 0} (b : Bool) (x y : A) → cond b y x ≡ cond (not b) x y
turned true x y = refl
turned false x y = refl

module _ {K X : Type 0} {R : K → K → Ordering} (o : IsTotalOrder R) (same : IsAntisymmetric R) where
  -- one that is taken out does not count any more
  sum_without : (f : K × X → ℕ) (k : K) (es : List (K × X)) → T (is_sorted R es) →
      sum_by f (where_key R (λ (x : K). not (eq_by_cmp R k x)) es) + counted f k (find R k es)
      ≡ sum_by f es
  sum_without f k [] h = refl
  sum_without f k (e ∷ es) h =
      let rest = where_key R (λ (x : K). not (eq_by_cmp R k x)) es in
      elim (eq_by_cmp R k e.0) as (λ b. eq_by_cmp R k e.0 ≡ b →
      sum_by f (cond (not b) (e ∷ rest) rest) + counted f k (cond b (Some e.1) (find R k es))
      ≡ sum_by f (e ∷ es)) [
        | true ↦ λ t.
            let there : f (k, e.1) ≡ f e = ap (λ (q : K). f (q, e.1)) (same k e.0 (equal _ t)) in
            let none : counted f k (find R k es) ≡ 0 =
            ap (counted f k) (find_again o k e es h t) in
            omega (arith, sum_by-cons f e es, there, none, sum_without f k es (second _ _ h))
        | false ↦ λ t.
            omega (
              arith,
              sum_by-cons f e rest,
              sum_by-cons f e es,
              sum_without f k es (second _ _ h),
            )
      ] refl

  -- the entries without a key
  entries_removed : (m : FinMap R X) (k : K) →
      entries (remove m k) ≡ where_key R (λ (x : K). not (eq_by_cmp R k x)) (entries m)
  entries_removed m k = same_entries R o same _ _ (entries_sorted (remove m k))
      (is_sorted-where_key R _ (entries m) (entries_sorted m)) (λ q.
      sym (get-entries (remove m k) q) ∙ get-remove o m k q
      ∙ ap (λ (b : Bool). cond b None (get m q)) ((eq_by_cmp_equiv o).symm q k)
      ∙ ap (λ (v : Option X). cond (eq_by_cmp R k q) None v) (get-entries m q)
      ∙ turned (eq_by_cmp R k q) (find R q (entries m)) None
      ∙ sym (find-where_key R (λ (x : K). not (eq_by_cmp R k x)) q
      (λ x t. ap (λ (y : K). not (eq_by_cmp R k y)) (sym (same q x t))) (entries m)))

  -- the sum over a map out of which an entry is taken
  sum_removed : (f : K × X → ℕ) (m : FinMap R X) (k : K) →
      sum_by f (entries (remove m k)) + counted f k (get m k) ≡ sum_by f (entries m)
  sum_removed f m k = rw (entries_removed m k, get-entries m k)
      (sum_without f k (entries m) (entries_sorted m))

  -- over maps that are alike but for one entry
  pub sum_but : (f : K × X → ℕ) (m n : FinMap R X) (k : K) →
      ((q : K) → eq_by_cmp R q k ≡ false → get n q ≡ get m q) →
      sum_by f (entries n) + counted f k (get m k) ≡ sum_by f (entries m) + counted f k (get n k)
  sum_but f m n k others =
      let rest = ap (λ (x : FinMap R X). sum_by f (entries x)) (same_map o same (remove n k)
      (remove m k) (λ q. get-remove o n k q ∙ but (eq_by_cmp R q k) (others q)
      ∙ sym (get-remove o m k q))) in
      omega (arith, rest, sum_removed f m k, sum_removed f n k)
    where
      but : {a b : Option X} (t : Bool) → (t ≡ false → a ≡ b) → cond t None a ≡ cond t None b
      but true alike = refl
      but false alike = alike refl

  -- and over one into which one is put
  pub sum_inserted : (f : K × X → ℕ) (m : FinMap R X) (k : K) (v : X) →
      sum_by f (entries (insert m k v)) + counted f k (get m k)
      ≡ sum_by f (entries m) + f (k, v)
  sum_inserted f m k v = sum_but f m (insert m k v) k (λ q far. get-insert o m k v q
      ∙ ap (λ (b : Bool). cond b (Some v) (get m q)) far) ∙ ap (λ (x : Option X).
      sum_by f (entries m) + counted f k x) (get-insert o m k v k
      ∙ ap (λ (b : Bool). cond b (Some v) (get m k)) (ap is_eq (tied_itself o k)))

-- ---- a cell that is set

-- of each state so many more cells have it as had it before
pub edited_counts : (s : ℕ) (terrain : Terrain) (edits : FinMap key_cmp ℕ) (key : Key) (new : ℕ) →
    now_edited s (edited terrain edits key new) + once_edited s terrain edits
    + one_of s (state_at terrain edits key)
    ≡ now_edited s edits + once_edited s terrain (edited terrain edits key new) + one_of s new
edited_counts s terrain edits key new =
    let after = edited terrain edits key new in
    let far : (q : Key) → eq_by_cmp key_cmp q key ≡ false → get after q ≡ get edits q =
    λ q other. edit_set terrain edits key q new ∙ ap (λ (b : Bool). cond b
    (if new == terrain_at terrain key then None else Some new) (get edits q)) other in
    let now = sum_but keys_total exact_keys now_of edits after key far in
    let once = sum_but keys_total exact_keys once_of edits after key far in
    let is = ap (one_of s) (state_set terrain edits key key new
    ∙ ap (λ (b : Bool). cond b new (state_at terrain edits key)) (same_key key)) in
    omega (arith, now, once, of_one (get edits key), of_one (get after key), is)
  where
    now_of : Key × ℕ → ℕ
    now_of e = one_of s e.1

    once_of : Key × ℕ → ℕ
    once_of e = one_of s (terrain_at terrain e.0)

    of_one : (o : Option ℕ) → counted now_of key o + one_of s (terrain_at terrain key)
        ≡ counted once_of key o + one_of s (unwrap_or o (terrain_at terrain key))
    of_one None = refl
    of_one (Some state) = omega arith

-- ---- chests

-- what is counted of a chest that may be there
chest_counts : (sort : Sort) (key : Key) (o : Option (List Pile)) →
    counted (λ (e : Key × List Pile). in_piles sort e.1) key o ≡ in_chest sort o
chest_counts sort key None = refl
chest_counts sort key (Some piles) = refl

-- what lies in chests now, and what lay in the one that the cell was
pub chest_weighs : (sort : Sort) (chests : FinMap key_cmp (List Pile)) (key : Key)
    (old new : ℕ) →
    in_chests sort (chests_after chests key old new) + in_chest sort (get chests key)
    ≡ in_chests sort chests + in_chest sort (get (chests_after chests key old new) key)
chest_weighs sort chests key old new =
    let after = chests_after chests key old new in
    let all = sum_but keys_total exact_keys (λ (e : Key × List Pile). in_piles sort e.1) chests
    after key (λ q far. chest_set chests key q old new ∙ ap (λ (b : Bool). cond b
    (if is_chest new then (if is_chest old then get chests key else Some empty_chest) else None)
    (get chests q)) far) in
    omega (
      arith,
      all,
      chest_counts sort key (get chests key),
      chest_counts sort key (get after key),
    )

-- and where other piles lie in one
pub stocked_weighs : (sort : Sort) (chests : FinMap key_cmp (List Pile)) (key : Key)
    (piles : List Pile) → in_chests sort (insert chests key piles) + in_chest sort (get chests key)
    ≡ in_chests sort chests + in_piles sort piles
stocked_weighs sort chests key piles =
    let all = sum_inserted keys_total exact_keys (λ (e : Key × List Pile). in_piles sort e.1) chests
    key piles in
    omega (arith, all, chest_counts sort key (get chests key))
