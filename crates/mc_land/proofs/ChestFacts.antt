-- Chests of a land that is kept, as they are looked at and as they are written.
use Rattle.std.proofs.Common.{◌≡◌, ◌↔◌, ℕ, ◌<◌, Bool, true, false, cond, ◌||◌, List, [], ◌∷◌, map}
use Rattle.std.proofs.Common.{Option, Some, None, IsSome, IsNone, Bor, MutBor, refl, sym, ap, ◌∙◌}
use Rattle.std.proofs.Common.{arith, inl, inr}
use Rattle.std.proofs.lemmas.Bool.Decides.{nat_tests}
use Rattle.std.proofs.lemmas.Int.{ints}
use Rattle.std.specs.declared.cmp.Ordering.{Ordering}
use Rattle.std.specs.Ordering.{is_eq, eq_by_cmp, ordering_reverse}
use Rattle.std.specs.Option.{is_some, option_copied, option_copied_mut, ghost_name_of}
use Rattle.std.specs.List.{list_any}
use Rattle.std.specs.Map.{lookup}
use Rattle.std.specs.FinMap.{get, find, insert, from_entries, get-from_entries, get-insert}
use Rattle.std.specs.FinMap.{same_map}
use Rattle.std.proofs.lemmas.Bool.{lt-ltb}
use Rattle.mc_slots.specs.declared.pile.Pile.{Pile}
use Rattle.mc_column.specs.Sizes.{cells}
use Rattle.mc_land.specs.declared.terrain.Terrain.{Terrain}
use Rattle.mc_land.specs.Places.{Key, key_of, key_cmp}
use Rattle.mc_land.specs.Land.{LandValue, state_at, block, is_chest}
use Rattle.mc_land.specs.Chests.{chest_in, chest_put, with_chest}
use Rattle.mc_land.specs.KeptLand.{Columns, Chests, kept_land, IsKeptLand}
use Rattle.mc_land.proofs.Orders.{keys_total, exact_keys}
use Rattle.mc_land.proofs.KeptLandFacts.{lookup_is}
use Rattle.mc_land.proofs.PlaceFacts.{key_within}
use borrow.Follows.Closed.{read_of}
use lib.IntN.{ℤ, pos, negsuc}
use lib.Signed.{◌≤ℤ◌, ◌<ℤ◌}

copied : (o : Option (Bor (List Pile))) → is_some (option_copied o) ≡ is_some o
copied None = refl
copied (Some r) = refl

copied_mut : (o : Option (MutBor (List Pile))) → is_some (option_copied_mut o) ≡ is_some o
copied_mut None = refl
copied_mut (Some r) = refl

-- ---- what is looked at

-- a chest is kept exactly where the state is one's
pub chest_kept : (terrain : Terrain) (columns : Columns) (chests : Chests) (key : Key) →
    IsKeptLand terrain columns chests → key.1 < cells →
    is_some (get (kept_land terrain columns chests).chests key) ≡
    is_chest (state_at terrain (kept_land terrain columns chests).edits key)
chest_kept terrain columns chests key kept lt = rw (get-from_entries keys_total chests key)
    (kept.chests_are key.0 key.1 lt)

-- a chest is there exactly where the cell at x, y and z is one
pub chest_there : (land : LandValue) (x y z : ℤ) (key : Key) → pos 0 ≤ℤ y → y <ℤ pos 256 →
    ((h : ℕ) → y ≡ pos h → key ≡ key_of x h z) → (key.1 < cells → is_some (get land.chests key) ≡
    is_chest (state_at land.terrain land.edits key)) → is_some (chest_in land x y z) ≡
    is_chest (block land x y z)
chest_there land x (pos y) z key low high is there =
    grind (arith, nat_tests, ints, lt-ltb y 256, key_within x z y)
chest_there land x (negsuc y) z key low high is there = absurd (omega (arith, ints, low))

-- what is at a cell is what is at its key
pub chest_in_is : (land : LandValue) (x y z : ℤ) (key : Key) → pos 0 ≤ℤ y → y <ℤ pos 256 →
    ((h : ℕ) → y ≡ pos h → key ≡ key_of x h z) → chest_in land x y z ≡ get land.chests key
chest_in_is land x y z key low high is = grind (arith, nat_tests)

pub chest_put_is : (land : LandValue) (x y z : ℤ) (key : Key) (piles : List Pile) → pos 0 ≤ℤ y →
    y <ℤ pos 256 → ((h : ℕ) → y ≡ pos h → key ≡ key_of x h z) → with_chest land key piles ≡
    chest_put land x y z piles
chest_put_is land x y z key piles low high is = grind (arith, nat_tests)

pub none_there : (o : Option (Bor (List Pile))) (c : Option (List Pile)) (b : Bool) →
    option_copied o ≡ c → is_some c ≡ b → IsNone o ↔ (b ≡ false)
none_there o c b e f = grind (arith, nat_tests)

pub none_there_mut : (o : Option (MutBor (List Pile))) (c : Option (List Pile)) (b : Bool) →
    option_copied_mut o ≡ c → is_some c ≡ b → IsNone o ↔ (b ≡ false)
none_there_mut o c b e f = grind (arith, nat_tests)

-- ---- what is written

among : (q : Key) (es : Chests) → is_some (find key_cmp q es) ≡ list_any (eq_by_cmp key_cmp q)
    (map (λ e. e.0) es)
among q [] = refl
among q (e ∷ es) =
    elim (eq_by_cmp key_cmp q e.0) as (λ b. is_some (cond b (Some e.1) (find key_cmp q es)) ≡
    (b || list_any (eq_by_cmp key_cmp q) (map (λ e. e.0) es))) [
      | true ↦ refl
      | false ↦ among q es
    ]

-- other piles in the same chests
pub kept_piles : (terrain : Terrain) (columns : Columns) (old new : Chests) →
    IsKeptLand terrain columns old → map (λ e. e.0) new ≡ map (λ e. e.0) old →
    IsKeptLand terrain columns new
kept_piles terrain columns old new kept same = record {
  columns_apart = kept.columns_apart;
  chests_ordered = rw same kept.chests_ordered;
  chests_inside = λ place i some. kept.chests_inside place i (among (place, i) old ∙
      sym (ap (list_any (eq_by_cmp key_cmp (place, i))) same) ∙ sym (among (place, i) new) ∙ some);
  own = kept.own;
  chests_are = λ place i lt. among (place, i) new ∙ ap (list_any (eq_by_cmp key_cmp (place, i)))
      same ∙ sym (among (place, i) old) ∙ kept.chests_are place i lt;
}

tie_back : (o : Ordering) → is_eq (ordering_reverse o) ≡ is_eq o
tie_back o = grind (arith, nat_tests)

-- the chests with other piles in one of them
pub put_piles : (old new : Chests) (key : Key) (piles : List Pile) →
    ((q : Key) → lookup (λ k. is_eq (key_cmp q k)) new ≡ cond (is_eq (key_cmp key q)) (Some piles)
    (lookup (λ k. is_eq (key_cmp q k)) old)) → from_entries {R = key_cmp} new ≡
    insert (from_entries old) key piles
put_piles old new key piles given =
    same_map keys_total exact_keys (from_entries new) (insert (from_entries old) key piles) (λ q.
    get-from_entries keys_total new q ∙ sym (lookup_is key_cmp q new) ∙ given q
    ∙ ap (λ (b : Bool). cond b (Some piles) (lookup (λ k. is_eq (key_cmp q k)) old))
    (ap is_eq (keys_total.antisymm key q) ∙ tie_back (key_cmp q key))
    ∙ ap (λ (o : Option (List Pile)). cond (is_eq (key_cmp q key)) (Some piles) o)
    (lookup_is key_cmp q old ∙ sym (get-from_entries keys_total old q))
    ∙ sym (get-insert keys_total (from_entries old) key piles q))

pub put_view : (terrain : Terrain) (columns : Columns) (old new : Chests) (key : Key)
    (piles : List Pile) → ((q : Key) → lookup (λ k. is_eq (key_cmp q k)) new ≡
    cond (is_eq (key_cmp key q)) (Some piles) (lookup (λ k. is_eq (key_cmp q k)) old)) →
    kept_land terrain columns new ≡ with_chest (kept_land terrain columns old) key piles
put_view terrain columns old new key piles given = grind (arith, nat_tests, put_piles)

-- where one is lent, there is one
pub lent_is : (o : Option (MutBor (List Pile))) (c : Option (List Pile)) → option_copied_mut o ≡ c →
    IsSome o → IsSome c
lent_is o c e some = sym (ap is_some e) ∙ copied_mut o ∙ some

-- what a lender ends as, by what is lent
pub lends_alike : {D E : Type 0} (o : Option (MutBor E)) (F G : E → D) (v w : D) →
    (IsSome o → (x : E) → F x ≡ G x) → (IsNone o → v ≡ w) → read_of (ghost_name_of o) F v ≡
    read_of (ghost_name_of o) G w
lends_alike None F G v w some none = λ i. inr (none refl i)
lends_alike (Some r) F G v w some none = λ i. inl (r.ghost_name, λ x. some refl x i)
