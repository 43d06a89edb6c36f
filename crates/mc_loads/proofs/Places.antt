-- The places of a view lie in the world, and pieces that are appended.
use Rattle.std.proofs.Common.{◌≡◌, ℕ, ◌≤◌, not, true, List, [], ◌∷◌, ◌++◌, Option, Some, None, refl}
use Rattle.std.proofs.Common.{ap, ◌∙◌, arith}
use Rattle.std.specs.Prelude.{unsigned_abs}
use Rattle.std.specs.List.{AllByRecursion, Contains}
use Rattle.std.specs.Ordering.{eq_by_cmp}
use Rattle.std.proofs.lemmas.List.{append-nil}
use Rattle.std.proofs.lemmas.List.Elements.{Contains-append_right}
use Rattle.std.proofs.lemmas.Grind.{flat_map-append}
use Rattle.std.proofs.lemmas.Int.{ints}
use lib.IntN.{ℤ, pos, neg_ℤ, ◌-ℤ◌}
use lib.Signed.{◌≤ℤ◌}
use Rattle.mc_frame.specs.Kept.{joined}
use Rattle.mc_land.specs.Places.{Place, IsPlace, place_cmp}
use Rattle.mc_land.specs.declared.places.TheConstants.{COLUMN_BORDER}
use Rattle.mc_land.proofs.Orders.{exact_places}
use Rattle.mc_view.proofs.Near.{near_both}
use Rattle.mc_model.proofs.ViewFacts.{view_near}
use Rattle.mc_view.specs.declared.view_set.ViewSet.{ViewSet}
use Rattle.mc_view.specs.declared.view_set.TheConstants.{MIDDLE_BORDER}
use Rattle.mc_view.specs.Sets.{has, all_of, lacking}
use Rattle.mc_bytes.proofs.Trees.{equal}
use Rattle.mc_sending.proofs.Pieces.{all_filtered}
use Rattle.mc_loads.specs.Columns.{entered_of}

-- one more piece
pub piece_pushed : (old new : List (List ℕ)) (piece : List ℕ) → new ≡ old ++ piece ∷ [] →
    joined new ≡ joined old ++ piece
piece_pushed old new piece put =
    ap joined put ∙ flat_map-append (λ (p : List ℕ). p) old (piece ∷ [])
    ∙ ap (λ (t : List ℕ). joined old ++ t) (append-nil piece)

pub same_place : (x y : Place) → eq_by_cmp place_cmp x y ≡ true → x ≡ y
same_place x y t = exact_places x y (equal (place_cmp x y) t)

-- ---- places of views

-- what holds of each element holds of all
pub all_of_list : {A : Type 0} (P : A → Type 0) (xs : List A) → ((x : A) → Contains xs x → P x) →
    AllByRecursion P xs
all_of_list P [] each = tt
all_of_list P (x ∷ xs) each = (
  each x (0, omega arith, refl),
  all_of_list P xs (λ y held. each y
      (Contains-append_right (x ∷ []) xs y held)),
)

-- what is near a middle is within the world, on one axis
number_near : (m z : ℤ) (d : ℕ) → neg_ℤ (pos MIDDLE_BORDER) ≤ℤ m → m ≤ℤ pos MIDDLE_BORDER → d ≤ 8 →
    unsigned_abs (z -ℤ m) ≤ d → (neg_ℤ (pos COLUMN_BORDER) ≤ℤ z) × (z ≤ℤ pos COLUMN_BORDER)
number_near m z d low high few near = (omega (arith, ints), omega (arith, ints))

-- where the middle of a view can be
abbrev pub IsMiddle : ViewSet → Type 0
IsMiddle view = (neg_ℤ (pos MIDDLE_BORDER) ≤ℤ view.cx) × (view.cx ≤ℤ pos MIDDLE_BORDER)
    × (neg_ℤ (pos MIDDLE_BORDER) ≤ℤ view.cz) × (view.cz ≤ℤ pos MIDDLE_BORDER) × (view.d ≤ 8)

-- and on both
place_near : (view : ViewSet) (place : Place) → IsMiddle view → has view place ≡ true →
    IsPlace place
place_near view place m near =
    let apart = near_both (unsigned_abs (place.0 -ℤ view.cx)) (unsigned_abs (place.1 -ℤ view.cz))
    view.d near in
    let x = number_near view.cx place.0 view.d m.0 m.1 m.4 apart.0 in
    let z = number_near view.cz place.1 view.d m.2 m.3 m.4 apart.1 in
    record { cx_low = x.0; cx_high = x.1; cz_low = z.0; cz_high = z.1 }

-- the places of a view lie in the world
pub view_places : (view : ViewSet) → IsMiddle view → AllByRecursion IsPlace (all_of view)
view_places view m = all_of_list IsPlace (all_of view) (λ place held. place_near view place m
    (view_near (view.cx, view.cz) view.d place held))

-- what holds of all columns of a view holds of those that another lacks
pub lacking_holds : (P : Place → Type 0) (view other : ViewSet) → AllByRecursion P (all_of view) →
    AllByRecursion P (lacking view other)
lacking_holds P view other all = all_filtered P (λ (place : Place). not (has other place)) (all_of
    view) all

-- and of those that come
pub entered_holds : (P : Place → Type 0) (was : Option ViewSet) (view : ViewSet) →
    AllByRecursion P (all_of view) → AllByRecursion P (entered_of was view)
entered_holds P None view all = all
entered_holds P (Some old) view all = lacking_holds P view old all
