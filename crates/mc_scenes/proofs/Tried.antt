-- Conditions that were tried for each column of a view.
use Rattle.std.proofs.Common.{◌≡◌, ◌↔◌, Bool, true, false, List, [], ◌∷◌, Option, Some, None}
use Rattle.std.proofs.Common.{refl, sym, subst}
use Rattle.std.specs.List.{AllByRecursion}
use Rattle.std.specs.FinSet as set
use Rattle.mc_land.specs.Places.{Place, IsPlace}
use Rattle.mc_land.specs.Land.{LandValue}
use Rattle.mc_view.specs.declared.view_set.ViewSet.{ViewSet}
use Rattle.mc_view.specs.Sets.{all_of}
use Rattle.mc_loads.specs.Columns.{IsReady, entered_of}
use Rattle.mc_loads.proofs.Places.{lacking_holds}

-- the next of those that are left passed too
pub tried_next : {A : Type 0} (P : A → Type 0) (all left rest : List A) (x : A) →
    left ≡ x ∷ rest → P x → (AllByRecursion P left → AllByRecursion P all) → AllByRecursion P rest →
    AllByRecursion P all
tried_next P all left rest x next here so_far others =
    so_far (subst (AllByRecursion P) (sym next) (here, others))

-- a column that is ready
abbrev pub IsThere : LandValue → Place → Type 0
IsThere land place = set.contains land.ready place ≡ true

-- columns that lie in the world and are ready may be looked at
pub all_ready : (land : LandValue) (places : List Place) → AllByRecursion IsPlace places →
    AllByRecursion (IsThere land) places → AllByRecursion (IsReady land) places
all_ready land [] near there = tt
all_ready land (place ∷ places) near there =
    (record { near = near.0; ready = there.0 }, all_ready land places near.1 there.1)

-- where all columns of a view may be, those may that come
pub entered_ready : (land : LandValue) (was : Option ViewSet) (view : ViewSet) →
    AllByRecursion (IsReady land) (all_of view) →
    AllByRecursion (IsReady land) (entered_of was view)
entered_ready land None view all = all
entered_ready land (Some old) view all = lacking_holds (IsReady land) view old all

-- two tests that fail together are alike
pub same_answer : (a b : Bool) → (a ≡ false) ↔ (b ≡ false) → a ≡ b
same_answer true true s = refl
same_answer true false s = s.1 refl
same_answer false b s = sym (s.0 refl)
