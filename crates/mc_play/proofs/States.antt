-- Each edit is air or the state of a block with an id: setting a cell to such a state keeps that.
-- What is dug of a cell lies where a column can be shown.
use Rattle.std.proofs.Common.{◌≡◌, ℕ, ◌<◌, ◌≤◌, Bool, true, false, cond, refl, sym, subst, ◌∙◌}
use Rattle.std.proofs.Common.{arith, List, ℤ, pos, negsuc, ◌≤ℤ◌}
use Rattle.std.proofs.lemmas.Bool.Decides.{nat_tests}
use Rattle.std.proofs.lemmas.Int.{ints}
use Rattle.std.specs.Prelude.{◌⊎◌, ◌==◌, unsigned_abs, Some, None, if◌then◌else◌, Option, Result}
use Rattle.std.specs.Prelude.{Ok, Err, OnOk, OnErr, is_some}
use Rattle.std.specs.Ordering.{eq_by_cmp}
use Rattle.std.specs.FinMap.{FinMap, get, insert, remove, get-empty, get-insert, get-remove}
use Rattle.mc_fields.specs.declared.position.Cell.{Cell}
use Rattle.mc_slots.specs.declared.pile.Pile.{Pile}
use Rattle.mc_slots.specs.Chest.{IsChest}
use Rattle.mc_land.specs.declared.terrain.Terrain.{Terrain}
use Rattle.mc_land.specs.Places.{Key, Place, key_cmp, key_of, is_height, is_inside, is_within_border}
use Rattle.mc_land.specs.Land.{LandValue, edited, new_land, state_at, terrain_at, with_block}
use Rattle.mc_land.specs.Land.{with_ready}
use Rattle.mc_land.proofs.Orders.{keys_total}
use Rattle.mc_model.specs.Digging.{floor_of}
use Rattle.mc_model.specs.Game.{Game, state_in}
use Rattle.mc_model.specs.Things.{chest_of_cell, chest_put}
use Rattle.mc_model.proofs.FitsText.{both_true}
use Rattle.mc_play.specs.Kept.{AreStates, AreStocked, IsNear}
use Rattle.mc_play.proofs.Stocked.{inside_place, put_stocked, set_stocked}

-- a cell is set to a state
pub edited_states : (terrain : Terrain) (edits : FinMap key_cmp ℕ) (key : Key) (state : ℕ) →
    state < 4096 → (state ≡ 0) ⊎ (16 ≤ state) → AreStates edits →
    AreStates (edited terrain edits key state)
edited_states terrain edits key state small whole old q s =
    elim (state == terrain_at terrain key) as
    (λ b. get (if b then remove edits key else insert edits key state) q ≡ Some s → Is s) [
      | true ↦ λ e. gone (eq_by_cmp key_cmp q key) (sym (get-remove keys_total edits key q) ∙ e)
      | false ↦ λ e.
          came (eq_by_cmp key_cmp q key) (sym (get-insert keys_total edits key state q) ∙ e)
    ]
  where
    Is : ℕ → Type 0
    Is n = ((n ≡ 0) ⊎ (16 ≤ n)) × (n < 4096)

    gone : (b : Bool) → cond b None (get edits q) ≡ Some s → Is s
    gone true e = absurd cc
    gone false e = old q s e

    came : (b : Bool) → cond b (Some state) (get edits q) ≡ Some s → Is s
    came true e = (let same : state ≡ s = cc in subst Is same (whole, small))
    came false e = old q s e

-- ---- where what is dug lies

-- a height of the world
height_low : (y : ℤ) → is_height y ≡ true → (pos 0 ≤ℤ y) × (y ≤ℤ pos 255)
height_low y is = grind (arith, nat_tests)

-- a number not past the border
border_low : (v : ℤ) → is_within_border v ≡ true →
    (negsuc 29999999 ≤ℤ v) × (v ≤ℤ pos 30000000)
border_low v is = grind (arith, nat_tests)

-- the middle of the floor of a cell of the world
pub floor_near : (cell : Cell) → is_inside cell.x cell.y cell.z ≡ true →
    IsNear (floor_of cell)
floor_near cell is = grind (arith, nat_tests, both_true, height_low, border_low, ints)

-- ---- cells of the world

-- a cell of the world has the state of its key
pub inside_state : (g : Game) (cell : Cell) → is_inside cell.x cell.y cell.z ≡ true →
    state_at g.settings.terrain g.edits (key_of cell.x (unsigned_abs cell.y) cell.z)
    ≡ state_in g cell
inside_state g cell inside = grind (arith, nat_tests)

-- ---- a land

-- its terrain is the one that is told, each cell that was changed has a state, and each chest stands
-- in a column of the world
abbrev pub IsOurs : Terrain → LandValue → Type 0
IsOurs terrain land =
    (land.terrain ≡ terrain) × AreStates land.edits × AreStocked land.chests

pub new_states : (terrain : Terrain) (land : LandValue) → land ≡ new_land terrain →
    IsOurs terrain land
new_states terrain land is =
    subst (IsOurs terrain) (sym is) (
      refl,
      λ key state e. unedited state (sym (get-empty key_cmp key) ∙ e),
      λ key piles e. unfilled (sym (get-empty key_cmp key) ∙ e),
    )
  where
    unfilled : {A : Type 0} {piles : List Pile} →
        ◌≡◌ {A = Option (List Pile)} None (Some piles) → A
    unfilled e = absurd cc

    unedited : (state : ℕ) → ◌≡◌ {A = Option ℕ} None (Some state) →
        ((state ≡ 0) ⊎ (16 ≤ state)) × (state < 4096)
    unedited state e = absurd cc

-- where a cell is set to a state, or nothing
pub set_states : {A E : Type 0} (terrain : Terrain) (land : LandValue) → IsOurs terrain land →
    (cell : Cell) (state : ℕ) → is_inside cell.x cell.y cell.z ≡ true → state < 4096 →
    (state ≡ 0) ⊎ (16 ≤ state) → (next : LandValue) (r : Result A E) →
    OnOk r (next ≡ with_block land (key_of cell.x (unsigned_abs cell.y) cell.z) state) →
    OnErr r (next ≡ land) → IsOurs terrain next
set_states terrain land ours cell state inside small whole next (Ok old) ok err =
    let key = key_of cell.x (unsigned_abs cell.y) cell.z in
    subst (IsOurs terrain) (sym ok) (
      ours.0,
      edited_states land.terrain land.edits key state small whole ours.1,
      set_stocked land.chests ours.2 key (inside_place cell.x cell.y cell.z inside)
          (state_at land.terrain land.edits key) state,
    )
set_states terrain land ours cell state inside small whole next (Err fault) ok err =
    subst (IsOurs terrain) (sym err) ours

-- where a column is ready, or nothing
pub ready_ours : {A E : Type 0} (terrain : Terrain) (land : LandValue) → IsOurs terrain land →
    (place : Place) (next : LandValue) (r : Result A E) → OnOk r (next ≡ with_ready land place) →
    OnErr r (next ≡ land) → IsOurs terrain next
ready_ours terrain land ours place next (Ok done) ok err = subst (IsOurs terrain) (sym ok) ours
ready_ours terrain land ours place next (Err fault) ok err = subst (IsOurs terrain) (sym err) ours

-- where other piles lie in a chest
pub put_ours : (terrain : Terrain) (land next : LandValue) → IsOurs terrain land → (x y z : ℤ) →
    is_some (chest_of_cell land.chests x y z) ≡ true → (piles : List Pile) → IsChest piles →
    next ≡ record land { chests = chest_put land.chests x y z piles } → IsOurs terrain next
put_ours terrain land next ours x y z there piles chest is = subst (IsOurs terrain) (sym is)
    (ours.0, ours.1, put_stocked land.chests ours.2 x y z there piles chest)
