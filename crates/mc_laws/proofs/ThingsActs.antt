-- What a player digs, drops and places keeps what packets rest on.
use Rattle.std.proofs.Common.{◌≡◌, suc, ◌+◌, ◌*◌, ◌≤◌, inr, arith}
use Rattle.std.specs.Prelude.{◌&&◌, Bool, true, unsigned_abs}
use Rattle.std.proofs.lemmas.Bool.{leb-true, ltb-true}
use Rattle.std.proofs.lemmas.Int.{ints}
use lib.IntN.{ℤ, pos, negsuc, ◌+ℤ◌, ◌*ℤ◌}
use lib.Signed.{◌≤ℤ◌}
use Rattle.mc_fields.specs.declared.position.Cell.{Cell}
use Rattle.mc_slots.specs.declared.pile.Item.{Item}
use Rattle.mc_slots.specs.Pile.{IsItem}
use Rattle.mc_land.specs.Places.{is_height, is_within_border}
use Rattle.mc_model.specs.Reach.{is_in_world}
use Rattle.mc_model.specs.Digging.{floor_of}
use Rattle.mc_model.specs.Placing.{item_state}
use Rattle.mc_model.specs.Fitting.{IsState, SpotFits}
use Rattle.mc_model.proofs.FitsText.{both_true}

-- what an item makes is a state
pub item_state_is : (item : Item) → IsItem item → IsState (item_state item)
item_state_is item is = cases item.id item.damage is.id.0 is.id.1 is.damage.0 is.damage.1
  where
    cases : (id damage : ℤ) → pos 1 ≤ℤ id → id ≤ℤ pos 255 → pos 0 ≤ℤ damage → damage ≤ℤ pos 15 →
        IsState (unsigned_abs id * 16 + unsigned_abs damage)
    cases id damage some few none most = record {
      small = omega (arith, ints, some, few, none, most);
      whole = inr (omega (arith, ints, some));
    }

-- ---- acts

-- numbers of a cell inside the world are those of a spot
side_fits : (v : ℤ) → is_within_border v ≡ true →
    unsigned_abs (pos 32 *ℤ v +ℤ pos 16) ≤ 960000016
side_fits (pos n) test = let few = leb-true n 30000000 test in omega (arith, ints, few)
side_fits (negsuc n) test =
    let few = leb-true (suc n) 30000000 test in omega (arith, ints, few)

-- and how high it is
height_fits : (v : ℤ) → is_height v ≡ true → unsigned_abs (pos 32 *ℤ v) ≤ 131072
height_fits (pos n) test = let few = ltb-true n 256 test in omega (arith, ints, few)
height_fits (negsuc n) test = absurd cc

-- the middle of the floor of a cell inside the world
pub floor_fits : (cell : Cell) → is_in_world cell ≡ true → SpotFits (floor_of cell)
floor_fits cell test =
    let y : Bool = is_height cell.y in
    let x : Bool = is_within_border cell.x in
    let z : Bool = is_within_border cell.z in
    let a = both_true (y && x) z test in
    let b = both_true y x a.0 in
    record {
      x = side_fits cell.x b.1;
      y = height_fits cell.y b.0;
      z = side_fits cell.z a.1;
      yaw = omega arith;
      pitch = omega arith;
    }
