-- What packets can tell: players, where they enter, air, and what is dug.
use Rattle.std.proofs.Common.{◌≡◌, ℕ, ◌/◌, true, false, refl, sym, ap, ◌∙◌, inl, inr, arith}
use Rattle.std.specs.Prelude.{not, ◌==◌}
use Rattle.std.proofs.lemmas.Int.{ints}
use Rattle.mc_slots.specs.Pile.{IsItem}
use Rattle.mc_land.specs.declared.terrain.Terrain.{Terrain}
use Rattle.mc_model.specs.declared.player.Player.{Player}
use Rattle.mc_model.specs.Spots.{spawn_spot}
use Rattle.mc_model.specs.Digging.{is_dug, block_item}
use Rattle.mc_model.specs.Fitting.{IsState, SpotFits}
use Rattle.mc_model.proofs.FitsNotes.{NotesFit}
use Rattle.mc_model.proofs.FitsText.{IsShort, both_true}
use Rattle.mc_model.proofs.ThingFacts.{spawn_low}

-- packets can tell the name of a player, and what is noted for its client
pub record PlayerIsTold (p : Player) : Type 0 where
  pub name : IsShort 16 p.name
  pub notes : NotesFit p.notes

-- the place where they enter fits
pub spawn_fits : (terrain : Terrain) → SpotFits (spawn_spot terrain)
spawn_fits terrain = let low = spawn_low terrain in
    record {
      x = omega arith;
      y = omega (arith, low);
      z = omega arith;
      yaw = omega arith;
      pitch =
          omega arith;
    }

-- air, which has the state 0
pub air : IsState 0
air = record { small = omega arith; whole = inl refl }

-- ---- what is dug

-- of such a state that is dug comes an item that the world holds
pub block_is_item : (state : ℕ) → IsState state → is_dug state ≡ true → IsItem (block_item state)
block_is_item state is dug =
    let test = (both_true (not (state == 0)) (not (state / 16 == 7)) dug).0 in
    elim (is.whole) [
      | inl none ↦
          (let clash : true ≡ false = sym test ∙ ap (λ (n : ℕ). not (n == 0)) none in absurd cc)
      | inr some ↦ record {
        id = (omega (arith, ints, some), omega (arith, ints, is.small));
        damage = (omega (arith, ints), omega (arith, ints));
        count = (omega arith, omega arith);
      }
    ]
