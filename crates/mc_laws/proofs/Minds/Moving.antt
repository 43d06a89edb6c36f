-- Mobs that move by their plans change entities alone, keep a game good and such that packets can
-- tell it, and make and lose no item.
use Rattle.std.proofs.Common.{◌≡◌, Bool, true, false, List, refl, ap, arith}
use Rattle.std.specs.Prelude.{if◌then◌else◌}
use Rattle.std.proofs.lemmas.Bool.Decides.{nat_tests}
use Rattle.mc_fields.specs.declared.position.Spot.{Spot}
use Rattle.mc_entities.specs.declared.entity.Entity.{Entity}
use Rattle.mc_entities.specs.declared.entity.EntityKind.{EntityKind}
use Rattle.mc_entities.specs.declared.mind.Move.{Move}
use Rattle.mc_entities.specs.Folk.{after_tick, rank, stepped}
use Rattle.mc_entities.specs.Kinds.{is_mob}
use Rattle.mc_entities.specs.Plans.{move_at}
use Rattle.mc_entities.specs.Shift.{added, is_inside, shifted_spot}
use Rattle.mc_model.specs.Balance.{lying, sort_of}
use Rattle.mc_model.specs.Game.{Game}
use Rattle.mc_model.specs.Minds.{Plans, mobs_moved}
use Rattle.mc_model.specs.Fitting.{EntityFits, SpotFits, Told, kind_seen}
use Rattle.mc_model.specs.Good.{Good, is_body}
use Rattle.mc_model.proofs.Lasting.{IsSteady}
use Rattle.mc_model.proofs.LastingKept.{since_mapped}
use Rattle.mc_laws.proofs.Deeds.Leaving.{Leaves}
use Rattle.mc_laws.proofs.Fits.Counted.{mapped_counts}
use Rattle.mc_laws.proofs.Fits.Told.{mapped_told}
use Rattle.mc_laws.proofs.Minds.Mapped.{LeavesBodies, mapped_whole}
use Rattle.mc_laws.proofs.Landings.{inside_fits}
use Rattle.mc_laws.proofs.Pickups.Picking.{KeepsGood}
use Rattle.mc_laws.proofs.Weighing.Spending.{same_weighs}
use Rattle.mc_laws.proofs.Weighing.Stock.{entities_mapped}

-- ---- one mob

-- a spot that packets can tell is one still after a move
shifted_fits : (by : Move) (spot : Spot) → SpotFits spot → SpotFits (shifted_spot by spot)
shifted_fits by spot at = step (is_inside (added by spot)) refl
  where
    step : (b : Bool) → is_inside (added by spot) ≡ b →
        SpotFits (if b then added by spot else spot)
    step true is = inside_fits (added by spot) (record { yaw = at.yaw; pitch = at.pitch }) is
    step false is = at

-- a player is no mob
body_no_mob : (kind : EntityKind) → is_body kind ≡ true → is_mob kind ≡ false
body_no_mob kind is = grind (arith, nat_tests)

module _ (plans : Plans) (all : List Entity) where
  -- each keeps its number and its kind, and what is no mob is left as it was
  moves_mobs : LeavesBodies (after_tick plans all)
  moves_mobs = record {
    eid = λ e. grind (arith, nat_tests);
    kind = λ e. grind (arith, nat_tests);
    body = λ e is. grind (arith, nat_tests, body_no_mob);
  }

  moves_steady : IsSteady (after_tick plans all)
  moves_steady = record { eid = moves_mobs.eid; kind = λ e. ap kind_seen (moves_mobs.kind e) }

  moved_fits : (e : Entity) → EntityFits e → EntityFits (after_tick plans all e)
  moved_fits e fits =
      let by = move_at plans (rank all e.eid) in
      elim (is_mob e.kind) as (λ b. EntityFits (if b then stepped by e else e)) [
        | true ↦ record {
          low = fits.low;
          high = fits.high;
          spot = shifted_fits by e.spot fits.spot;
          kind = fits.kind;
          named = fits.named;
        }
        | false ↦ fits
      ]

-- ---- a game

pub mobs_leave : (plans : Plans) (g : Game) → Leaves g (mobs_moved plans g)
unfolding mobs_moved
mobs_leave plans g = record {
  settings = refl;
  age = refl;
  edits = refl;
  chests = refl;
  eids = refl;
  lines = refl;
  players = refl;
}

pub mobs_good : (plans : Plans) (g : Game) → Good g → Told g → KeepsGood g (mobs_moved plans g)
unfolding mobs_moved
mobs_good plans g good told =
    let moves = after_tick plans g.entities in
    let leaves = moves_mobs plans g.entities in
    let steady = moves_steady plans g.entities in
    record {
      good = mapped_whole moves leaves g.players g.entities g.eids g.packs good;
      told = mapped_told moves g.edits g.entities g.eids steady (moved_fits plans g.entities) told;
      since = λ old since. since_mapped moves g.entities steady since;
      counts = mapped_counts moves steady g.entities;
      weighs = λ id damage. same_weighs id damage g (mobs_moved plans g) refl refl refl refl
          (entities_mapped (sort_of id damage) moves
          (λ e. ap (lying (sort_of id damage)) (leaves.kind e)) g.entities);
    }
