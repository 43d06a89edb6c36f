-- The packets of entities fit: those that show one, say what it holds or is, and take some away.
use Rattle.std.specs.Int.{w32}
use lib.IntN.{ℤ}
use mir.Val.{SFits}
use Rattle.mc_fields.specs.declared.position.Spot.{Spot}
use Rattle.mc_slots.specs.declared.slot.Slot.{Slot}
use Rattle.mc_model.specs.declared.seen.SeenKind.{SeenKind}
use Rattle.mc_model.specs.declared.seen.SeenKind.TheVariants as seen_kinds
use Rattle.mc_model.specs.Delta.{id_in_hand, spawn_as}
use Rattle.mc_model.specs.Fitting.{SpotFits}
use Rattle.mc_model.proofs.FitsList.{AreClear}
use Rattle.mc_model.proofs.FitsSlots.{SlotFits}
use Rattle.mc_model.proofs.FitsMoves.{head_clear}
use Rattle.mc_model.proofs.FitsEntities.{KindFits, hand_clear, hand_fits, mob_clear, object_clear}
use Rattle.mc_model.proofs.FitsEntities.{pile_slot_clear, player_clear}
use Rattle.mc_laws.proofs.FitsMoves.{east_fits, up_fits, south_fits}

-- whatever it is
pub spawn_clear : (eid : ℤ) (kind : SeenKind) (spot : Spot) (pile : Slot) → SFits w32 eid →
    KindFits kind → SpotFits spot → SlotFits pile → AreClear (spawn_as eid kind spot pile)
spawn_clear eid (seen_kinds.Player uuid) spot pile in_32 in_128 at f = (
  player_clear eid uuid spot.x spot.y spot.z spot.yaw spot.pitch (id_in_hand pile) in_32 in_128
      (east_fits spot at) (up_fits spot at) (south_fits spot at) at.yaw at.pitch
      (hand_fits pile f.fits),
  (head_clear eid spot.yaw in_32 at.yaw, hand_clear eid uuid pile in_32 f),
)
spawn_clear eid seen_kinds.Dropped spot pile in_32 known at f = (
  object_clear eid spot.x spot.y spot.z spot.yaw spot.pitch in_32 (east_fits spot at)
      (up_fits spot at) (south_fits spot at) at.yaw at.pitch,
  pile_slot_clear eid seen_kinds.Dropped pile in_32 f,
)
spawn_clear eid seen_kinds.Mob spot pile in_32 known at f = (
  mob_clear eid spot.x spot.y spot.z spot.yaw spot.pitch in_32 (east_fits spot at)
      (up_fits spot at) (south_fits spot at) at.yaw at.pitch,
  tt,
)
