-- What becomes of an item that a player picks up (a rule of this project).
use Rattle.std.specs.Prelude.{None}
use Rattle.mc_slots.specs.declared.pile.Item.{Item}
use Rattle.mc_slots.specs.declared.pile.Pile.TheVariants.{Full}
use Rattle.mc_windows.specs.declared.place.Place.TheVariants.{Floor}
use Rattle.mc_windows.specs.declared.order.Order.TheVariants.{PickedUp}
use Rattle.mc_windows.specs.declared.desk.Desk.{Desk}
use Rattle.mc_windows.specs.Pack.{PackValue}
use Rattle.mc_windows.specs.Moves.{run}
use Rattle.mc_windows.specs.Clicks.{sent}

-- it goes from outside to stacks of the same item and then to the first slot with nothing, the
-- hotbar first; what finds no room stays outside
unfoldable pub stored : PackValue → Item → Desk
stored pack item = run (sent Floor PickedUp)
    (record { pack = pack; chest = None; floor = Full item })
