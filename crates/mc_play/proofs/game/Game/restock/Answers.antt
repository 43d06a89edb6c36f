use Rattle.std.proofs.Common.{◌≡◌, List, Option, Some, None, rules, sym, ◌∙◌, arith}
use Rattle.std.specs.Option.{option_zip}
use Rattle.mc_fields.specs.declared.position.Cell.{Cell}
use Rattle.mc_slots.specs.declared.pile.Pile.{Pile}
use Rattle.mc_model.specs.Deeds.{restocked}
use Rattle.mc_model.specs.Game.{Game}
use Rattle.mc_model.specs.Windows.{restocking}
use Rattle.mc_play.specs.contracts.game.Game.{the_view}
use Rattle.mc_play.proofs.game.Game.restock.Goals as goal

-- a chest is shown, and has other piles after it
both : (shown : Option Cell) (chest : Option (List Pile)) (cell : Cell) (piles : List Pile)
    (g : Game) → option_zip shown chest ≡ Some (cell, piles) →
    restocking shown chest g ≡ restocked cell piles g
both (Some a) (Some b) cell piles g is = grind (arith)
both (Some a) None cell piles g is = grind (arith)
both None chest cell piles g is = grind (arith)

pub returns-in-Some : goal.returns-in-Some
returns-in-Some c =
    rw (
      c.restock.ensures,
      ← c.self.view_is,
      both c.args.shown c.args.chest _ _ (the_view c.self.inside).game
          (sym c.zip.ensures ∙ c.in-Some.is),
    ) (search rules)
