use Rattle.std.proofs.Common.{◌≡◌, ◌∙◌, ap, subst, sym, w8}
use Rattle.std.proofs.lemmas.Int.{to_z-of_z}
use Rattle.std.specs.Prelude.{Option, OnOk}
use Rattle.mc_fields.specs.declared.position.Cell.{Cell}
use Rattle.mc_model.specs.Reach.{at_face}
use Rattle.mc_model.specs.declared.player.Player.{Player}
use Rattle.mc_model.specs.Placing.{place_at}
use Rattle.mc_play.specs.Kept.{by_player, played}
use Rattle.mc_play.proofs.game.Game.place_on.Goals as goal

pub returns-in-Some : goal.returns-in-Some
returns-in-Some c = subst (λ (o : Option Cell). OnOk c.place_at.result
    (c.place_at.new.self ≡ played c.args.self.now (by_player c.args.connection
    (λ (p : Player). place_at c.args.connection p c.args.cell o) c.args.self.now.game)
    c.place_at.new.self.aside))
    (sym c.in-Some.is ∙ c.at_face.ensures
    ∙ ap (at_face c.args.cell) (to_z-of_z w8 c.args.face c.ranges.face))
    c.place_at.ensures
