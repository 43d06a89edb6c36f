use Rattle.std.proofs.Common.{◌∙◌, sym, rules, w32}
use Rattle.std.proofs.lemmas.Int.{to_z-of_z}
use Rattle.indexmap.proofs.MapLemmas.{OnOk-map}
use Rattle.mc_play.proofs.Steps.{in_play}
use Rattle.mc_play.proofs.Stowing.{stows}
use Rattle.mc_play.proofs.game.Game.stow.Goals as goal

pub returns-clause-is : goal.returns-clause-is
returns-clause-is c =
    let found = c.found.inside in
    OnOk-map c.lessen.result _ _ (stows c.args.connection c.in-Some.player.now _ found.item c.args.found
    c.pack_of-pack.result c.store-left.new.pack c.some_of.result c.args.self.now
    c.repack.new.self c.lessen.new.self c.args.gone.now.keys c.lessen.new.gone.keys
    (in_play c.args.connection c.self.view_is c.in-Some.ensures)
    ((λ i. (to_z-of_z w32 found.eid (search rules) i, found.item)) ∙ c.found.view_is)
    c.pack_of-pack.ensures c.store-left.ensures.pack
    (c.some_of.ensures.is ∙ sym c.store-left.ensures.rest) c.repack.ensures)
    c.lessen.ensures.is
