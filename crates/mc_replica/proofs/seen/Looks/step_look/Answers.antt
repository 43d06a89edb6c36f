use Rattle.std.proofs.Common.{sym, ◌∙◌}
use Rattle.mc_model.specs.Replica.{onward}
use Rattle.mc_replica.specs.contracts.seen.Looks.{the_view as view_of}
use Rattle.mc_replica.proofs.Spots.{looking_none, put_looking}
use Rattle.mc_replica.proofs.seen.Looks.step_look.Goals as goal

pub returns-in-Some : goal.returns-in-Some
returns-in-Some c =
    let s = onward c.args.dx.now c.args.dy.now c.args.dz.now c.self.inside.spot in
    rw (← c.self.view_is) (c.look.ensures
    ∙ put_looking s c.in-Some.spot c.args.yaw c.args.pitch (view_of c.self.inside)
    (sym c.onward.ensures ∙ c.in-Some.is))

pub returns-in_default : goal.returns-in_default
returns-in_default c =
    let s = onward c.args.dx.now c.args.dy.now c.args.dz.now c.self.inside.spot in
    rw (← c.self.view_is) (looking_none s c.args.yaw c.args.pitch (view_of c.self.inside)
    (sym c.onward.ensures ∙ c.in_default.is))
