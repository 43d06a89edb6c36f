use Rattle.std.proofs.Common.{None, Option, sym, subst, ◌∙◌}
use Rattle.mc_frame.specs.Held.{Splitting}
use Rattle.mc_capture.specs.Hearings.{waiting_in}
use Rattle.mc_show.specs.Following.{Brings}
use Rattle.mc_show.proofs.Ways.{silent_brings}
use Rattle.mc_show.proofs.following.follow.Goals as goal

pub returns-in-None-clause-brings : goal.returns-in-None-clause-brings
returns-in-None-clause-brings c =
    let none = sym c.take.ensures.value ∙ c.in-None.is in
    let P : Option Splitting → Type 0 = λ s. Brings c.args.way (waiting_in c.args.states.now s)
    c.args.piece.now (waiting_in c.args.states.now None) c.args.world.now c.args.world.now in
    let Q : Option Splitting → Type 0 = λ s. Brings c.args.way
    (waiting_in c.args.states.now c.args.waits.now) c.args.piece.now
    (waiting_in c.args.states.now s) c.args.world.now c.args.world.now in
    subst Q (sym c.take.ensures.after) (subst P (sym none)
    (silent_brings c.args.way c.args.states.now c.args.piece.now c.args.world.now))
