use Rattle.std.proofs.Common.{List, ℕ, subst}
use Rattle.mc_capture.specs.declared.states.Way.TheVariants.{Up}
use Rattle.mc_capture.specs.Hearings.{waiting_in}
use Rattle.mc_capture.proofs.ViewSteps.{on_ok_then}
use Rattle.mc_show.specs.Following.{Brings}
use Rattle.mc_show.proofs.Records.{up_taken}
use Rattle.mc_show.proofs.client.Client.take.Goals as goal

pub returns-in-1 : goal.returns-in-1
returns-in-1 c =
    let P : List ℕ → Type 0 = λ bytes. Brings Up
    (waiting_in c.self.inside.states c.self.inside.up) bytes
    (waiting_in c.follow.new.states c.follow.new.waits) c.self.inside.world c.follow.new.world in
    rw (← c.self.view_is) (on_ok_then c.follow.result c.follow.ensures.brings (λ b.
    up_taken _ c.args.rec.now _ c.follow.new.world c.in-1.is (subst P c.as_slice-bytes.ensures b)))
