use Rattle.mc_top.proofs.CaptureKept.{show_captured}
use Rattle.mc_top.proofs.captures.show.Goals as goal

pub returns : goal.returns
returns g c = rw c.ended_by_read.ensures.is (show_captured c.args.client c.show.result _ _ _ _ _ _ _ _
    c.show.ensures.ok c.show.ensures.err c.ended_by_read.ensures.sized c.show.ensures.out_counts)
