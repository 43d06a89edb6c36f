use Rattle.mc_top.proofs.CaptureKept.{view_captured}
use Rattle.mc_top.proofs.captures.view.Goals as goal

pub returns : goal.returns
returns g c = rw c.ended_by_read.ensures.is (view_captured c.view.result _ _ _ _ _ _ _ _
    c.view.ensures.ok c.view.ensures.part c.view.ensures.err c.ended_by_read.ensures.sized c.view.ensures.counts)
