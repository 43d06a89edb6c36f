use Rattle.mc_capture.proofs.Bytes.{waiting_new}
use Rattle.mc_show.proofs.client.Client.new.Goals as goal

pub invariant_of-result : goal.invariant_of-result
invariant_of-result c =
    (waiting_new c.new.result c.new.ensures, waiting_new c.new-2.result c.new-2.ensures)
