use Rattle.mc_capture.proofs.ViewSteps.{on_ok_then}
use Rattle.mc_show.proofs.Records.{client_shown, dump_ends}
use Rattle.mc_show.proofs.showing.show_into.Goals as goal

pub returns-clause-ok : goal.returns-clause-ok
returns-clause-ok g c = on_ok_then c.dump.result c.dump.ensures.whole
    (λ grown. client_shown _ c.read_capture.new.client _ _ _ _ c.in_ok-read_capture.ensures.ok
    grown)

pub returns-clause-err : goal.returns-clause-err
returns-clause-err g c = dump_ends c.dump.result c.args.number c.read_capture.new.client _ _ _ _ _
    _ c.in_ok-read_capture.ensures.ok c.dump.ensures.err c.dump.ensures.part
