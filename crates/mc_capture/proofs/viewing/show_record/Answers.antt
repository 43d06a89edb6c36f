use Rattle.std.proofs.Common.{ap, ◌∙◌}
use Rattle.std.specs.FinMap.{insert}
use Rattle.mc_capture.specs.Tables.{talk_in}
use Rattle.mc_capture.specs.Talks.{Talk}
use Rattle.mc_capture.proofs.ViewSteps.{after_down, after_up, on_ok_then, table_put}
use Rattle.mc_capture.proofs.viewing.show_record.Goals as goal

pub returns-in-1-clause-next : goal.returns-in-1-clause-next
returns-in-1-clause-next g c =
    let k = c.args.rec.now.connection in
    on_ok_then c.hear.result c.hear.ensures.next (λ is. table_put c.args.talks.now
    c.hear.new.self c.args.rec.now (is ∙ ap (λ (t : Talk). insert c.args.talks.now k t)
    (after_up (talk_in c.args.talks.now k) c.args.rec.now c.as_slice.result.now c.in-1.is
    c.as_slice.ensures)))

pub returns-in-4-clause-next : goal.returns-in-4-clause-next
returns-in-4-clause-next g c =
    let k = c.args.rec.now.connection in
    on_ok_then c.hear-in-4.result c.hear-in-4.ensures.next (λ is. table_put c.args.talks.now
    c.hear-in-4.new.self c.args.rec.now (is ∙ ap (λ (t : Talk). insert c.args.talks.now k t)
    (after_down (talk_in c.args.talks.now k) c.args.rec.now c.as_slice-in-4.result.now c.in-4.is
    c.as_slice-in-4.ensures)))
