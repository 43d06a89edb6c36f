use Rattle.std.proofs.Common.{rules, ◌≡◌, ◌<◌, length}
use Rattle.std.proofs.lemmas.Result.{err_from_is_err_and}
use Rattle.mc_wire.proofs.Counts.{StandsOrRises-trans}
use Rattle.mc_status.proofs.Lines.{putting_breaks, putting_done, putting_next}
use Rattle.mc_status.proofs.answers.put_lines.Goals as goal

pub returns-in_err-put_line-clause-breaks : goal.returns-in_err-put_line-clause-breaks
returns-in_err-put_line-clause-breaks g c packets small is =
    let some : 0 < length c.loop-rest.rest.now = search rules in
    let p = err_from_is_err_and c.from_residual.result c.from_residual.ensures.1 in
    rw p.1 (putting_breaks _ _ _ _ _ c.loop-rest.rest.now c.split_at.result.0.now
    c.split_at.result.1.now packets some (c.loop-rest.invariant.putting packets small is)
    c.line_len.result c.line_len.ensures.frame c.split_at.ensures.front c.split_at.ensures.back
    c.in_err-put_line.ensures.breaks)

pub loop-rest-preserved : goal.loop-rest-preserved
loop-rest-preserved g c =
    let some : 0 < length c.loop-rest.rest.now = search rules in
    record {
      putting = λ packets small is. putting_next _ _ _ _ _ c.loop-rest.rest.now
          c.split_at.result.0.now c.split_at.result.1.now packets some
          (c.loop-rest.invariant.putting packets small is) c.line_len.result
          c.line_len.ensures.frame c.split_at.ensures.front c.split_at.ensures.back _
          c.in_ok-put_line.ensures.passes;
      counts = StandsOrRises-trans _ _ _ c.loop-rest.invariant.counts c.put_line.ensures.counts;
    }

pub returns-clause-passes : goal.returns-clause-passes
returns-clause-passes g c packets small is =
    let none : length c.loop-rest.rest.now ≡ 0 = search rules in
    putting_done _ _ _ _ c.loop-rest.rest.now packets
    (c.loop-rest.invariant.putting packets small is) none
