use Rattle.std.proofs.Common.{rules}
use Rattle.std.proofs.lemmas.Result.{err_from_is_err_and}
use Rattle.mc_wire.proofs.Counts.{StandsOrRises-trans}
use Rattle.mc_text.specs.Lines.{ended_line}
use Rattle.mc_replica.proofs.Dumping.{line_breaks, next_line}
use Rattle.mc_replica.proofs.dump.put_all.Goals as goal

pub returns-in_err-put_text-clause-breaks : goal.returns-in_err-put_text-clause-breaks
returns-in_err-put_text-clause-breaks g c =
    let xs = c.args.items.now in
    let x = c.item-item.result in
    let p = err_from_is_err_and c.from_residual.result c.from_residual.ensures.1 in
    rw p.1 (line_breaks (λ item. ended_line (g.T.Dumped.line item)) xs c.loop-item.item-index x _ _
    _ c.args.lines.now.items c.loop-item.lines.items c.loop-item-test.true (search rules)
    c.loop-item.invariant.underway (c.in_err-put_text.ensures.breaks _ c.ended.ensures))

pub loop-item-preserved : goal.loop-item-preserved
loop-item-preserved g c =
    let xs = c.args.items.now in
    let x = c.item-item.result in
    record {
      underway = next_line (λ item. ended_line (g.T.Dumped.line item)) xs c.loop-item.item-index x
          _ _ _ c.args.lines.now.items c.loop-item.lines.items c.put_text.new.lines.items
          c.loop-item-test.true (search rules) c.loop-item.invariant.underway
          (c.in_ok-put_text.ensures.passes _ c.ended.ensures);
      counts =
          StandsOrRises-trans _ _ _ c.loop-item.invariant.counts c.put_text.ensures.counts;
    }
