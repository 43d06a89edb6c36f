use Rattle.mc_top.proofs.Recordings.{served_with, served_without}
use Rattle.mc_top.proofs.ServeKept.{serve_kept}
use Rattle.mc_top.proofs.serve.serve.Goals as goal

pub returns-then-options : goal.returns-then-options
returns-then-options g c = λ link left reads.
    served_with _ c.args.options _ _ _ c.if-options.true (c.record.ensures link left reads)

pub returns : goal.returns
returns g c = λ link left reads.
    let said = c.serve_summed-ended.ensures in
    served_without _ c.args.options _ _ _ c.if-options.false
    (serve_kept _ g.O.Sink.held g.O.Sink.faults _ c.args.options c.serve_summed-ended.result
    c.finish.result _ _ _ _ link left reads c.args.out.now c.serve_summed-ended.new.out
    c.finish.new.out (record {
      done = said.done;
      no_memory = said.no_memory;
      ends = said.ends;
      write_fault = said.write_fault;
      net_fault = said.net_fault;
      budget = said.budget;
    }) c.finish.ensures)
