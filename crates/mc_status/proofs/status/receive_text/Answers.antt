use Rattle.std.proofs.Common.{refl, inl}
use Rattle.std.proofs.lemmas.Result.{err_from_is_err_and}
use Rattle.mc_wire.proofs.Counts.{StandsOrRises-trans}
use Rattle.mc_text.proofs.Reading.{cuts_next, none_left}
use Rattle.mc_status.proofs.Texts.{no_fault_left, told_cut, told_done, told_fault, told_next}
use Rattle.mc_status.proofs.Texts.{told_part, told_start}
use Rattle.mc_status.proofs.status.receive_text.Goals as goal

pub loop-rest-init : goal.loop-rest-init
loop-rest-init g c = record {
  told = told_start c.args.most c.args.input.now (g.O.Sink.held c.args.out.now)
      c.args.client.now.server c.args.client.now.lines.items
      (c.requires.meets (g.O.Sink.held c.args.out.now));
  counts = inl refl;
}

pub returns-in_err-fault-clause-stopped : goal.returns-in_err-fault-clause-stopped
returns-in_err-fault-clause-stopped g c =
    let told = rw c.in-Some.is at c.loop-rest.invariant.told in
    let p = err_from_is_err_and c.from_residual.result c.from_residual.ensures.1 in
    rw p.1 (told_part c.args.most c.args.input.now c.in-Some.text.now c.cut_line.result.0.now
    _ _ _ c.loop-rest.count c.loop-rest.size _ c.loop-rest.client.server
    c.receive_next.new.client.server c.loop-rest.client.lines.items
    c.receive_next.new.client.lines.items told
    (cuts_next c.in-Some.text.now c.cut_line.result.0.now
    c.cut_line.result.1 c.cut_line.ensures)
    (λ x m. c.in_err-fault.ensures.stopped (g.O.Sink.held c.args.out.now) x m))

pub returns-in-Some-fault-clause-told : goal.returns-in-Some-fault-clause-told
returns-in-Some-fault-clause-told g c =
    let told = rw c.in-Some.is at c.loop-rest.invariant.told in
    told_fault c.args.most c.args.input.now c.in-Some.text.now c.cut_line.result.0.now
    _ _ _ c.loop-rest.count c.loop-rest.size _ c.loop-rest.client.server
    c.receive_next.new.client.server c.loop-rest.client.lines.items
    c.receive_next.new.client.lines.items told
    (cuts_next c.in-Some.text.now c.cut_line.result.0.now c.cut_line.result.1
    c.cut_line.ensures) c.in_ok-fault.fault c.in-Some-fault.kind
    (λ x m. c.in_ok-fault.ensures.received (g.O.Sink.held c.args.out.now) x m)
    c.in-Some-fault.is

pub loop-rest-preserved : goal.loop-rest-preserved
loop-rest-preserved g c =
    let told = rw c.in-Some.is at c.loop-rest.invariant.told in
    record {
      told = told_next c.args.most c.args.input.now c.in-Some.text.now c.cut_line.result.0.now
          _ _ _ c.loop-rest.count c.loop-rest.size _ c.loop-rest.client.server
          c.receive_next.new.client.server c.loop-rest.client.lines.items
          c.receive_next.new.client.lines.items told
          (cuts_next c.in-Some.text.now c.cut_line.result.0.now c.cut_line.result.1
          c.cut_line.ensures) c.in_ok-fault.fault
          (λ x m. c.in_ok-fault.ensures.received (g.O.Sink.held c.args.out.now) x m)
          (no_fault_left c.in_ok-fault.fault c.in_default-fault.not-Some);
      counts = StandsOrRises-trans _ _ _ c.loop-rest.invariant.counts
          c.receive_next.ensures.counts;
    }

pub returns-then-not-is_inside-clause-told : goal.returns-then-not-is_inside-clause-told
returns-then-not-is_inside-clause-told g c =
    let told = rw (none_left c.loop-rest.rest c.in_default.not-Some) at
    c.loop-rest.invariant.told in
    told_done c.args.most c.args.input.now _ _ c.loop-rest.count c.loop-rest.size
    c.loop-rest.client.server c.loop-rest.client.lines.items told c.is_inside.result
    (λ x m. c.is_inside.ensures c.args.most _ _ x m) c.if-not-is_inside.true

pub returns-clause-told : goal.returns-clause-told
returns-clause-told g c =
    let told = rw (none_left c.loop-rest.rest c.in_default.not-Some) at
    c.loop-rest.invariant.told in
    told_cut c.args.most c.args.input.now _ _ c.loop-rest.count c.loop-rest.size
    c.loop-rest.client.server c.loop-rest.client.lines.items told c.is_inside.result
    (λ x m. c.is_inside.ensures c.args.most _ _ x m) c.last_byte_line.result
    c.if-not-is_inside.false c.last_byte_line.ensures
