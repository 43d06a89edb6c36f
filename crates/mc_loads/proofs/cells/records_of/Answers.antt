use Rattle.std.proofs.Common.{◌+◌, ◌++◌, List, drop, map, arith, ap, sym, subst, ◌∙◌, length, refl}
use Rattle.std.proofs.lemmas.List.{append-nil, drop_all, drop_more}
use Rattle.mc_land.specs.declared.ready.Touched.{Touched}
use Rattle.mc_packets.specs.declared.record.Record.{Record}
use Rattle.mc_model.specs.Delta.{cell_record}
use Rattle.mc_loads.specs.Cells.{AreCells, indices, states_at}
use Rattle.mc_loads.proofs.Touched.{record_next}
use Rattle.mc_loads.proofs.cells.records_of.Goals as goal

pub loop-cell-init : goal.loop-cell-init
loop-cell-init g c = record {
  made = ap (λ (rs : List Record). rs ++ map (cell_record (states_at c.args.land.now
      c.args.place.now)) (indices c.args.touched.now)) c.new-records.ensures;
  cells = λ f. f;
  cost = refl;
}

pub loop-cell-preserved : goal.loop-cell-preserved
loop-cell-preserved g c =
    let ts = c.args.touched.now in
    let states = states_at c.args.land.now c.args.place.now in
    let i = c.loop-cell.cell-index in
    let h = c.loop-cell.invariant in
    let is = drop_more ts i _ c.loop-cell-test.true in
    record {
      made = record_next (cell_record states) c.loop-cell.records c.push.new.self (drop i ts)
          (drop (i + 1) ts) _ c.record_of.result _ is c.record_of.ensures.record
          c.in_ok-push.ensures.ok h.made;
      cells = λ f. h.cells (subst (λ (rest : List Touched). AreCells states (indices rest)) (sym is)
          (c.record_of.ensures.cell, f));
      cost = omega (arith, h.cost, ap length is, c.record_of.ensures.cost);
    }

pub returns-clause-records : goal.returns-clause-records
returns-clause-records g c =
    let ts = c.args.touched.now in
    let states = states_at c.args.land.now c.args.place.now in
    let end = drop_all c.loop-cell.cell-index ts c.loop-cell-test.false in
    sym (append-nil c.loop-cell.records)
    ∙ ap (λ (rest : List Touched). c.loop-cell.records ++ map (cell_record states) (indices rest))
    (sym end) ∙ c.loop-cell.invariant.made

pub returns-clause-cells : goal.returns-clause-cells
returns-clause-cells g c =
    let ts = c.args.touched.now in
    let states = states_at c.args.land.now c.args.place.now in
    let end = drop_all c.loop-cell.cell-index ts c.loop-cell-test.false in
    c.loop-cell.invariant.cells
    (subst (λ (rest : List Touched). AreCells states (indices rest)) (sym end) tt)

pub returns-clause-cost : goal.returns-clause-cost
returns-clause-cost g c =
    let end = drop_all c.loop-cell.cell-index c.args.touched.now c.loop-cell-test.false in
    omega (arith, c.loop-cell.invariant.cost, ap length end)
