use Rattle.std.proofs.Common.{◌+◌, drop}
use Rattle.std.proofs.lemmas.List.{drop_more}
use Rattle.mc_view.specs.Sets.{has}
use Rattle.mc_flush.proofs.NotedCells.{noted_paid, noted_put}
use Rattle.mc_flush.proofs.noted.put_cells.Goals as goal

pub loop-cell-preserved : goal.loop-cell-preserved
loop-cell-preserved g c =
    let land = c.args.land.now in
    let view = c.args.view.now in
    let cells = c.args.cells.now in
    let i = c.loop-cell.cell-index in
    let h = c.loop-cell.invariant in
    let is = drop_more cells i _ c.loop-cell-test.true in
    record {
      sent = noted_put land.terrain land.edits (has view) _ (drop i cells) (drop (i + 1) cells)
          c.loop-cell.out.items c.put_noted.new.out.items _ is h.sent
          c.in_ok-put_noted.ensures.sent;
      cost = noted_paid view _ (drop i cells) (drop (i + 1) cells) c.loop-cell.steps
          c.put_noted.new.steps _ is h.cost c.in_ok-put_noted.ensures.cost;
    }
