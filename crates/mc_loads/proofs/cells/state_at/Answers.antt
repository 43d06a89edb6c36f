use Rattle.std.proofs.Common.{arith}
use Rattle.mc_loads.specs.Cells.{states_at}
use Rattle.mc_loads.proofs.Touched.{is_cell, state_is}
use Rattle.mc_loads.proofs.cells.state_at.Goals as goal

pub returns-clause-state : goal.returns-clause-state
returns-clause-state g c = state_is c.args.land.now c.args.place.now c.args.index c.block.result
    c.cell_at.result (omega arith) c.cell_at.ensures c.block.ensures.value

pub returns-clause-cell : goal.returns-clause-cell
returns-clause-cell g c =
    is_cell (states_at c.args.land.now c.args.place.now) c.args.index c.block.result (omega arith)
    (omega arith) (returns-clause-state g c)
