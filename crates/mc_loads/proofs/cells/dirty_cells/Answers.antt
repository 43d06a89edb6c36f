use Rattle.std.proofs.Common.{◌≤◌, List, length, sym, subst}
use Rattle.std.specs.Int.{w32}
use mir.Val.{to_z, of_z}
use Rattle.mc_land.specs.declared.ready.Touched.{Touched}
use Rattle.mc_loads.proofs.Touched.{dirty_few}
use Rattle.mc_loads.proofs.cells.dirty_cells.Goals as goal

pub returns-clause-few : goal.returns-clause-few
returns-clause-few c =
    subst (λ (ts : List Touched). length ts ≤ 65536) (sym c.dirty.ensures)
    (dirty_few c.args.land.now
    (to_z w32 (of_z w32 c.args.place.now.0), to_z w32 (of_z w32 c.args.place.now.1)))
