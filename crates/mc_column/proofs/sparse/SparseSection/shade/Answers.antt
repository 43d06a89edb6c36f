use Rattle.std.proofs.Common.{◌≡◌, ℕ, replicate, sym, ap, ◌∙◌}
use Rattle.mc_column.specs.Sizes.{section_cells}
use Rattle.mc_column.specs.KeptSparse.{states_in}
use Rattle.mc_column.proofs.KeptFacts.{zeros_air}
use Rattle.mc_column.proofs.LightFacts.{row_through}
use Rattle.mc_column.proofs.sparse.SparseSection.shade.Goals as goal

pub returns-in-None-clause-lowest : goal.returns-in-None-clause-lowest
returns-in-None-clause-lowest c states i is lit =
    let view : replicate {A = ℕ} section_cells 0 ≡ c.args.self.now =
    ap states_in (sym c.in-None.is) ∙ c.self.view_is in
    lit ∙ row_through states i (rw (← is, ← view) (zeros_air section_cells))
