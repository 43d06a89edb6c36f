use Rattle.std.proofs.Common.{◌≡◌, ℕ, List, ◌++◌, ◌*◌, length, replicate, sym, ap, arith, ◌∙◌}
use Rattle.mc_column.specs.Sizes.{section_cells}
use Rattle.mc_column.specs.Cells.{wire}
use Rattle.mc_column.specs.KeptSparse.{states_in}
use Rattle.mc_column.proofs.Pairs.{length-wire}
use Rattle.mc_column.proofs.SparseFacts.{wire-zeros}
use Rattle.mc_column.proofs.sparse.SparseSection.append_to.Goals as goal

pub append-requires : goal.append-requires
append-requires c =
    let len : length c.bytes.result.now ≡ 2 * section_cells = ap length c.bytes.ensures.states ∙
    length-wire _ ∙ ap (λ (k : ℕ). 2 * k) c.bytes.ensures.len in
    omega (arith, len, c.requires)

pub returns-in-None-clause-items : goal.returns-in-None-clause-items
returns-in-None-clause-items c =
    let view : replicate {A = ℕ} section_cells 0 ≡ c.args.self.now =
    ap states_in (sym c.in-None.is) ∙ c.self.view_is in
    c.append_zeros.ensures.items ∙ rw c.bytes_of_section.ensures
    (ap (λ (t : List ℕ). c.args.out.now.items ++ t) (wire-zeros section_cells ∙ ap wire view))
