use Rattle.std.proofs.Common.{◌≡◌, ◌∙◌, sym, ap, rules}
use Rattle.std.specs.Int.{int_div_euclid, w32}
use Rattle.std.proofs.lemmas.Int.{to_z-of_z}
use lib.IntN.{ℤ, pos}
use mir.Val.{to_z, of_z}
use Rattle.mc_land.specs.Places.{column_number}
use Rattle.mc_flush.proofs.NotedCells.{cell_fits, sent_where}
use Rattle.mc_flush.proofs.noted.is_sent.Goals as goal

pub returns-clause-is : goal.returns-clause-is
returns-clause-is c =
    let cell = c.args.cell.now in
    let x : to_z w32 (of_z w32 c.div_euclid.result) ≡ column_number cell.x =
    to_z-of_z w32 c.div_euclid.result (search rules) ∙ c.div_euclid.ensures
    ∙ ap (λ (v : ℤ). int_div_euclid v (pos 16)) (to_z-of_z w32 cell.x (search rules)) in
    let z : to_z w32 (of_z w32 c.div_euclid-2.result) ≡ column_number cell.z =
    to_z-of_z w32 c.div_euclid-2.result (search rules) ∙ c.div_euclid-2.ensures
    ∙ ap (λ (v : ℤ). int_div_euclid v (pos 16)) (to_z-of_z w32 cell.z (search rules)) in
    sent_where c.args.view.now cell _ _ _ c.has.result (to_z-of_z w32 cell.y (search rules))
    c.if-cell-ltminus2048.false c.if-cell-gt2047.false x z c.has.ensures

pub returns-clause-fits : goal.returns-clause-fits
returns-clause-fits c = λ sent.
    let at = c.args.view.now.in_range in
    cell_fits c.args.view.now c.args.cell.now at.0 at.1 at.2 at.3 at.4
    (sym (returns-clause-is c) ∙ sent)
