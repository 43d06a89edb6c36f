use Rattle.std.proofs.Common.{IfErr, IfOk, List, subst, sym, w32, ◌∙◌}
use Rattle.std.proofs.lemmas.Int.{to_z-of_z}
use lib.IntN.{ℤ}
use Rattle.mc_told.specs.declared.moved.Moved.{Moved}
use Rattle.mc_told.specs.KeptRows.{IsAt, IsGap}
use Rattle.mc_told.proofs.Runs.{rows_are}
use Rattle.mc_told.proofs.encoded_moves.EncodedMoves.place_near.Goals as goal

pub returns-clause-found : goal.returns-clause-found
returns-clause-found c =
    let same = c.as_slice.ensures.value ∙ sym
    (rows_are c.self.inside.rows.items c.args.self.now c.self.invariant.0 c.self.view_is) in
    subst (λ (es : List (ℤ × Moved)). IfOk c.place_near.result (IsAt es c.args.eid)) same
    (subst (λ (k : ℤ). IfOk c.place_near.result (IsAt c.as_slice.result.now k))
    (to_z-of_z w32 c.args.eid c.ranges.eid) c.place_near.ensures.found)

pub returns-clause-absent : goal.returns-clause-absent
returns-clause-absent c =
    let same = c.as_slice.ensures.value ∙ sym
    (rows_are c.self.inside.rows.items c.args.self.now c.self.invariant.0 c.self.view_is) in
    subst (λ (es : List (ℤ × Moved)). IfErr c.place_near.result (IsGap es c.args.eid)) same
    (subst (λ (k : ℤ). IfErr c.place_near.result (IsGap c.as_slice.result.now k))
    (to_z-of_z w32 c.args.eid c.ranges.eid) c.place_near.ensures.absent)
