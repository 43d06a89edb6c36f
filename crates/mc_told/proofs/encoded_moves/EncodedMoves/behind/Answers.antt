use Rattle.std.proofs.Common.{rules, ◌<◌, List, length, subst, arith}
use lib.IntN.{ℤ}
use Rattle.mc_told.specs.declared.moved.Moved.{Moved}
use Rattle.mc_told.proofs.Runs.{rows_are}
use Rattle.mc_told.proofs.encoded_moves.EncodedMoves.behind.Goals as goal

pub overflow_add-result : goal.overflow_add-result
overflow_add-result c =
    let lt : c.args.place < length c.self.inside.rows.items =
    subst (λ (es : List (ℤ × Moved)). c.args.place < length es)
    (rows_are c.self.inside.rows.items c.args.self.now c.self.invariant.0 c.self.view_is) c.requires
    in
    let within : c.args.place < c.len-many.result = search rules in
    omega (arith, within, c.len-many.type_inv)
