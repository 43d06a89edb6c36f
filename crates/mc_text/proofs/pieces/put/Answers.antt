use Rattle.std.proofs.lemmas.Result.{err_from_is_err_and}
use Rattle.mc_text.proofs.Passing.{breaks_room}
use Rattle.mc_text.proofs.pieces.put.Goals as goal

pub returns-in_err-extend_from_slice-clause-breaks :
    goal.returns-in_err-extend_from_slice-clause-breaks
returns-in_err-extend_from_slice-clause-breaks g c =
    let p = err_from_is_err_and c.from_residual-in_err-extend_from_slice.result
    c.from_residual-in_err-extend_from_slice.ensures.1 in
    rw p.1 (breaks_room _ _ _ _ _ c.in_ok-make_room.ensures.passes)
