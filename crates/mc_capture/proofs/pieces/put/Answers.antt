use Rattle.std.proofs.lemmas.Result.{err_from_is_err_and}
use Rattle.mc_capture.proofs.Gatherings.{part_here}
use Rattle.mc_capture.proofs.pieces.put.Goals as goal

pub returns-in_err-extend_from_slice-clause-part : goal.returns-in_err-extend_from_slice-clause-part
returns-in_err-extend_from_slice-clause-part g c =
    let p = err_from_is_err_and c.from_residual-in_err-extend_from_slice.result
    c.from_residual-in_err-extend_from_slice.ensures.1 in
    rw p.1 (part_here _ _ _ _ _ c.in_ok-make_room.ensures.gathers)
