use Rattle.std.proofs.lemmas.Result.{err_from_is_err_and}
use Rattle.mc_text.proofs.Passing.{breaks_room}
use Rattle.mc_text.proofs.pieces.put_hex.Goals as goal

pub returns-in_err-append_hex-clause-breaks : goal.returns-in_err-append_hex-clause-breaks
returns-in_err-append_hex-clause-breaks g c =
    let p = err_from_is_err_and c.from_residual-in_err-append_hex.result
    c.from_residual-in_err-append_hex.ensures.1 in
    rw p.1 (breaks_room _ _ _ _ _ c.in_ok-make_room.ensures.passes)
