use Rattle.std.proofs.lemmas.Result.{err_from_is_err_and}
use Rattle.mc_capture.proofs.Gatherings.{part_here, part_old}
use Rattle.mc_capture.proofs.frame_lines.put_head.Goals as goal

pub returns-in_err-make_room-clause-part : goal.returns-in_err-make_room-clause-part
returns-in_err-make_room-clause-part g c =
    let p = err_from_is_err_and c.from_residual.result c.from_residual.ensures.1 in
    rw p.1 (part_old _ _ _ _ c.in_err-make_room.ensures.part)

pub returns-in_err-append_head-clause-part : goal.returns-in_err-append_head-clause-part
returns-in_err-append_head-clause-part g c =
    let p = err_from_is_err_and c.from_residual-in_err-append_head.result
    c.from_residual-in_err-append_head.ensures.1 in
    rw p.1 (part_here _ _ _ _ _ c.in_ok-make_room.ensures.gathers)
