use Rattle.std.proofs.Common.{◌++◌, arith}
use Rattle.std.proofs.lemmas.List.{length-append, length-take}
use Rattle.std.proofs.lemmas.Result.{err_from_is_err_and}
use Rattle.mc_wire.proofs.Streams.{Consumes-trans}
use Rattle.mc_wire.proofs.source.read_up_to.Goals as goal

pub returns-in_err-count-clause-part : goal.returns-in_err-count-clause-part
returns-in_err-count-clause-part g c =
    let p = err_from_is_err_and c.from_residual-in_err-count.result
    c.from_residual-in_err-count.ensures.1 in
    let part = c.in_err-count.ensures.part in
    let short = part.1 in
    let within = c.loop-piece.invariant.within in
    let size = c.min-size.ensures in
    let len = c.len-in-loop-piece.ensures in
    let room = length-take c.min-size.result c.loop-piece.piece in
    let joined = length-append c.loop-piece.bytes.items part.0 in
    rw p.1 (
      c.loop-piece.bytes.items ++ part.0,
      omega (arith, short, within, size, len, room, joined),
      Consumes-trans _ _ _ _ _ c.loop-piece.invariant.read.consumed part.2,
    )
