use Rattle.std.proofs.lemmas.Result.{err_from_is_err_and}
use Rattle.mc_bytes.proofs.Loops.{until_stop, until_done}
use Rattle.mc_packets.specs.Metadata.{entry_read, meta_read}
use Rattle.mc_packets.proofs.metadata.take_metas.Goals as goal

pub returns-in_err-entry : goal.returns-in_err-entry
returns-in_err-entry c =
    let p = err_from_is_err_and c.from_residual.result c.from_residual.ensures.1 in
    rw (p.1, p.2) (until_stop entry_read c.in_err-entry.field-0.0 c.loop-metas.metas
    c.loop-metas.cursor (meta_read c.args.cursor.now) c.in_err-entry.ensures.gives
    c.loop-metas.invariant)

pub returns : goal.returns
returns c =
    until_done entry_read c.loop-metas.metas c.loop-metas.cursor c.take_entry.new.cursor
    (meta_read c.args.cursor.now) (rw c.in_default.is at c.in_ok-entry.ensures.gives)
    c.loop-metas.invariant
