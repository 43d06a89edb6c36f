use Rattle.std.proofs.lemmas.Result.{err_from_is_err_and}
use Rattle.mc_replica.proofs.Dumping.{dump_breaks}
use Rattle.mc_replica.proofs.replica.Replica.dump.Goals as goal

pub returns-in_err-write_out-clause-part : goal.returns-in_err-write_out-clause-part
returns-in_err-write_out-clause-part g c =
    let p = err_from_is_err_and c.from_residual-in_err-write_out.result
    c.from_residual-in_err-write_out.ensures.1 in
    rw p.1 (dump_breaks _ _ _ _ _ _ c.new-lines.ensures.items c.in_ok-put_lines.ensures.passes
    c.in_err-write_out.ensures.breaks)
