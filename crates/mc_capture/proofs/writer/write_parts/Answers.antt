use Rattle.std.proofs.Common.{rules, length}
use Rattle.std.proofs.lemmas.Result.{err_from_is_err_and}
use Rattle.mc_capture.specs.Grammar.{heading}
use Rattle.mc_capture.proofs.Lists.{part_of_first, part_of_second}
use Rattle.mc_capture.proofs.writer.write_parts.Goals as goal

pub returns-in_err-write_all-clause-part : goal.returns-in_err-write_all-clause-part
returns-in_err-write_all-clause-part g c =
    let p = err_from_is_err_and c.from_residual.result c.from_residual.ensures.1 in
    let part = c.in_err-write_all.ensures.part in
    let front = heading c.args.kind c.args.connection (length c.args.bytes.now) in
    rw p.1 (part_of_first part.0 front c.args.bytes.now _ _
    (search rules))

pub returns-in_err-write_all-2-clause-part : goal.returns-in_err-write_all-2-clause-part
returns-in_err-write_all-2-clause-part g c =
    let p = err_from_is_err_and c.from_residual-in_err-write_all-2.result
    c.from_residual-in_err-write_all-2.ensures.1 in
    let part = c.in_err-write_all-2.ensures.part in
    let front = heading c.args.kind c.args.connection (length c.args.bytes.now) in
    rw p.1 (part_of_second part.0 front c.args.bytes.now
    (g.O.Sink.held c.args.out.now) (g.O.Sink.held c.write_all.new.sink)
    (g.O.Sink.held c.write_all-2.new.sink) (search rules) (search rules))
