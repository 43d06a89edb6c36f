use Rattle.std.proofs.Common.{rules, length}
use Rattle.mc_capture.proofs.Faults.{place_after}
use Rattle.mc_capture.proofs.reader.place_behind.Goals as goal

pub returns-in-Some : goal.returns-in-Some
returns-in-Some c =
    let r = c.in-Some.record in
    rw c.in-Some.is (place_after c.args.at c.saturating_add.result r.kind r.connection
    (length r.bytes) r.bytes (search rules))
