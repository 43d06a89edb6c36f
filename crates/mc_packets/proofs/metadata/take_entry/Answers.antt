use Rattle.std.proofs.Common.{◌≡◌, ap, length, rules, arith}
use Rattle.mc_bytes.specs.Reading.{IsBytes}
use Rattle.mc_packets.specs.Metadata.{entry_read, entry_shorter}
use Rattle.std.specs.Prelude.{Ok}
use Rattle.mc_packets.proofs.metadata.take_entry.Goals as goal

pub prove-unreachable-requires : goal.prove-unreachable-requires
prove-unreachable-requires c =
    let fits : IsBytes c.rest-bytes.result.now = λ i. search rules in
    let read : entry_read c.rest-bytes.result.now ≡
    Ok (c.in_ok-entry.entry, c.entry_or_end.new.cursor) =
    rw c.rest-bytes.ensures c.in_ok-entry.ensures in
    let less = entry_shorter c.rest-bytes.result.now (
      c.in_ok-entry.entry,
      c.entry_or_end.new.cursor,
    ) fits read in
    let left = ap length c.rest-left.ensures in
    omega (arith, less, left, c.if-prove.true)
