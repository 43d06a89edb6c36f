use Rattle.std.proofs.Common.{◌≡◌, ◌-◌, ◌^◌, ◌<◌, ◌≤◌, drop, length}
use Rattle.mc_fields.specs.Varint.{groups_read}
use Rattle.mc_fields.proofs.Groups.{raised}
use Rattle.mc_fields.proofs.varint.sum_groups.Given as goal

abbrev pub invariant-loop-i : goal.invariant-loop-i
invariant-loop-i l = record {
  weight : l.weight ≡ 128 ^ l.i;
  below : l.sum < l.weight;
  within : l.i ≤ length l.bytes;
  sum : raised l.sum l.weight (groups_read (l.room - l.i) (drop l.i l.bytes)) ≡
      groups_read l.room l.bytes;
}
