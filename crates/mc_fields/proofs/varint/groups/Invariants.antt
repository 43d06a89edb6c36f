use Rattle.std.proofs.Common.{◌≡◌, ◌-◌, ◌^◌, ◌<◌, ◌++◌, take, length}
use Rattle.mc_fields.specs.Varint.{groups_spelling}
use Rattle.mc_fields.proofs.varint.groups.Given as goal

abbrev pub invariant-loop-rest : goal.invariant-loop-rest
invariant-loop-rest l = record {
  within : l.len < 5;
  size : length l.bytes ≡ 5;
  below : l.rest < 128 ^ (5 - l.len);
  spelled : take l.len l.bytes ++ groups_spelling (5 - l.len) l.rest ≡ groups_spelling 5 l.value;
}

abbrev pub decreases-loop-rest : goal.decreases-loop-rest
decreases-loop-rest l = l.rest
