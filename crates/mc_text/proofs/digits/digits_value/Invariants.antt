use Rattle.std.proofs.Common.{◌≡◌, ◌^◌, ◌<◌, drop}
use Rattle.mc_text.specs.Digits.{digits_after}
use Rattle.mc_text.proofs.digits.digits_value.Given as goal

abbrev pub invariant-loop-byte : goal.invariant-loop-byte
invariant-loop-byte l = record {
  rest : digits_after l.value (drop l.byte-index l.digits) ≡ digits_after 0 l.digits;
  small : l.value < 10 ^ l.byte-index;
}
