use Rattle.std.proofs.Common.{rules, ◌≡◌, ◌≤◌, ◌∙◌, sym, true, false, get_or}
use Rattle.std.specs.Char.{is_ascii_digit}
use Rattle.mc_text.proofs.DigitSteps.{next_digit, no_digit, digits_done, digits_more}
use Rattle.mc_text.proofs.digits.digits_value.Goals as goal

pub returns-then-not-is_ascii_digit : goal.returns-then-not-is_ascii_digit
returns-then-not-is_ascii_digit c =
    let digit : is_ascii_digit (get_or c.args.digits.now c.loop-byte.byte-index 0) ≡ false =
    sym c.is_ascii_digit.ensures.value ∙ c.if-not-is_ascii_digit.true in
    sym (no_digit c.args.digits.now c.loop-byte.byte-index c.loop-byte.value c.loop-byte-test.true
    digit) ∙ c.loop-byte.invariant.rest

pub loop-byte-preserved : goal.loop-byte-preserved
loop-byte-preserved c =
    let digit : is_ascii_digit (get_or c.args.digits.now c.loop-byte.byte-index 0) ≡ true =
    sym c.is_ascii_digit.ensures.value ∙ c.if-not-is_ascii_digit.false in
    let most : c.from.result ≤ 9 = search rules in
    record {
      rest = rw c.from.ensures (sym (next_digit c.args.digits.now c.loop-byte.byte-index
          c.loop-byte.value c.loop-byte-test.true digit) ∙ c.loop-byte.invariant.rest);
      small = digits_more c.loop-byte.byte-index c.loop-byte.value c.from.result
          c.loop-byte.invariant.small most;
    }

pub returns : goal.returns
returns c = sym (digits_done c.args.digits.now c.loop-byte.byte-index c.loop-byte.value
    c.loop-byte-test.false) ∙ c.loop-byte.invariant.rest
