use Rattle.std.specs.Int.{w64, int_div_euclid, int_rem_euclid}
use Rattle.std.proofs.Common.{ap, ◌∙◌, ◌-◌, ◌^◌, rules}
use Rattle.std.proofs.lemmas.Int.{to_z-of_z}
use lib.IntN.{ℤ, pos, nat_abs}
use lib.Signed.{shr_z}
use mir.Val.{SFits}
use Rattle.mc_fields.proofs.Patterns.{turned}
use Rattle.mc_fields.proofs.binary32.turn.Goals as goal

pub returns : goal.returns
returns c =
    let signed : SFits w64 c.with_sign-value.result = search rules in
    let right : SFits w64 c.shifted.result = search rules in
    let over : SFits w64 c.div_euclid.result = search rules in
    let rest : SFits w64 c.rem_euclid.result = search rules in
    let value = to_z-of_z w64 c.with_sign-value.result signed ∙ c.with_sign-value.ensures in
    let turns = to_z-of_z w64 c.shifted.result right ∙ c.shifted.ensures ∙
    ap (λ (z : ℤ). shr_z z (2 ^ (157 - c.args.power))) value in
    let whole = to_z-of_z w64 c.div_euclid.result over ∙ c.div_euclid.ensures ∙
    ap (λ (z : ℤ). int_div_euclid z (pos 45)) turns in
    let is = to_z-of_z w64 c.rem_euclid.result rest ∙ c.rem_euclid.ensures.value ∙
    ap (λ (z : ℤ). int_rem_euclid z (pos 256)) whole in
    turned c.args.negative c.args.significand c.args.power _ c.requires.low (ap nat_abs is)
