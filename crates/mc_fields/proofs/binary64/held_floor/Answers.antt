use Rattle.std.specs.Int.{w64}
use Rattle.std.proofs.Common.{ap, ◌∙◌, ◌-◌, ◌^◌, rules}
use Rattle.std.proofs.lemmas.Int.{to_z-of_z}
use lib.IntN.{ℤ}
use lib.Signed.{shr_z}
use mir.Val.{SFits}
use Rattle.mc_fields.specs.Pattern.{held}
use Rattle.mc_fields.proofs.Floors.{fixes_large, fixes_shifted}
use Rattle.mc_fields.proofs.binary64.held_floor.Goals as goal

pub returns-then-power-ge1070 : goal.returns-then-power-ge1070
returns-then-power-ge1070 c =
    let fits : SFits w64 c.with_sign.result = search rules in
    rw (to_z-of_z w64 c.with_sign.result fits, c.with_sign.ensures) (fixes_large c.args.negative
    c.args.significand c.args.power c.if-power-ge1070.true
    (c.requires.large c.if-power-ge1070.true))

pub returns : goal.returns
returns c =
    let fits : SFits w64 c.clamp.result = search rules in
    let shifted : SFits w64 c.shifted-floor.result = search rules in
    let signed : SFits w64 c.with_sign-2.result = search rules in
    let floor = to_z-of_z w64 c.shifted-floor.result shifted ∙ c.shifted-floor.ensures ∙
    ap (λ (z : ℤ). shr_z z (2 ^ (1070 - c.args.power))) (to_z-of_z w64 c.with_sign-2.result
    signed ∙ c.with_sign-2.ensures) in
    rw (to_z-of_z w64 c.clamp.result fits) (fixes_shifted c.args.negative c.args.significand
    c.args.power c.clamp.result c.if-power-ge1070.false (c.clamp.ensures.value ∙ ap held floor))
