use Rattle.std.proofs.Common.{◌∙◌, Ok, ap, sym}
use Rattle.mc_fields.proofs.Utf8.{checked_text-bad, checked_text-long, checked_text-fits}
use Rattle.mc_fields.proofs.text.checked_text.Goals as goal

pub returns-in_default : goal.returns-in_default
returns-in_default c = checked_text-bad c.args.points c.args.bytes.now c.in_default.ensures.cases.0

pub returns-then-code_points-points : goal.returns-then-code_points-points
returns-then-code_points-points c =
    let same = c.in-Ok.ensures.cases.0 in
    let long = rw (c.code_points.ensures, same) at c.if-code_points-points.true in
    checked_text-long c.args.points c.args.bytes.now c.in-Ok.ensures.cases.1 long

pub returns : goal.returns
returns c =
    let same = c.in-Ok.ensures.cases.0 in
    let short = rw (c.code_points.ensures, same) at c.if-code_points-points.false in
    checked_text-fits c.args.points c.args.bytes.now c.in-Ok.ensures.cases.1 short ∙
    ap (λ t. Ok t) (sym same)
