use Rattle.mc_bot.proofs.Scripts.{no_text, some_text}
use Rattle.mc_bot.proofs.texts.text_to.Goals as goal

pub returns-in_default : goal.returns-in_default
returns-in_default c = no_text c.args.most c.args.bytes.now c.in_default.ensures.cases.0

pub returns : goal.returns
returns c =
    let same = c.in-Ok.ensures.cases.0 in
    let counted = rw same at c.code_points-points.ensures in
    rw (c.in_ok-from_str.ensures, same) (some_text c.args.most c.args.bytes.now
    c.code_points-points.result c.in-Ok.ensures.cases.1 counted c.if-points-eq0.false
    c.if-points-most.false)
