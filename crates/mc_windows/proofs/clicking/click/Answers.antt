use Rattle.std.proofs.Common.{◌∙◌, sym, None, Some}
use Rattle.mc_windows.specs.Clicks.{outcome}
use Rattle.mc_windows.proofs.Keeping.{kept_by, none_stays, refusal}
use Rattle.mc_windows.proofs.clicking.click.Goals as goal

pub returns-in-None-clause-chest : goal.returns-in-None-clause-chest
returns-in-None-clause-chest c = rw c.in-None.is
    (none_stays c.args.pack.now c.args.click.now c.args.room)

pub returns-in-None-clause-keeps : goal.returns-in-None-clause-keeps
returns-in-None-clause-keeps c sort =
    let e = c.click_alone.ensures in
    rw c.in-None.is (kept_by sort c.args.pack.now None c.args.click.now c.args.room
    c.args.click.now.number c.click_alone.new.pack None c.click_alone.result e.pack
    (none_stays c.args.pack.now c.args.click.now c.args.room) e.answer)

pub returns-in-Some-clause-chest : goal.returns-in-Some-clause-chest
returns-in-Some-clause-chest c = rw c.in-Some.is c.click_beside.ensures.chest

pub returns-in-Some-clause-keeps : goal.returns-in-Some-clause-keeps
returns-in-Some-clause-keeps c sort =
    let e = c.click_beside.ensures in
    rw c.in-Some.is (kept_by sort c.args.pack.now
    (Some c.in-Some.chest.now) c.args.click.now c.args.room c.args.click.now.number
    c.click_beside.new.pack (Some c.click_beside.new.chest) c.click_beside.result e.pack e.chest
    e.answer)

pub returns-in-Some-clause-refused : goal.returns-in-Some-clause-refused
returns-in-Some-clause-refused c why why_is =
    let e = c.click_beside.ensures in
    let r = refusal c.args.pack.now (Some c.in-Some.chest.now) c.args.click.now.number
    (outcome c.args.pack.now (Some c.in-Some.chest.now) c.args.click.now c.args.room) why
    (sym e.answer ∙ why_is) in
    rw c.in-Some.is (e.pack ∙ r.0, e.chest ∙ r.1)
