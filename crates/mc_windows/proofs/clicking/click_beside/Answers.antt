use Rattle.std.proofs.Common.{◌≡◌, ◌∙◌, sym, Ok, Some}
use Rattle.mc_windows.specs.Clicks.{outcome}
use Rattle.mc_windows.proofs.Keeping.{beside_left}
use Rattle.mc_windows.proofs.clicking.click_beside.Goals as goal

pub returns-in-Ok-clause-chest : goal.returns-in-Ok-clause-chest
returns-in-Ok-clause-chest c =
    let came : outcome c.args.pack.now (Some c.args.chest.now) c.args.click.now c.args.room
    ≡ Ok c.in-Ok.end = sym (rw c.with.ensures at c.work.ensures) ∙ c.in-Ok.is in
    beside_left c.args.pack.now c.args.chest.now c.unwrap_or.result c.args.click.now c.args.room
    c.in-Ok.end came c.unwrap_or.ensures
