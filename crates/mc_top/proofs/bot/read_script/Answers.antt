use Rattle.mc_top.proofs.BotTexts.{is_no_script, is_script}
use Rattle.mc_top.proofs.bot.read_script.Goals as goal

pub returns-in-Ok-read-clause-script : goal.returns-in-Ok-read-clause-script
returns-in-Ok-read-clause-script g c =
    let is = rw c.deref.ensures.value at c.in-Ok-read.ensures in
    is_script _ _ c.in-Ok.text.items _ c.in-Ok.ensures.reads is

pub returns-in-Err-Bad-clause-none : goal.returns-in-Err-Bad-clause-none
returns-in-Err-Bad-clause-none g c =
    let there = rw (c.in-Err-Bad.field-0-is, c.deref.ensures.value) at c.in-Err-Bad.ensures in
    rw c.bad_of.ensures (is_no_script _ _ c.in-Ok.text.items c.in-Err-Bad.fault
    c.in-Ok.ensures.reads there)
