use Rattle.std.proofs.Common.{Err, ap, sym, ◌∙◌}
use Rattle.std.proofs.lemmas.Result.{err_from_is_err_and}
use Rattle.mc_text.specs.declared.unfinished.Unfinished.{Unfinished}
use Rattle.mc_top.proofs.ScriptFacts.{script_ticks}
use Rattle.mc_top.proofs.Replays.{tells_bad, tells_played, tells_stopped}
use Rattle.mc_top.proofs.replay.tell_script.Goals as goal

pub play_script-requires-clause-young : goal.play_script-requires-clause-young
play_script-requires-clause-young g c = script_ticks _ _ c.in-Ok.ensures

pub returns-in-Err-Bad-clause-told : goal.returns-in-Err-Bad-clause-told
returns-in-Err-Bad-clause-told g c =
    let there = rw (c.in-Err-Bad.field-0-is, c.deref.ensures.value) at c.in-Err-Bad.ensures in
    rw c.in-Err-Bad.field-0-is (tells_bad _ c.args.text.items _ _ c.in-Err-Bad.bad
    there)

pub returns-in_err-play_script-clause-told : goal.returns-in_err-play_script-clause-told
returns-in_err-play_script-clause-told g c =
    let is = rw c.deref.ensures.value at c.in-Ok.ensures in
    let p = err_from_is_err_and c.from_residual.result c.from_residual.ensures.1 in
    let said = c.in_err-play_script.ensures in
    rw p.1 (tells_stopped _ c.args.text.items _ _ _ _ c.in-Ok.script.events.items p.0
    is said.stopped (λ why. said.failed (ap (λ (u : Unfinished). Err u) (sym p.2 ∙ why))))

pub returns-clause-told : goal.returns-clause-told
returns-clause-told g c =
    let is = rw c.deref.ensures.value at c.in-Ok.ensures in
    let said = c.in_ok-play_script.ensures in
    tells_played _ c.args.text.items _ _ _ _ c.in-Ok.script.events.items is
    said.played said.counts
