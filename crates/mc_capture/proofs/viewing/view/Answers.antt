use Rattle.std.proofs.Common.{◌≡◌, Some, None}
use Rattle.std.proofs.lemmas.Result.{err_from_is_err_and}
use Rattle.mc_capture.specs.declared.fault.CaptureEnd.TheVariants as ends
use Rattle.mc_capture.proofs.ViewSteps.{bad_shown, on_err_then, on_ok_then, shown_all}
use Rattle.mc_capture.proofs.ViewSteps.{shown_part, viewed_part}
use Rattle.mc_capture.proofs.viewing.view.Goals as goal

pub returns-in-Ok-clause-ok : goal.returns-in-Ok-clause-ok
returns-in-Ok-clause-ok g c = on_ok_then c.finish.result c.finish.ensures.whole
    (λ grown. shown_all None _ _ _ _ _ _ c.in-Ok.ensures.ok grown)

pub returns-in-Ok-clause-part : goal.returns-in-Ok-clause-part
returns-in-Ok-clause-part g c = on_err_then c.finish.result c.finish.ensures.part
    (λ part. shown_part None _ (g.I.Source.left c.show_capture-shown.new.input) _ _ _ _
    c.in-Ok.ensures.ok part)

pub returns-in_err-finish-in-Err-Bad-clause-part : goal.returns-in_err-finish-in-Err-Bad-clause-part
returns-in_err-finish-in-Err-Bad-clause-part g c =
    let p = err_from_is_err_and c.from_residual.result c.from_residual.ensures.1 in
    let bad : c.in-Err-Bad.field-0 ≡ ends.Bad c.in-Err-Bad.fault =
    rw c.in-Err-Bad.is at c.in-Err-Bad.field-0-is in
    let shown = bad_shown c.show_capture-shown.result c.in-Err-Bad.field-0 c.in-Err-Bad.fault
    _ _ _ _ _ _ _ c.show_capture-shown.ensures.err c.in-Err-Bad.is bad in
    rw p.1 (shown_part (Some c.in-Err-Bad.fault) _
    (g.I.Source.left c.show_capture-shown.new.input) _ _ _ _ shown
    c.in_err-finish-in-Err-Bad.ensures.part)

pub returns-in-Err-Bad-clause-err : goal.returns-in-Err-Bad-clause-err
returns-in-Err-Bad-clause-err g c =
    let bad : c.in-Err-Bad.field-0 ≡ ends.Bad c.in-Err-Bad.fault =
    rw c.in-Err-Bad.is at c.in-Err-Bad.field-0-is in
    let shown = bad_shown c.show_capture-shown.result c.in-Err-Bad.field-0 c.in-Err-Bad.fault
    _ _ _ _ _ _ _ c.show_capture-shown.ensures.err c.in-Err-Bad.is bad in
    shown_all (Some c.in-Err-Bad.fault) _ _ _ _ _ _ shown
    c.in_ok-finish-in-Err-Bad.ensures.whole

pub returns-in-Err-Bad-clause-part : goal.returns-in-Err-Bad-clause-part
returns-in-Err-Bad-clause-part g c =
    let bad : c.in-Err-Bad.field-0 ≡ ends.Bad c.in-Err-Bad.fault =
    rw c.in-Err-Bad.is at c.in-Err-Bad.field-0-is in
    let shown = bad_shown c.show_capture-shown.result c.in-Err-Bad.field-0 c.in-Err-Bad.fault
    _ _ _ _ _ _ _ c.show_capture-shown.ensures.err c.in-Err-Bad.is bad in
    viewed_part (Some c.in-Err-Bad.fault) _ (g.I.Source.left c.show_capture-shown.new.input) _ _
    (shown_all (Some c.in-Err-Bad.fault) _ _ _ _ _ _ shown
    c.in_ok-finish-in-Err-Bad.ensures.whole)
