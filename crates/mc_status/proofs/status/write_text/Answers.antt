use Rattle.std.proofs.Common.{[], List, ℕ, subst}
use Rattle.std.proofs.lemmas.Result.{err_from_is_err_and}
use Rattle.mc_text.specs.Passes.{Passes}
use Rattle.mc_text.proofs.Passing.{breaks_next, passes_all, passes_next}
use Rattle.mc_status.proofs.status.write_text.Goals as goal

pub returns-in_err-write_out-clause-stopped : goal.returns-in_err-write_out-clause-stopped
returns-in_err-write_out-clause-stopped g c =
    let p = err_from_is_err_and c.from_residual-in_err-write_out.result
    c.from_residual-in_err-write_out.ensures.1 in
    let b = breaks_next _ _ _ [] _ c.receive_text.new.client.lines.items [] []
    c.in_ok-fault.ensures.told.0 c.in_err-write_out.ensures.breaks in
    rw p.1 (b.len, b.wrote)

pub returns-clause-text : goal.returns-clause-text
returns-clause-text g c =
    let P : List ℕ → Type 0 = λ t. Passes (g.O.Sink.held c.receive_text.new.out)
    (g.O.Sink.held c.write_out.new.out) c.receive_text.new.client.lines.items [] t [] in
    passes_all _ _ _ (passes_next _ _ _ [] _ c.receive_text.new.client.lines.items [] [] []
    c.in_ok-fault.ensures.told.0
    (subst P c.in_ok-write_out.ensures.empty c.in_ok-write_out.ensures.passes))
