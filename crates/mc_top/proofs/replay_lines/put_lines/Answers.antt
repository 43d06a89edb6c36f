use Rattle.std.proofs.Common.{◌≡◌, List, ℕ, [], subst, ◌∙◌}
use Rattle.std.proofs.lemmas.Result.{err_from_is_err_and}
use Rattle.mc_events.specs.Asking.{pending_in}
use Rattle.mc_text.specs.Passes.{Passes, Breaks}
use Rattle.mc_measure.specs.Settling.{all_taken}
use Rattle.mc_top.specs.Replaying.{all_sent}
use Rattle.mc_top.proofs.Tellings.{lines_put, lines_break_sent, lines_break_shut, lines_break_out}
use Rattle.mc_top.proofs.replay_lines.put_lines.Goals as goal

pub returns-in_err-put_all_sent-clause-breaks : goal.returns-in_err-put_all_sent-clause-breaks
returns-in_err-put_all_sent-clause-breaks g c w s =
    let ids = c.in_ok-connections.connections.items in
    let is : ids ≡ pending_in w =
    c.in_ok-connections.ensures w s in
    let P : List ℕ → Type 0 = λ t. Breaks (g.O.Sink.held c.args.out.now)
    (g.O.Sink.held c.put_all_sent.new.out) t (all_sent ids w) in
    let b = rw c.deref.ensures.value at (c.in_err-put_all_sent.ensures.breaks w s) in
    let p = err_from_is_err_and c.from_residual-in_err-put_all_sent.result
    c.from_residual-in_err-put_all_sent.ensures.1 in
    rw p.1 (lines_break_sent w ids _ _ is (subst P c.requires b))

pub returns-in_err-put_all_shut-clause-breaks : goal.returns-in_err-put_all_shut-clause-breaks
returns-in_err-put_all_shut-clause-breaks g c w s =
    let ids = c.in_ok-connections.connections.items in
    let is : ids ≡ pending_in w =
    c.in_ok-connections.ensures w s in
    let P : List ℕ → Type 0 =
    λ t. Passes (g.O.Sink.held c.args.out.now) (g.O.Sink.held c.put_all_sent.new.out) t
    (all_sent ids w) c.put_all_sent.new.lines.items [] in
    let sent = rw c.deref.ensures.value at (c.in_ok-put_all_sent.ensures.taken w s) in
    let b = rw c.deref-2.ensures.value at
    (c.in_err-put_all_shut.ensures.breaks (all_taken ids w) sent.0) in
    let p = err_from_is_err_and c.from_residual-in_err-put_all_shut.result
    c.from_residual-in_err-put_all_shut.ensures.1 in
    rw p.1 (lines_break_shut w ids c.put_all_sent.new.lines.items _ _ _ is
    (subst P c.requires sent.1) b)

pub returns-in_err-write_out-clause-breaks : goal.returns-in_err-write_out-clause-breaks
returns-in_err-write_out-clause-breaks g c w s =
    let ids = c.in_ok-connections.connections.items in
    let is : ids ≡ pending_in w =
    c.in_ok-connections.ensures w s in
    let P : List ℕ → Type 0 =
    λ t. Passes (g.O.Sink.held c.args.out.now) (g.O.Sink.held c.put_all_sent.new.out) t
    (all_sent ids w) c.put_all_sent.new.lines.items [] in
    let sent = rw c.deref.ensures.value at (c.in_ok-put_all_sent.ensures.taken w s) in
    let shut = rw c.deref-2.ensures.value at
    (c.in_ok-put_all_shut.ensures.forgotten (all_taken ids w) sent.0) in
    let p = err_from_is_err_and c.from_residual-in_err-write_out.result
    c.from_residual-in_err-write_out.ensures.1 in
    rw p.1 (lines_break_out w ids c.put_all_sent.new.lines.items c.put_all_shut.new.lines.items _ _
    _ _ is (subst P c.requires sent.1) shut.1 c.in_err-write_out.ensures.breaks)

pub returns-clause-settled : goal.returns-clause-settled
returns-clause-settled g c w s =
    let ids = c.in_ok-connections.connections.items in
    let is : ids ≡ pending_in w =
    c.in_ok-connections.ensures w s in
    let P : List ℕ → Type 0 =
    λ t. Passes (g.O.Sink.held c.args.out.now) (g.O.Sink.held c.put_all_sent.new.out) t
    (all_sent ids w) c.put_all_sent.new.lines.items [] in
    let Q : List ℕ → Type 0 = λ t. Passes (g.O.Sink.held c.put_all_shut.new.out)
    (g.O.Sink.held c.write_out.new.out) c.put_all_shut.new.lines.items [] t [] in
    let sent = rw c.deref.ensures.value at (c.in_ok-put_all_sent.ensures.taken w s) in
    let shut = rw c.deref-2.ensures.value at
    (c.in_ok-put_all_shut.ensures.forgotten (all_taken ids w) sent.0) in
    lines_put w c.put_all_shut.new.server ids c.put_all_sent.new.lines.items
    c.put_all_shut.new.lines.items _ _ _ _ is shut.0 (subst P c.requires sent.1) shut.1
    (subst Q c.in_ok-write_out.ensures.empty c.in_ok-write_out.ensures.passes)
