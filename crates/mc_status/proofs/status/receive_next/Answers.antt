use Rattle.std.proofs.Common.{rules, ◌≡◌, true, false, sym, subst, ap, ◌∙◌}
use Rattle.std.proofs.lemmas.Result.{err_from_is_err_and}
use Rattle.mc_words.specs.declared.bad_input.InputFault.TheVariants as faults
use Rattle.mc_text.specs.Passes.{SendsPart}
use Rattle.mc_status.specs.StatusText.{Exchange, receives_next, shown_fault}
use Rattle.mc_status.specs.Playing.{Receives}
use Rattle.mc_status.proofs.Texts.{next_begins, next_hex, next_long, next_not_hex, part_begins}
use Rattle.mc_status.proofs.Texts.{passes_part, receives_fault}
use Rattle.mc_status.proofs.status.receive_next.Goals as goal

pub returns-then-goes_past-clause-received : goal.returns-then-goes_past-clause-received
returns-then-goes_past-clause-received g c start x m =
    receives_fault c.args.most start _ c.args.client.now.server c.args.client.now.lines.items x
    _ faults.Long m (next_long c.args.len c.args.size x c.args.line.now c.goes_past.result
    c.goes_past.ensures c.if-goes_past.true)

pub returns-in_err-put_line-clause-stopped : goal.returns-in_err-put_line-clause-stopped
returns-in_err-put_line-clause-stopped g c =
    let p = err_from_is_err_and c.from_residual.result c.from_residual.ensures.1 in
    rw p.1 (λ start x m. part_begins start _ x.text
    (receives_next c.args.len c.args.size x c.args.line.now).text
    (passes_part start _ x.text c.args.client.now.lines.items m.passes)
    (next_begins c.args.len c.args.size x c.args.line.now))

pub returns-then-not-branch-clause-received : goal.returns-then-not-branch-clause-received
returns-then-not-branch-clause-received g c start x m =
    let no_hex : c.in_ok-put_line.field-0 ≡ false = search rules in
    receives_fault c.args.most start _ c.args.client.now.server c.args.client.now.lines.items x
    _ faults.Hex m (next_not_hex c.args.len c.args.size x c.args.line.now c.clear.new.self.items
    c.put_line.new.bytes.items c.goes_past.result c.in_ok-put_line.field-0 c.goes_past.ensures
    c.if-goes_past.false no_hex c.in_ok-put_line.ensures)

pub returns-in_err-receive-clause-stopped : goal.returns-in_err-receive-clause-stopped
returns-in_err-receive-clause-stopped g c =
    let hex : c.in_ok-put_line.field-0 ≡ true = search rules in
    let p = err_from_is_err_and c.from_residual-in_err-receive.result
    c.from_residual-in_err-receive.ensures.1 in
    rw p.1 (λ start x m.
    let P : Exchange → Type 0 = λ y. SendsPart start (g.O.Sink.held c.receive.new.out) y.text in
    subst P (sym (next_hex c.args.len c.args.size x c.args.line.now c.clear.new.self.items
    c.put_line.new.bytes.items c.goes_past.result c.in_ok-put_line.field-0 c.goes_past.ensures
    c.if-goes_past.false c.clear.ensures.items hex c.in_ok-put_line.ensures))
    (rw c.deref.ensures.value at (c.in_err-receive.ensures.stopped start x m)))

pub returns-clause-received : goal.returns-clause-received
returns-clause-received g c start x m =
    let hex : c.in_ok-put_line.field-0 ≡ true = search rules in
    let new = rw c.deref.ensures.value at (c.in_ok-receive.ensures.received start x m) in
    let P : Exchange → Type 0 = λ y. Receives c.args.most start
    (g.O.Sink.held c.receive.new.out) c.receive.new.self.server c.receive.new.self.lines.items
    c.fault.result y in
    subst P (sym (next_hex c.args.len c.args.size x c.args.line.now c.clear.new.self.items
    c.put_line.new.bytes.items c.goes_past.result c.in_ok-put_line.field-0 c.goes_past.ensures
    c.if-goes_past.false c.clear.ensures.items hex c.in_ok-put_line.ensures)) (record {
      fault = c.fault.ensures new.has.world new.has.stands
          ∙ ap shown_fault new.has.sits.link ∙ sym new.fault;
      passes = new.passes;
      meets = λ none. new;
    })
