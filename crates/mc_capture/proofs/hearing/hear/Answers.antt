use Rattle.std.proofs.Common.{List, ℕ, Option, sym, ap, ◌∙◌}
use Rattle.mc_frame.specs.Held.{Splitting}
use Rattle.mc_capture.specs.Hearings.{waiting_in}
use Rattle.mc_capture.specs.Talks.{Hearing}
use Rattle.mc_capture.proofs.Bytes.{silent_heard}
use Rattle.mc_capture.proofs.Gatherings.{gathers_empty}
use Rattle.mc_capture.proofs.hearing.hear.Goals as goal

pub returns-in-None-clause-gathers : goal.returns-in-None-clause-gathers
returns-in-None-clause-gathers g c =
    let none = sym c.take.ensures.value ∙ c.in-None.is in
    gathers_empty _ c.args.lines.now.items _ (ap (λ (t : List ℕ × Hearing). t.0)
    (silent_heard c.args.k c.args.way c.args.states.now c.args.waits.now c.args.piece.now none))

pub returns-in-None-clause-next : goal.returns-in-None-clause-next
returns-in-None-clause-next g c =
    let none = sym c.take.ensures.value ∙ c.in-None.is in
    ap (λ (t : List ℕ × Hearing). t.1)
    (silent_heard c.args.k c.args.way c.args.states.now c.args.waits.now c.args.piece.now none)
    ∙ ap (λ (s : Option Splitting). waiting_in c.args.states.now s)
    (none ∙ sym c.take.ensures.after)
