use Rattle.std.proofs.Common.{List, ℕ, take, subst, ◌∙◌}
use Rattle.mc_wire.specs.Stream.{Grows}
use Rattle.mc_measure.proofs.Keeps.{text_is}
use Rattle.mc_measure.proofs.telling.load.Goals as goal

pub returns-in_err-write_all-clause-part : goal.returns-in_err-write_all-clause-part
returns-in_err-write_all-clause-part g c = λ failed.
    let is = text_is c.args.clients c.args.ticks _ _ c.as_bytes.result.now
    c.in_ok-measured.ensures.census c.in_ok-measured.ensures.bytes
    (c.as_bytes.ensures.value ∙ c.in_ok-line.ensures) in
    let part = c.in_err-write_all.ensures.part in (
      part.0,
      subst (λ (line : List ℕ). Grows (g.O.Sink.held c.args.out.now)
          (g.O.Sink.held c.write_all.new.sink) (take part.0 line)) is part.1,
    )

pub returns-clause-told : goal.returns-clause-told
returns-clause-told g c =
    let is = text_is c.args.clients c.args.ticks _ _ c.as_bytes.result.now
    c.in_ok-measured.ensures.census c.in_ok-measured.ensures.bytes
    (c.as_bytes.ensures.value ∙ c.in_ok-line.ensures) in
    subst (Grows (g.O.Sink.held c.args.out.now) (g.O.Sink.held c.write_all.new.sink)) is
    c.in_ok-write_all.ensures.whole
