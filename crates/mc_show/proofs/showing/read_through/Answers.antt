use Rattle.std.proofs.Common.{rules, ◌+◌, subst, ap, ◌∙◌, Option, IfErr}
use Rattle.mc_wire.proofs.Counts.{StandsOrRises-trans}
use Rattle.mc_capture.specs.declared.record.Record.{Record}
use Rattle.mc_capture.specs.Reading.{EndsHead, EndsSo, Finds, found_len, kept_place}
use Rattle.mc_capture.proofs.ViewSteps.{if_err_then}
use Rattle.mc_show.proofs.Records.{following_ends, following_next, head_ends, record_ends}
use Rattle.mc_show.proofs.showing.read_through.Goals as goal

pub returns-in_err-head-clause-err : goal.returns-in_err-head-clause-err
returns-in_err-head-clause-err g c =
    let e : IfErr c.from_residual.result (λ end. EndsHead end
    (g.I.Source.left c.args.reader.now.input.now) (g.I.Source.left c.head.new.self.input.now)
    (g.I.Source.faults c.args.reader.now.input.now)
    (g.I.Source.faults c.head.new.self.input.now)) =
    search rules in
    if_err_then c.from_residual.result e (λ end h. head_ends end _ _ _ _ h)

pub returns-in_err-found-clause-err : goal.returns-in_err-found-clause-err
returns-in_err-found-clause-err g c =
    let e : IfErr c.from_residual-in_err-found.result (λ end. EndsSo end c.loop.reader.at
    (g.I.Source.left c.loop.reader.input.now) (g.I.Source.left c.next.new.self.input.now)
    (g.I.Source.faults c.loop.reader.input.now) (g.I.Source.faults c.next.new.self.input.now)) =
    search rules in
    if_err_then c.from_residual-in_err-found.result e (λ end h. record_ends end _ _ _ _ _ _ _ _ _
    c.loop.invariant.follows c.loop.invariant.counts h)

pub returns-in-None-clause-ok : goal.returns-in-None-clause-ok
returns-in-None-clause-ok g c =
    let P : Option Record → Type 0 = λ found. Finds found
    (g.I.Source.left c.loop.reader.input.now) (g.I.Source.left c.next.new.self.input.now) in
    following_ends _ _ _ _ _ _ c.loop.invariant.follows
    (subst P c.in-None.is c.in_ok-found.ensures.ok)

pub loop-preserved : goal.loop-preserved
loop-preserved g c =
    let P : Option Record → Type 0 = λ found. Finds found
    (g.I.Source.left c.loop.reader.input.now) (g.I.Source.left c.next.new.self.input.now) in
    let finds = subst P c.in-Some.is c.in_ok-found.ensures.ok in
    record {
      follows = following_next _ _ _ _ _ _ _ _ c.in-Some.record c.loop.invariant.follows finds.0
          (search rules) finds.1 (c.in_ok-found.ensures.at
          ∙ ap (λ (found : Option Record). kept_place (c.loop.reader.at + found_len found))
          c.in-Some.is) c.in-Ok.ensures;
      reference = c.in_ok-found.ensures.reference ∙ c.loop.invariant.reference;
      counts = StandsOrRises-trans _ _ _ c.loop.invariant.counts c.next.ensures.counts;
    }
