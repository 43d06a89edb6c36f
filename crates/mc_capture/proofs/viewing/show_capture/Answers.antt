use Rattle.std.proofs.Common.{rules, ◌+◌, subst, ap, ◌∙◌, Option, IfErr}
use Rattle.std.proofs.lemmas.Result.{err_from_is_err_and}
use Rattle.mc_wire.proofs.Counts.{StandsOrRises-trans}
use Rattle.mc_capture.specs.declared.record.Record.{Record}
use Rattle.mc_capture.specs.Reading.{EndsHead, EndsSo, Finds, found_len, kept_place}
use Rattle.mc_capture.proofs.ViewSteps.{head_ends, if_err_then, record_ends, viewing_breaks}
use Rattle.mc_capture.proofs.ViewSteps.{viewing_ends, viewing_first, viewing_next, viewing_stops}
use Rattle.mc_capture.proofs.viewing.show_capture.Goals as goal

pub returns-in_err-read_head-clause-err : goal.returns-in_err-read_head-clause-err
returns-in_err-read_head-clause-err g c =
    let e : IfErr c.from_residual.result (λ end. EndsHead end
    (g.I.Source.left c.args.input.now) (g.I.Source.left c.read_head.new.input)
    (g.I.Source.faults c.args.input.now) (g.I.Source.faults c.read_head.new.input)) =
    search rules in
    if_err_then c.from_residual.result e (λ end h. head_ends end _ _ _ _ _ _ _
    c.requires.nothing_waits h)

pub loop-init : goal.loop-init
loop-init g c = record {
  views = viewing_first _ _ _ _ _ c.in_ok-read_head.ensures.ok c.requires.nothing_waits
      c.requires.nothing_came;
  in_counts = c.read_head.ensures.counts;
  out_counts = search rules;
}

pub returns-in_err-found-clause-err : goal.returns-in_err-found-clause-err
returns-in_err-found-clause-err g c =
    let e : IfErr c.from_residual-in_err-found.result (λ end. EndsSo end c.loop.at
    (g.I.Source.left c.loop.input) (g.I.Source.left c.read_record.new.input)
    (g.I.Source.faults c.loop.input) (g.I.Source.faults c.read_record.new.input)) =
    search rules in
    if_err_then c.from_residual-in_err-found.result e (λ end h. record_ends end _ _ _ _ _ _ _ _
    _ _ _ _ _ c.loop.invariant.views c.loop.invariant.in_counts h)

pub returns-in_err-found-clause-part : goal.returns-in_err-found-clause-part
returns-in_err-found-clause-part g c =
    let p = err_from_is_err_and c.from_residual-in_err-found.result
    c.from_residual-in_err-found.ensures.1 in
    rw p.1 (viewing_stops _ _ _ _ _ _ _ c.loop.invariant.views)

pub returns-in-None-clause-ok : goal.returns-in-None-clause-ok
returns-in-None-clause-ok g c =
    let P : Option Record → Type 0 = λ found. Finds found (g.I.Source.left c.loop.input)
    (g.I.Source.left c.read_record.new.input) in
    viewing_ends _ _ _ _ _ _ _ _ c.loop.invariant.views
    (subst P c.in-None.is c.in_ok-found.ensures.ok)

pub returns-in_err-show_record-in-Some-clause-part :
    goal.returns-in_err-show_record-in-Some-clause-part
returns-in_err-show_record-in-Some-clause-part g c =
    let p = err_from_is_err_and c.from_residual-in_err-show_record-in-Some.result
    c.from_residual-in_err-show_record-in-Some.ensures.1 in
    let P : Option Record → Type 0 = λ found. Finds found (g.I.Source.left c.loop.input)
    (g.I.Source.left c.read_record.new.input) in
    let finds = subst P c.in-Some.is c.in_ok-found.ensures.ok in
    rw p.1 (viewing_breaks _ _ _ _ _ _ _ _ _ c.in-Some.record c.loop.invariant.views finds.0
    (search rules) finds.1 c.in_err-show_record-in-Some.ensures.part)

pub loop-preserved : goal.loop-preserved
loop-preserved g c =
    let P : Option Record → Type 0 = λ found. Finds found (g.I.Source.left c.loop.input)
    (g.I.Source.left c.read_record.new.input) in
    let finds = subst P c.in-Some.is c.in_ok-found.ensures.ok in
    let e = c.in_ok-show_record-in-Some.ensures in
    record {
      views = viewing_next _ _ _ _ _ _ _ _ _ _ _ _ c.in-Some.record c.loop.invariant.views
          finds.0 (search rules) finds.1 (c.place_behind-at.ensures
          ∙ ap (λ (found : Option Record). kept_place (c.loop.at + found_len found)) c.in-Some.is)
          e.gathers e.next;
      in_counts = StandsOrRises-trans _ _ _ c.loop.invariant.in_counts
          c.read_record.ensures.counts;
      out_counts = StandsOrRises-trans _ _ _ c.loop.invariant.out_counts
          c.show_record.ensures.counts;
    }

pub returns-clause-part : goal.returns-clause-part
returns-clause-part g c = viewing_stops _ _ _ _ _ _ _ c.loop.invariant.views
