use Rattle.std.proofs.Common.{◌≡◌, [], sym, subst, ◌∙◌}
use Rattle.std.specs.Prelude.{nat_eq}
use Rattle.std.specs.List.{IsDistinct}
use Rattle.std.specs.Map.{keys_of}
use Rattle.mc_flush.proofs.Lookups.{rest_distinct}
use Rattle.mc_flush.proofs.Missing.{Players, IsFinding, finding_begins, finding_goes_on}
use Rattle.mc_flush.proofs.Missing.{finding_ends}
use Rattle.mc_flush.proofs.names.Names.missing.Goals as goal

pub loop-uuid-init : goal.loop-uuid-init
loop-uuid-init c =
    let all : c.into_iter-uuid-iterator.result ≡ c.args.players.now.entries =
    c.into_iter-uuid-iterator.ensures.into_iter_gives ∙ c.iter-uuid-items.ensures.rest in
    record {
      ordered = c.new-found.ensures.ordered;
      apart = subst (λ (es : Players). IsDistinct nat_eq (keys_of es)) (sym all)
          c.iter-uuid-items.ensures.unique;
      finding = subst (λ (es : Players). IsFinding c.args.others.now.entries es
          c.into_iter-uuid-iterator.result c.args.players.now.entries) (sym
          c.new-found.ensures.empty)
          (subst (λ (es : Players). IsFinding c.args.others.now.entries [] es
          c.args.players.now.entries) (sym all) (finding_begins c.args.others.now.entries
          c.args.players.now.entries));
    }

pub loop-uuid-preserved : goal.loop-uuid-preserved
loop-uuid-preserved c =
    let i = c.loop-uuid.invariant in
    let next = c.in-Some.ensures.steps in
    record {
      ordered = c.in_ok-keep_other.ensures.ordered;
      apart = rest_distinct (c.in-Some.uuid.now, c.in-Some.name.now) c.next.new.self (subst (λ (es :
          Players). IsDistinct nat_eq (keys_of es)) next i.apart);
      finding = finding_goes_on c.args.others.now.entries c.loop-uuid.found.entries
          c.keep_other.new.found.entries c.loop-uuid.uuid-iterator c.next.new.self
          c.args.players.now.entries c.in-Some.uuid.now c.in-Some.name.now
          next i.apart c.in_ok-keep_other.ensures.found i.finding;
    }

pub returns : goal.returns
returns c =
    let i = c.loop-uuid.invariant in
    let end = c.in-None.ensures.steps.0 in
    finding_ends c.args.others.now.entries c.loop-uuid.found.entries c.args.players.now.entries
    i.ordered
    (subst (λ (es : Players). IsFinding c.args.others.now.entries c.loop-uuid.found.entries es
    c.args.players.now.entries) end i.finding)
