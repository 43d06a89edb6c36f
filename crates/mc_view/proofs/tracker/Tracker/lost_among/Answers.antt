use Rattle.std.proofs.Common.{◌+◌, ◌++◌, List, drop, ap, sym, ◌∙◌}
use Rattle.std.proofs.lemmas.List.{append-nil, drop_all, drop_more}
use Rattle.std.specs.FinMap as map
use lib.IntN.{ℤ}
use Rattle.mc_view.specs.declared.tracker.Entry.{Entry}
use Rattle.mc_view.specs.Told.{Told}
use Rattle.mc_view.specs.KeptTold.{numbers_of}
use Rattle.mc_view.proofs.LostFacts.{lost_next, told_numbers, unknown}
use Rattle.mc_view.proofs.tracker.Tracker.lost_among.Goals as goal

pub loop-entry-init : goal.loop-entry-init
loop-entry-init c = record {
  looks = c.looks-looks.ensures;
  lost = ap (λ (ks : List ℤ). ks ++ unknown c.args.now.now
      (numbers_of c.deref-entry-items.result.now)) c.new-lost.ensures.items;
}

pub loop-entry-preserved : goal.loop-entry-preserved
loop-entry-preserved c =
    let es = c.deref-entry-items.result.now in
    let i = c.loop-entry.entry-index in
    let h = c.loop-entry.invariant in
    let is = drop_more es i _ c.loop-entry-test.true in
    record {
      looks = c.push_unknown.ensures.same ∙ h.looks;
      lost = lost_next c.args.now.now c.loop-entry.looks _ (drop i es) (drop (i + 1) es) c.loop-entry.lost.items
          c.push_unknown.new.eids.items _ h.looks is c.in_ok-push_unknown.ensures.put h.lost;
    }

pub returns : goal.returns
returns c =
    let es = c.deref-entry-items.result.now in
    let m = c.args.now.now in
    sym (append-nil c.loop-entry.lost.items)
    ∙ ap (λ (left : List Entry). c.loop-entry.lost.items ++ unknown m (numbers_of left))
    (sym (drop_all c.loop-entry.entry-index es c.loop-entry-test.false))
    ∙ c.loop-entry.invariant.lost
    ∙ ap (λ (fs : List Entry). unknown m (numbers_of fs)) c.deref-entry-items.ensures.value
    ∙ ap (unknown m) (sym (told_numbers c.self.inside.entries.items c.self.invariant))
    ∙ ap (λ (t : Told). unknown m (map.keys t)) c.self.view_is
