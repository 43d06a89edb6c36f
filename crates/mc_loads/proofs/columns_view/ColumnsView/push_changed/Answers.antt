use Rattle.std.proofs.Common.{◌≡◌, ◌+◌, ◌++◌, [], ◌∷◌, List, rules, arith, ap, sym, subst, ◌∙◌}
use Rattle.std.specs.List.{AllByRecursion}
use Rattle.mc_frame.specs.Kept.{joined}
use Rattle.mc_land.specs.Places.{Place, IsPlace}
use Rattle.mc_sending.specs.Sending.{play_bytes}
use Rattle.mc_sending.proofs.Pieces.{next_piece, next_holds}
use Rattle.mc_loads.specs.Columns.{changed_packets, stayed_of, staying}
use Rattle.mc_loads.specs.ColumnFrames.{changes_cost}
use Rattle.mc_loads.proofs.ColumnFrames.{changed_next, cost_next}
use Rattle.mc_loads.proofs.TouchedColumns.{all_sent, cost_touched}
use Rattle.mc_loads.proofs.columns_view.ColumnsView.push_changed.Goals as goal

pub loop-place-init : goal.loop-place-init
loop-place-init g c = record {
  places = subst (AllByRecursion IsPlace)
      (sym c.into_iter-place-iterator.ensures.into_iter_gives.0)
      c.touched-place-items.ensures.inside;
  sent = search rules;
  cost = search rules;
}

pub push_stayed-requires : goal.push_stayed-requires
push_stayed-requires g c = record {
  place = (next_holds IsPlace c.loop-place.place-iterator c.next.new.self c.in-Some.place.now
      c.in-Some.ensures.steps c.loop-place.invariant.places).0;
  frames = c.requires;
}

pub loop-place-preserved : goal.loop-place-preserved
loop-place-preserved g c =
    let i = c.loop-place.invariant in
    let next = c.in-Some.ensures.steps in
    let v = c.args.self.now in
    let x = c.in-Some.place.now in
    let rest = c.next.new.self in
    record {
      places = (next_holds IsPlace c.loop-place.place-iterator rest x next i.places).1;
      sent = next_piece (joined c.loop-place.out.items) (joined c.push_stayed.new.out.items)
          (joined c.args.out.now.items ++ play_bytes (changed_packets v.land.now
          (staying v.was v.view c.into_iter-place-iterator.result)))
          (play_bytes (changed_packets v.land.now (staying v.was v.view (x ∷ []))))
          (play_bytes (changed_packets v.land.now (staying v.was v.view rest)))
          (play_bytes (changed_packets v.land.now (staying v.was v.view
          c.loop-place.place-iterator)))
          (ap (λ (places : List Place). play_bytes (changed_packets v.land.now
          (staying v.was v.view places))) next ∙ changed_next v.land.now v.was v.view x rest)
          i.sent c.in_ok-push_stayed.ensures.sent;
      cost = omega (
        arith,
        i.cost,
        ap (λ (places : List Place). changes_cost v.encoded.now v.land.now
            (staying v.was v.view places)) next,
        cost_next v.land.now v.was v.view v.encoded.now x rest,
        c.in_ok-push_stayed.ensures.cost,
      );
    }

pub returns-in_err-push_stayed-clause-bounded : goal.returns-in_err-push_stayed-clause-bounded
returns-in_err-push_stayed-clause-bounded g c =
    let v = c.args.self.now in
    omega (
      arith,
      c.loop-place.invariant.cost,
      ap (λ (places : List Place). changes_cost v.encoded.now v.land.now
          (staying v.was v.view places)) c.in-Some.ensures.steps,
      ap (λ (places : List Place). changes_cost v.encoded.now v.land.now
          (staying v.was v.view places)) c.into_iter-place-iterator.ensures.into_iter_gives.0,
      cost_next v.land.now v.was v.view v.encoded.now c.in-Some.place.now c.next.new.self,
      cost_touched v.land.now c.touched-place-items.result.now.keys
          c.touched-place-items.ensures v.encoded.now v.was v.view,
      c.push_stayed.ensures.bounded,
    )

pub returns-clause-sent : goal.returns-clause-sent
returns-clause-sent g c =
    let v = c.args.self.now in
    let none : c.loop-place.place-iterator ≡ [] = search rules in
    all_sent v.land.now c.touched-place-items.result.now.keys c.touched-place-items.ensures
    v.was v.view (joined c.loop-place.out.items) (joined c.args.out.now.items)
    c.loop-place.place-iterator c.into_iter-place-iterator.result none
    c.into_iter-place-iterator.ensures.into_iter_gives.0 c.loop-place.invariant.sent

pub returns-clause-cost : goal.returns-clause-cost
returns-clause-cost g c =
    let v = c.args.self.now in
    let none : c.loop-place.place-iterator ≡ [] = search rules in
    omega (
      arith,
      c.loop-place.invariant.cost,
      ap (λ (places : List Place). changes_cost v.encoded.now v.land.now
          (staying v.was v.view places)) none,
      ap (λ (places : List Place). changes_cost v.encoded.now v.land.now
          (staying v.was v.view places)) c.into_iter-place-iterator.ensures.into_iter_gives.0,
      cost_touched v.land.now c.touched-place-items.result.now.keys
          c.touched-place-items.ensures v.encoded.now v.was v.view,
    )

pub returns-clause-bounded : goal.returns-clause-bounded
returns-clause-bounded g c =
    let v = c.args.self.now in
    let cost : c.loop-place.steps ≡ c.args.steps.now
    + changes_cost v.encoded.now v.land.now (stayed_of v.was v.view) = returns-clause-cost g c in
    omega (arith, cost)
