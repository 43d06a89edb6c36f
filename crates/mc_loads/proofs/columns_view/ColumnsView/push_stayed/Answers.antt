use Rattle.std.proofs.Common.{◌≡◌, ◌+◌, ◌++◌, true, ℕ, List, ap, sym, ◌∙◌, rules}
use Rattle.std.proofs.lemmas.Result.{on_ok_weaker}
use Rattle.mc_frame.specs.Kept.{joined}
use Rattle.mc_loads.specs.Columns.{stays}
use Rattle.mc_loads.proofs.ColumnFrames.{changed_one, cost_one}
use Rattle.mc_loads.proofs.columns_view.ColumnsView.push_stayed.Goals as goal

pub returns-clause-sent : goal.returns-clause-sent
returns-clause-sent g c =
    let v = c.args.self.now in
    let here : stays v.was v.view c.args.place.now ≡ true = search rules in
    on_ok_weaker c.push_piece.result
    (λ sent. sent ∙ ap (λ (t : List ℕ). joined c.args.out.now.items ++ t)
    (changed_one v.land.now v.was v.view c.args.place.now _ here c.in_ok-changes.ensures.is))
    c.push_piece.ensures

pub returns-clause-cost : goal.returns-clause-cost
returns-clause-cost g c =
    let v = c.args.self.now in
    let here : stays v.was v.view c.args.place.now ≡ true = search rules in
    on_ok_weaker c.push_piece.result
    (λ _. c.in_ok-changes.ensures.cost ∙ ap (λ (n : ℕ). c.args.steps.now + n)
    (sym (cost_one v.land.now v.was v.view v.encoded.now c.args.place.now here)))
    c.push_piece.ensures
