use Rattle.std.proofs.Common.{List, ℕ, sym, ap, ◌∙◌}
use Rattle.mc_links.specs.contracts.connection.Connection.{the_view}
use Rattle.mc_links.proofs.Handing.{left_closed, left_open}
use Rattle.mc_links.proofs.connection.Connection.leave.Goals as goal

pub returns-then-is_closed : goal.returns-then-is_closed
returns-then-is_closed c =
    let v = the_view c.self.inside in
    ap (λ (owed : List ℕ). record v { link = record v.link { owed = owed } }) c.clear.ensures
    ∙ left_closed c.args.cause v c.args.self.now c.self.view_is
    (sym c.is_closed.ensures ∙ c.if-is_closed.true)

pub returns : goal.returns
returns c =
    let v = the_view c.self-2.inside in
    ap (λ (owed : List ℕ). record v { link = record v.link { owed = owed } }) c.clear-2.ensures
    ∙ left_open c.args.cause c.args.self.now v (c.self-2.view_is ∙ c.mark_closed.ensures)
    (sym c.is_closed.ensures ∙ c.if-is_closed.false)
