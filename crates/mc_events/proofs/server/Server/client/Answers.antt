use Rattle.std.proofs.Common.{sym, ap, ◌∙◌}
use Rattle.std.specs.FinMap.{FinMap, get}
use Rattle.std.specs.Option.{option_copied}
use Rattle.std.specs.Ordering.{nat_cmp}
use Rattle.mc_model.specs.declared.player.Player.{Player}
use Rattle.mc_events.proofs.Lending.{lend_none, lend_part, lend_some}
use Rattle.mc_events.proofs.Seating.{inside}
use Rattle.mc_events.proofs.server.Server.client.Goals as goal

pub returns-in-Some-clause-some : goal.returns-in-Some-clause-some
returns-in-Some-clause-some c = λ w st.
    lend_some _ w c.args.k _ _ (inside c.self.view_is st)
    (ap (λ (m : FinMap nat_cmp Player). get m c.args.k) (sym c.players.ensures)
    ∙ sym c.find.ensures ∙ ap option_copied c.in-Some.is)
    c.client_of.ensures.some

pub returns-in-Some-clause-part : goal.returns-in-Some-clause-part
returns-in-Some-clause-part c = λ w p st here.
    lend_part _ w c.args.k _ p c.list.result.now _ (inside c.self.view_is st) c.list.ensures.is
    (ap (λ (m : FinMap nat_cmp Player). get m c.args.k) (sym c.players.ensures)
    ∙ sym c.find.ensures ∙ ap option_copied c.in-Some.is) here
    c.client_of.ensures.part

pub returns-in-None-clause-some : goal.returns-in-None-clause-some
returns-in-None-clause-some c = λ w st.
    lend_none _ w c.args.k (inside c.self.view_is st)
    (ap (λ (m : FinMap nat_cmp Player). get m c.args.k) (sym c.players.ensures)
    ∙ sym c.find.ensures ∙ ap option_copied c.in-None.is)
