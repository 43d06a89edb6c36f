use Rattle.std.proofs.Common.{refl, sym, subst, ap, ◌∙◌}
use Rattle.mc_flush.specs.Lists.{ListValue}
use Rattle.mc_model.specs.Game.{Game}
use Rattle.mc_model.specs.Good.{Good}
use Rattle.mc_play.specs.Kept.{GameValue}
use Rattle.mc_showing.specs.Shown.{pairs_of}
use Rattle.mc_events.specs.contracts.server.Server.{the_view}
use Rattle.mc_events.specs.ReadyColumns.{Sheds}
use Rattle.mc_events.specs.Served.{ServerValue, age_of}
use Rattle.mc_events.specs.Ticking.{IsEnded, dismissed}
use Rattle.mc_events.proofs.Dismissing.{dismissed_stays}
use Rattle.mc_events.proofs.Shedding.{sheds_given}
use Rattle.mc_events.proofs.server.Server.end_tick.Goals as goal

pub shed-requires : goal.shed-requires
shed-requires c =
    let left = c.in_ok-dismiss.ensures.game in
    record {
      all = ap (λ (v : GameValue). v.settled) left ∙ c.told.ensures.settled
          ∙ sym (ap (λ (v : GameValue). v.game.edits) left
          ∙ (dismissed_stays c.self.inside.connections c.as_slice.result.now
          c.told.new.self.game).edits
          ∙ ap (λ (g : Game). g.edits) c.told.ensures.game);
    }

pub returns-clause-ended : goal.returns-clause-ended
returns-clause-ended c =
    let old = the_view c.self.inside in
    let left = c.in_ok-dismiss.ensures.game in
    let new : ServerValue = record old {
      game = c.shed.new.self;
      list = c.dismiss.new.list;
    } in
    subst (λ (v : ServerValue). IsEnded v new) c.self.view_is (record {
      game = c.shed.ensures.game ∙ ap (λ (v : GameValue). v.game) left
          ∙ (λ i. dismissed old.connections
          ((c.as_slice.ensures.value ∙ c.self.invariant.are) i) (c.told.ensures.game i));
      settled = c.shed.ensures.settled ∙ ap (λ (v : GameValue). v.settled) left
          ∙ c.told.ensures.settled;
      listed = λ good was.
          c.in_ok-dismiss.ensures.listed (subst Good (sym c.told.ensures.game) good)
          (ap (λ (l : ListValue). l.present) c.in_ok-settle.ensures.ok ∙ was
          ∙ ap pairs_of (sym c.told.ensures.game)) ∙ ap pairs_of (sym c.shed.ensures.game);
      before = c.in_ok-dismiss.ensures.last
          ∙ ap (λ (l : ListValue). l.last) c.in_ok-settle.ensures.ok;
      rest = refl;
    })

pub returns-clause-age : goal.returns-clause-age
returns-clause-age c =
    ap (λ (g : Game). g.age) c.shed.ensures.game
    ∙ ap (λ (v : GameValue). v.game.age) c.in_ok-dismiss.ensures.game
    ∙ (dismissed_stays c.self.inside.connections c.as_slice.result.now c.told.new.self.game).age
    ∙ ap (λ (g : Game). g.age) c.told.ensures.game ∙ ap age_of c.self.view_is

pub returns-clause-sheds : goal.returns-clause-sheds
returns-clause-sheds c =
    subst (λ (v : ServerValue). Sheds v.game c.shed.new.self) c.self.view_is
    (sheds_given c.self.inside.game c.dismiss.new.game c.shed.new.self
    c.as_slice-2.result.now (c.in_ok-dismiss.ensures.ready ∙ c.told.ensures.ready)
    c.shed.ensures.land c.shed.ensures.game
    (c.as_slice-2.ensures.value ∙ c.in_ok-views.ensures))
