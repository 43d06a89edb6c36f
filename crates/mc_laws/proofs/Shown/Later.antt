-- A game along a run: what it began with is the same, and each entity that stays is of the kind
-- that it was of.
use Rattle.std.proofs.Common.{◌≡◌, ℕ, true, false, List, [], ◌∷◌, refl, sym, subst, ◌∙◌}
use Rattle.std.specs.Prelude.{Bool, if◌then◌else◌}
use Rattle.std.specs.FinMap.{get}
use Rattle.mc_model.specs.declared.stage.Stage.{Stage}
use Rattle.mc_model.specs.Step.{Event, step}
use Rattle.mc_model.specs.Stages.{is_closed}
use Rattle.mc_model.specs.Game.{Game}
use Rattle.mc_model.specs.Leaving.{leave, leave_all, left_by}
use Rattle.mc_model.specs.Deeds.{enter_as}
use Rattle.mc_model.specs.Link.{Handing, Link, gone}
use Rattle.mc_model.specs.Windows.{shut}
use Rattle.mc_model.specs.World.{Outcome, Seat, Turn, World, closed_by, each, seat_of}
use Rattle.mc_model.specs.Tick.{aged, at_tick, beat, beats, flush, grown, shown_all, tick}
use Rattle.mc_model.specs.Good.{GoodWorld}
use Rattle.mc_model.specs.Fitting.{GivenKinds}
use Rattle.mc_model.proofs.Lasting.{Since}
use Rattle.mc_model.proofs.LastingKept.{since_filtered, since_more}
use Rattle.mc_laws.proofs.Deeds.Leaving.{leave_all_stays, leave_cases, leave_stays}
use Rattle.mc_laws.proofs.Deeds.Shutting.{shut_on}
use Rattle.mc_laws.proofs.Acts.ActOn.{act_on}
use Rattle.mc_laws.proofs.Walk.Moves.{Kept, Walked, answers, closes, comes_in, does, keeps}
use Rattle.mc_laws.proofs.Walk.Moves.{shakes, walked_keeps}
use Rattle.mc_laws.proofs.Walk.Steps.{Move, departs, forgets, joins, passes, rests, sits}
use Rattle.mc_laws.proofs.Walk.Steps.{step_moves, takes}
use Rattle.mc_laws.proofs.TickRules.{rules_good, rules_leave}
use Rattle.mc_laws.proofs.Runs.Worlds.{beats_world}

-- a game after another: what it began with is the same, and so are kinds
pub record Later (before g : Game) : Type 0 where
  pub since : (old : GivenKinds) → Since old before.eids before.entities →
      Since old g.eids g.entities
  pub settings : g.settings ≡ before.settings

pub later_same : (g : Game) → Later g g
later_same g = record { since = λ old since. since; settings = refl }

-- ---- going

leave_since : (old : GivenKinds) (k : ℕ) (g : Game) → Since old g.eids g.entities →
    Since old (leave k g).eids (leave k g).entities
leave_since old k g since = leave_cases k g (λ (v : Game). Since old v.eids v.entities)
    (λ none. since)
    (λ p there. since_filtered _ (shut k p g).entities ((shut_on k p g there).since old since))

leave_all_since : (old : GivenKinds) (ks : List ℕ) (g : Game) → Since old g.eids g.entities →
    Since old (leave_all ks g).eids (leave_all ks g).entities
leave_all_since old [] g since = since
leave_all_since old (k ∷ ks) g since =
    leave_all_since old ks (leave k g) (leave_since old k g since)

left_later : (before : Game) (k : ℕ) (stage : Stage) (g : Game) → Later before g →
    Later before (left_by k stage g)
left_later before k stage g a = step_at (is_closed stage)
  where
    step_at : (b : Bool) → Later before (if b then leave k g else g)
    step_at true = record {
      since = λ old since. leave_since old k g (a.since old since);
      settings = (leave_stays k g).settings ∙ a.settings;
    }
    step_at false = a

-- ---- what bytes do

later_kept : (k : ℕ) (before : Game) → Kept k (λ s ps. Later before s.game)
later_kept k before s t ps (keeps unread is) a = rw is a
later_kept k before s t ps (does packet g at did is) a =
    let on = act_on k packet s.game g did in
    subst (λ (x : Turn). Later before x.seat.game) (sym is) (record {
      since = λ old since. on.since old (a.since old since);
      settings = on.settings ∙ a.settings;
    })
later_kept k before s t ps (shakes protocol stage at play closed is) a = rw is a
later_kept k before s t ps (answers packet at is) a = rw is (left_later before k _ s.game a)
later_kept k before s t ps (closes cause packets open_ last other is) a =
    subst (λ (x : Turn). Later before x.seat.game) (sym is) (left_later before k _ s.game a)
later_kept k before s t ps (comes_in name at free is) a =
    subst (λ (x : Turn). Later before x.seat.game) (sym is)
    (left_later before k _ (enter_as k name s.game) (record {
      since = λ old since. since_more _ _ s.game.entities (a.since old since);
      settings = a.settings;
    }))

walked_later : (w : World) (k : ℕ) (l : Link) (t : Turn) → Walked k (seat_of w k l) t →
    Later w.game t.seat.game
walked_later w k l t walked = walked_keeps k (λ (s : Seat) ps. Later w.game s.game)
    (later_kept k w.game) (seat_of w k l) t [] walked (later_same w.game)

-- ---- a tick

later_on : (g v u : Game) → Later g v → Later v u → Later g u
later_on g v u a b = record {
  since = λ old since. b.since old (a.since old since);
  settings = b.settings ∙ a.settings;
}

each_later : (before : Game) (f : ℕ → Link → Handing) (w : World) → Later before w.game →
    Later before (each f w).game
unfolding each
each_later before f w a = record {
  since = λ old since. leave_all_since old (closed_by f w) w.game (a.since old since);
  settings = (leave_all_stays (closed_by f w) w.game).settings ∙ a.settings;
}

pub at_tick_later : (w : World) → GoodWorld w → Later w.game (at_tick w).game
at_tick_later w good =
    let beaten = beats_world w good in
    let plans = (beats (aged w)).plans in
    let kept = rules_good plans (beats (aged w)).game beaten.game beaten.told in
    later_on w.game (beats (aged w)).game (at_tick w).game
    (each_later w.game (λ (k : ℕ) (l : Link). beat (grown w.game) (get w.shown k) k l) (aged w)
    (record { since = λ old since. since; settings = refl }))
    (record {
      since = kept.since;
      settings = (rules_leave plans (beats (aged w)).game).settings;
    })

-- the game that a tick leaves, after the one that was shown
pub flushed_later : (w : World) → Later (at_tick w).game (tick w).world.game
flushed_later w = each_later (at_tick w).game
    (λ (k : ℕ) (l : Link). flush (at_tick w).game (get (at_tick w).shown k) k l)
    (shown_all (at_tick w))
    (record { since = λ old since. since; settings = refl })

-- ---- any event

moves_later : (w : World) (o : Outcome) → Move w o → GoodWorld w →
    Later w.game o.world.game
moves_later w o (rests is) good = rw is (later_same w.game)
moves_later w o (sits k l t there walked is) good =
    subst (λ (x : Outcome). Later w.game x.world.game) (sym is)
    (walked_later w k l t walked)
moves_later w o (departs k l cause there wordless is) good =
    subst (λ (x : Outcome). Later w.game x.world.game) (sym is)
    (left_later w.game k (gone cause l).stage w.game (later_same w.game))
moves_later w o (takes k n l there is) good = rw is (later_same w.game)
moves_later w o (joins k new is) good = rw is (later_same w.game)
moves_later w o (forgets k l there done is) good = rw is (later_same w.game)
moves_later w o (passes is) good =
    let a = at_tick_later w good in
    subst (λ (x : Outcome). Later w.game x.world.game) (sym is)
    (later_on w.game (at_tick w).game (tick w).world.game a (flushed_later w))

pub step_later : (w : World) (e : Event) → GoodWorld w →
    Later w.game (step w e).world.game
step_later w e good = moves_later w (step w e) (step_moves w e) good
