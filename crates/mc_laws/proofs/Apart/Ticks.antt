-- Two worlds that are the same but for one connection stay so over a tick, and all others are
-- handed the same.
use Rattle.std.proofs.Common.{◌≡◌, ◌≢◌, ℕ, false, Option, Some, None, refl, sym}
use Rattle.std.proofs.Common.{subst, ap, ◌∙◌}
use Rattle.std.specs.Prelude.{is_some, option_map}
use Rattle.std.specs.List.{filter}
use Rattle.std.specs.FinMap.{get, keys}
use Rattle.mc_model.specs.declared.player.Player.{Player}
use Rattle.mc_model.specs.Stages.{is_closed}
use Rattle.mc_model.specs.Game.{Game}
use Rattle.mc_model.specs.Leaving.{leave_all}
use Rattle.mc_model.specs.Link.{Handing, Link, quiet}
use Rattle.mc_model.specs.Showing.{last_shown, sight_of}
use Rattle.mc_model.specs.World.{World, each, is_closing}
use Rattle.mc_model.specs.Minds.{plans_left}
use Rattle.mc_model.specs.Tick.{aged, at_tick, beat, beat_of, beats, flush, flush_of, flushed}
use Rattle.mc_model.specs.Tick.{grown, shown_all, tick, told}
use Rattle.mc_model.specs.Good.{GoodWorld, in_play}
use Rattle.mc_model.specs.Apart.{AlikeBut, IsShut, SameBut}
use Rattle.mc_model.proofs.Maps.Lookups.{get_keyed}
use Rattle.mc_laws.proofs.Apart.Swaps.{leave_but}
use Rattle.mc_laws.proofs.Walk.Handings.{not_in_play}
use Rattle.mc_laws.proofs.Walk.Each.{each_links}
use Rattle.mc_laws.proofs.TickRules.{tick_rules}
use Rattle.mc_laws.proofs.Runs.Worlds.{at_tick_world}
use Rattle.mc_laws.proofs.Apart.Alike.{closing_alike, hands_same}

-- ---- nobody plays there

pub nobody : (k : ℕ) (w : World) → GoodWorld w → IsShut (get w.links k) →
    get w.game.players k ≡ None
nobody k w a shut = none_of (get w.game.players k) (a.plays k ∙ not_played (get w.links k) shut)
  where
    not_played : (o : Option Link) → IsShut o → in_play o ≡ false
    not_played None shut = refl
    not_played (Some l) shut = not_in_play l.stage shut

    none_of : (o : Option Player) → is_some o ≡ false → o ≡ None
    none_of None e = refl
    none_of (Some p) e = absurd cc

-- ---- each is handed something

module _ (k : ℕ) (f g : ℕ → Link → Handing) (w v : World)
    (alike : (i : ℕ) → i ≢ k → (l : Link) → f i l ≡ g i l)
    (a : SameBut k w v) (none : get w.game.players k ≡ None)
    (rests : (l : Link) → f k l ≡ quiet l) (rests_too : (l : Link) → g k l ≡ quiet l) where
  same_game : (each f w).game ≡ (each g v).game
  unfolding each
  same_game = leave_but k (λ (i : ℕ). is_closing f i (get w.links i))
      (λ (i : ℕ). is_closing g i (get v.links i))
      (λ i ne. closing_alike f g i (get w.links i) (get v.links i) (alike i ne) (a.links i ne))
      (keys w.game.players) w.game none
      ∙ (λ x. leave_all (filter (λ (i : ℕ). is_closing g i (get v.links i))
      (keys (a.game x).players)) (a.game x))

  stays_shut : (h : ℕ → Link → Handing) (o : Option Link) → ((l : Link) → h k l ≡ quiet l) →
      IsShut o → IsShut (option_map (λ (l : Link). (h k l).link) o)
  stays_shut h None is shut = tt
  stays_shut h (Some l) is shut =
      ap (λ (x : Handing). is_closed x.link.stage) (is l) ∙ shut

  pub each_apart : SameBut k (each f w) (each g v)
  unfolding each
  each_apart = record {
    game = same_game;
    plans = a.plans;
    last = a.last;
    links = λ i ne. each_links f w i ∙ ap (option_map (λ (l : Link). (f i l).link)) (a.links i ne)
        ∙ at_link i ne (get v.links i) ∙ sym (each_links g v i);
    unread = a.unread;
    shown = a.shown;
    shut = subst IsShut (sym (each_links f w k)) (stays_shut f (get w.links k) rests a.shut);
    shut_too =
        subst IsShut (sym (each_links g v k)) (stays_shut g (get v.links k) rests_too a.shut_too);
  }
    where
      at_link : (i : ℕ) → i ≢ k → (o : Option Link) →
          option_map (λ (l : Link). (f i l).link) o ≡ option_map (λ (l : Link). (g i l).link) o
      at_link i ne None = refl
      at_link i ne (Some l) = ap (λ (h : Handing). Some h.link) (alike i ne l)

-- ---- a tick

module _ (k : ℕ) (w v : World) (good : GoodWorld w) (a : SameBut k w v) where
  none_here : get w.game.players k ≡ None
  none_here = nobody k w good a.shut

  none_there : get v.game.players k ≡ None
  none_there = ap (λ (h : Game). get h.players k) (sym a.game) ∙ none_here

  beats_alike : SameBut k (beats (aged w)) (beats (aged v))
  beats_alike = each_apart k _ _ (aged w) (aged v)
      (λ i ne l. λ x. beat (grown (a.game x)) (a.shown i ne x) i l)
      (record {
        game = λ i. grown (a.game i);
        plans = a.plans;
        last = a.last;
        links = a.links;
        unread = a.unread;
        shown = a.shown;
        shut = a.shut;
        shut_too = a.shut_too;
      })
      none_here
      (λ l. ap (beat_of (grown w.game) (get w.shown k) l) none_here)
      (λ l. ap (beat_of (grown v.game) (get v.shown k) l) none_there)

  ticks_alike : SameBut k (at_tick w) (at_tick v)
  ticks_alike = let b = beats_alike in record {
    game = λ i. tick_rules (b.plans i) (b.game i);
    plans = λ i. plans_left (b.game i) (b.plans i);
    last = b.last;
    links = b.links;
    unread = b.unread;
    shown = b.shown;
    shut = b.shut;
    shut_too = b.shut_too;
  }

  shown_alike : (none : get w.game.players k ≡ None) → SameBut k (shown_all w) (shown_all v)
  shown_alike none = record {
    game = λ i. told (a.game i);
    plans = a.plans;
    last = a.last;
    links = a.links;
    unread = a.unread;
    shown = λ i ne. get_keyed _ w.game.players i
        ∙ (λ x. option_map (λ (p : Player). sight_of (a.game x) p (last_shown (a.shown i ne x)))
        (get (a.game x).players i)) ∙ sym (get_keyed _ v.game.players i);
    shut = a.shut;
    shut_too = a.shut_too;
  }

  flushes_alike : SameBut k (flushed w) (flushed v)
  flushes_alike = each_apart k _ _ (shown_all w) (shown_all v)
      (λ i ne l. λ x. flush (a.game x) (a.shown i ne x) i l)
      (shown_alike none_here)
      (get_keyed _ w.game.players k ∙ ap (option_map _) none_here)
      (λ l. ap (flush_of w.game (get w.shown k) l) none_here)
      (λ l. ap (flush_of v.game (get v.shown k) l) none_there)

pub tick_apart : (k : ℕ) (w v : World) → GoodWorld w → SameBut k w v →
    AlikeBut k (tick w) (tick v)
tick_apart k w v good a =
    let b = ticks_alike k w v good a in
    record {
      worlds = flushes_alike k (at_tick w) (at_tick v) (at_tick_world w good) b;
      hands = hands_same k w v (record {
        game = b.game;
        plans = b.plans;
        last = a.last;
        links = a.links;
        shown = a.shown;
        beats = λ j ne l. λ x. beat (grown (a.game x)) (a.shown j ne x) j l;
      });
    }
