-- A client that was silent for too long at a tick leaves the world, but for itself, as if it had
-- gone before the tick.
use Rattle.std.proofs.Common.{◌≡◌, ◌≢◌, ℕ, Bool, true, cond, Option, Some, None, refl, sym}
use Rattle.std.proofs.Common.{subst, ap, ◌∙◌}
use Rattle.std.specs.Prelude.{◌==◌, not, if◌then◌else◌}
use Rattle.std.specs.List.{filter}
use Rattle.std.specs.FinMap.{get, keys}
use Rattle.mc_model.specs.declared.cause.Cause.TheVariants as causes
use Rattle.mc_model.specs.declared.player.Player.{Player}
use Rattle.mc_model.specs.Sight.{Sight}
use Rattle.mc_model.specs.Step.{left, ticked, depart, step}
use Rattle.mc_model.specs.Talk.{farewell}
use Rattle.mc_model.specs.Ticks.{older}
use Rattle.mc_model.specs.Stages.{is_closed}
use Rattle.mc_windows.specs.Pack.{finished_pack}
use Rattle.mc_model.specs.Game.{Game, pack_of}
use Rattle.mc_model.proofs.Maps.Options.{none_some, some_is}
use Rattle.mc_model.specs.Leaving.{leave, leave_all}
use Rattle.mc_model.specs.Link.{Link, disconnect, gone}
use Rattle.mc_model.specs.World.{World, each, is_closing, on_link, seat_of, with_seat}
use Rattle.mc_model.specs.Tick.{aged, at_tick, beat, beat_of, beats, grown, tick}
use Rattle.mc_model.specs.Good.{GoodWorld, in_play}
use Rattle.mc_model.specs.Apart.{FallsSilent, HandsAlike, IsShut, SameBut}
use Rattle.mc_model.specs.Headline.{IsEnded}
use Rattle.mc_model.proofs.Maps.Lookups.{put_other, put_same}
use Rattle.mc_laws.proofs.Deeds.Leaving.{leave_nobody, leave_other, leave_same, leave_stays}
use Rattle.mc_laws.proofs.Apart.Leavings.{HasNothing, gone_with, left_empty}
use Rattle.mc_laws.proofs.Apart.Swaps.{keys_removed, leave_but, leave_first, leave_without}
use Rattle.mc_laws.proofs.Walk.Each.{disconnect_closes}
use Rattle.mc_laws.proofs.Walk.Handings.{gone_closed, not_in_play}
use Rattle.mc_laws.proofs.Walk.Ticking.{beats_player, tick_unread}
use Rattle.mc_laws.proofs.Apart.Alike.{TicksAlike, closing_alike, hands_same, last_same, left_same}
use Rattle.mc_laws.proofs.Apart.Alike.{plans_same, shown_same, tick_same, ticks_game, ticks_plans}
use Rattle.mc_laws.proofs.Headline.Ticks.{at_tick_hands, others_stay}
use Rattle.mc_laws.proofs.Runs.Seats.{nobody_yet}
use Rattle.mc_laws.proofs.Runs.Worlds.{at_tick_world, step_good}
use Rattle.mc_laws.proofs.TickRules.{rules_leave}

-- what a beat makes of a connection hangs on the age and on its player alone
beat_alike : (g v : Game) (shown : Option Sight) (l : Link) (o q : Option Player) →
    g.age ≡ v.age → o ≡ q → beat_of (grown g) shown l o ≡ beat_of (grown v) shown l q
beat_alike g v shown l o q age same = ap (beat_of (grown g) shown l) same ∙ by_age q
  where
    by_age : (q : Option Player) → beat_of (grown g) shown l q ≡ beat_of (grown v) shown l q
    by_age None = refl
    by_age (Some p) = λ x. beat_of (record g { age = older (age x) }) shown l (Some p)

module _ (k : ℕ) (w : World) (good : GoodWorld w) (h : FallsSilent k w) where
  -- the world in which it left before the tick
  abbrev before : World
  before = with_seat w k (depart k causes.Gone (seat_of w k h.link)).seat

  good_before : GoodWorld before
  unfolding step
  good_before = (let good_too = step_good w (left k) good in rw h.here at good_too)

  closed : is_closed (gone causes.Gone h.link).stage ≡ true
  closed = gone_closed causes.Gone h.link

  game_before : before.game ≡ leave k w.game
  game_before = ap (λ (b : Bool). if b then leave k w.game else w.game) closed

  links_before : (j : ℕ) → j ≢ k → get w.links j ≡ get before.links j
  links_before j ne = sym (put_other w.links k j (gone causes.Gone h.link) ne)

  here_before : get before.links k ≡ Some (gone causes.Gone h.link)
  here_before = put_same w.links k (gone causes.Gone h.link)

  -- ---- the world of the tick

  beat_same : (j : ℕ) → j ≢ k → (l : Link) →
      beat (grown w.game) (get w.shown j) j l ≡ beat (grown before.game) (get w.shown j) j l
  beat_same j ne l =
      beat_alike w.game (leave k w.game) (get w.shown j) l (get w.game.players j)
      (get (leave k w.game).players j) (sym (leave_stays k w.game).age)
      (sym (leave_other k j w.game ne))
      ∙ ap (λ (g : Game). beat (grown g) (get w.shown j) j l) (sym game_before)

  gone_then : get (beats (aged w)).game.players k ≡ None
  gone_then = beats_player w k h.link h.here
      ∙ ap (λ (o : Option Player). cond (is_closed
      (beat_of (grown w.game) (get w.shown k) h.link o).link.stage) None o) h.plays
      ∙ rw (
        h.silent,
        disconnect_closes h.link causes.Silent (farewell h.link.stage causes.Silent),
      ) refl

  left_now : leave k w.game ≡ gone_with k h.player (finished_pack (pack_of w.game h.player)) w.game
  left_now = left_empty k h.player w.game h.plays good.game h.empty

  grown_left : leave k (grown w.game) ≡ grown (leave k w.game)
  grown_left = left_empty k h.player (grown w.game) h.plays good.game h.empty
      ∙ ap grown (sym left_now)

  keys_left : filter (λ (q : ℕ). not (q == k)) (keys w.game.players)
      ≡ keys (leave k w.game).players
  keys_left = sym (ap (λ (g : Game). keys g.players) left_now ∙ keys_removed w.game.players k)

  -- nothing hangs on its cursor
  has_nothing : HasNothing k (grown w.game)
  has_nothing p there = ap (λ (q : Player). (pack_of w.game q).cursor)
      (some_is p h.player (sym there ∙ h.plays)) ∙ h.empty

  -- whom the beat closes, in each
  abbrev closes_here : ℕ → Bool
  closes_here i = is_closing (λ (j : ℕ) (l : Link). beat (grown w.game) (get w.shown j) j l) i
      (get w.links i)

  abbrev closes_there : ℕ → Bool
  closes_there i = is_closing
      (λ (j : ℕ) (l : Link). beat (grown before.game) (get w.shown j) j l) i (get before.links i)

  closing_same : (i : ℕ) → i ≢ k → closes_here i ≡ closes_there i
  closing_same i ne = closing_alike
      (λ (j : ℕ) (l : Link). beat (grown w.game) (get w.shown j) j l)
      (λ (j : ℕ) (l : Link). beat (grown before.game) (get w.shown j) j l) i
      (get w.links i) (get before.links i) (beat_same i ne) (links_before i ne)

  same_beats : (beats (aged w)).game ≡ (beats (aged before)).game
  unfolding each
  same_beats = sym (leave_nobody k (beats (aged w)).game gone_then)
      ∙ leave_first k (filter closes_here (keys w.game.players)) (grown w.game) good.game
      has_nothing
      ∙ leave_but k closes_here closes_there closing_same (keys w.game.players)
      (leave k (grown w.game)) (leave_same k (grown w.game))
      ∙ sym (leave_without k closes_there (keys w.game.players) (leave k (grown w.game))
      (leave_same k (grown w.game)))
      ∙ (λ x. leave_all (filter closes_there (keys_left x)) (grown_left x))
      ∙ (λ x. leave_all (filter closes_there (keys (sym game_before x).players))
      (grown (sym game_before x)))

  alike : TicksAlike k w before
  alike = record {
    game = ticks_game w before refl same_beats;
    plans = ticks_plans w before refl same_beats;
    last = refl;
    links = links_before;
    shown = λ j ne. refl;
    beats = beat_same;
  }

  -- it is not there in it
  nobody_now : get (at_tick w).game.players k ≡ None
  nobody_now = ap (λ m. get m k) (rules_leave (beats (aged w)).plans (beats (aged w)).game).players
      ∙ gone_then

  -- ---- after it

  ended : IsEnded k (tick w)
      (disconnect h.link causes.Silent (farewell h.link.stage causes.Silent))
  unfolding step
  ended = (at_tick_hands w good).silent k h.link h.player h.here h.plays h.silent

  nobody_before : get before.game.players k ≡ None
  nobody_before = ap (λ (g : Game). get g.players k) game_before ∙ leave_same k w.game

  link_then : get (tick before).world.links k ≡ Some (gone causes.Gone h.link)
  link_then = (others_stay before k good_before nobody_before).1 ∙ here_before

  nobody_then : get (tick before).world.game.players k ≡ None
  unfolding step
  nobody_then = nobody_yet (get (tick before).world.game.players k)
      ((step_good before ticked good_before).plays k ∙ ap in_play link_then
      ∙ not_in_play (gone causes.Gone h.link).stage closed)

  silent_twin : SameBut k (tick w).world (tick before).world
  silent_twin = record {
    game = sym (leave_nobody k (tick w).world.game ended.gone)
        ∙ left_same k w before alike (at_tick_world w good).game
        (λ p there. absurd (none_some (get (at_tick w).game.players k) p nobody_now there))
        ∙ leave_nobody k (tick before).world.game nobody_then;
    plans = plans_same k w before alike;
    last = last_same k w before alike;
    links = tick_same k w before alike;
    unread = λ j ne. ap (λ m. get m j) (tick_unread w)
        ∙ sym (ap (λ m. get m j) (tick_unread before) ∙ put_other w.unread k j _ ne);
    shown = shown_same k w before alike;
    shut = subst IsShut (sym ended.link)
        (disconnect_closes h.link causes.Silent (farewell h.link.stage causes.Silent));
    shut_too = subst IsShut (sym link_then) closed;
  }

  pub silent_as_left : SameBut k (step w ticked).world
      (step (step w (left k)).world ticked).world
      × HandsAlike k (step w ticked) (step (step w (left k)).world ticked)
  unfolding step
  silent_as_left = subst (λ (v : World). SameBut k (tick w).world (tick v).world
      × HandsAlike k (tick w) (tick v))
      (sym (ap (λ (o : Option Link). (on_link w k (depart k causes.Gone) o).world) h.here))
      (silent_twin, hands_same k w before alike)
