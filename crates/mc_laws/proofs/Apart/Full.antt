-- A connection to which too much is due at a tick leaves the world, but for itself, as if its
-- outbox had had room, and it had gone after the tick.
use Rattle.std.proofs.Common.{◌≡◌, ℕ, Bool, true, false, List, [], ◌++◌, map, Option, Some}
use Rattle.std.proofs.Common.{None, refl, sym, subst, ap, ◌∙◌, inl, inr, drop}
use Rattle.std.specs.Prelude.{is_some, if◌then◌else◌}
use Rattle.std.specs.List.{filter}
use Rattle.std.specs.FinMap.{get, keys}
use Rattle.std.proofs.lemmas.Bool.{cases_eq}
use Rattle.mc_model.specs.declared.cause.Cause.TheVariants as causes
use Rattle.mc_model.specs.declared.player.Player.{Player}
use Rattle.mc_model.specs.Packets.{bytes_of, of_play}
use Rattle.mc_model.specs.Sight.{Sight}
use Rattle.mc_model.specs.Step.{left, ticked, took, is_new, depart, step, take_from}
use Rattle.mc_model.specs.Talk.{farewell}
use Rattle.mc_model.specs.Stages.{is_closed}
use Rattle.mc_model.specs.Game.{Game, pack_of}
use Rattle.mc_model.specs.Leaving.{leave, leave_all}
use Rattle.mc_model.specs.Link.{Link, disconnect, mark_closed, quiet}
use Rattle.mc_model.specs.Showing.{due}
use Rattle.mc_model.specs.World.{World, each, is_closing, on_link, seat_of, with_seat}
use Rattle.mc_model.specs.Tick.{aged, at_tick, awaiting, beat, beat_of, beats, grown, is_silent}
use Rattle.mc_model.specs.Tick.{tick}
use Rattle.mc_model.specs.Fitting.{Told}
use Rattle.mc_model.specs.Good.{AreChests, AreShown, Good, GoodWorld, in_play}
use Rattle.mc_model.specs.Causes.{IsTooMuch}
use Rattle.mc_model.specs.Apart.{HandsAlike, IsFullIn, IsShut, OwesOther, SameBut}
use Rattle.mc_model.specs.Headline.{IsEnded, IsServed, due_to}
use Rattle.mc_model.proofs.Maps.Options.{none_some, some_is}
use Rattle.mc_model.proofs.Maps.Lookups.{put_other, put_same}
use Rattle.mc_laws.proofs.Deeds.Leaving.{leave_nobody}
use Rattle.mc_laws.proofs.Walk.Each.{disconnect_closes}
use Rattle.mc_laws.proofs.Walk.Handings.{gone_closed}
use Rattle.mc_laws.proofs.Walk.Ticking.{speaks_there, tick_unread}
use Rattle.mc_laws.proofs.Apart.Alike.{TicksAlike, hands_same, last_same, left_same, plans_same}
use Rattle.mc_laws.proofs.Apart.Alike.{shown_same, tick_same, ticks_game, ticks_plans}
use Rattle.mc_laws.proofs.Apart.Leavings.{HasNothing}
use Rattle.mc_laws.proofs.Decoding.Streams.{has_stage}
use Rattle.mc_laws.proofs.Headline.Ticks.{at_tick_hands}
use Rattle.mc_laws.proofs.Runs.Worlds.{at_tick_world}

-- whether a beat closes a connection does not hang on what it is owed
beat_closes : (g : Game) (shown : Option Sight) (l : Link) (owed : List ℕ) (o : Option Player) →
    is_closed (beat_of g shown l o).link.stage
    ≡ is_closed (beat_of g shown (record l { owed = owed }) o).link.stage
beat_closes g shown l owed None = refl
beat_closes g shown l owed (Some p) = elim (is_silent g shown l) as (λ b.
    is_closed (if b then disconnect l causes.Silent (farewell l.stage causes.Silent)
    else quiet (awaiting g shown l)).link.stage
    ≡ is_closed (if b
    then disconnect (record l { owed = owed }) causes.Silent (farewell l.stage causes.Silent)
    else quiet (awaiting g shown (record l { owed = owed }))).link.stage) [
      | true ↦ disconnect_closes l causes.Silent (farewell l.stage causes.Silent)
          ∙ sym (disconnect_closes (record l { owed = owed }) causes.Silent
          (farewell l.stage causes.Silent))
      | false ↦ refl
    ]

module _ (k : ℕ) (w v : World) (good : GoodWorld w) (a : OwesOther k w v) where
  abbrev other : Link
  other = record a.link { owed = a.owed }

  -- the other world is good
  same_play : (j : ℕ) → in_play (get w.links j) ≡ in_play (get v.links j)
  same_play j = elim (cases_eq j k) [
    | inl same ↦ rw same (ap in_play a.here ∙ sym (ap in_play a.there))
    | inr ne ↦ ap in_play (a.links j ne)
  ]

  good_too : GoodWorld v
  good_too = record {
    game = subst Good a.game good.game;
    chests = subst AreChests a.game good.chests;
    windows = subst AreShown a.game good.windows;
    told = subst Told a.game good.told;
    plays = λ j. ap (λ (g : Game). is_some (get g.players j)) (sym a.game) ∙ good.plays j
        ∙ same_play j;
    fresh = λ j new. at_number j (good.fresh j
        (subst (λ (o : Option ℕ). is_new j o ≡ true) (sym a.last) new));
  }
    where
      at_number : (j : ℕ) → get w.links j ≡ None → get v.links j ≡ None
      at_number j none = elim (cases_eq j k) [
        | inl same ↦ absurd (none_some _ a.link none (ap (get w.links) same ∙ a.here))
        | inr ne ↦ sym (a.links j ne) ∙ none
      ]

  -- ---- the world of the tick

  closing_same : (i : ℕ) →
      is_closing (λ (j : ℕ) (l : Link). beat (grown v.game) (get v.shown j) j l) i
      (get w.links i)
      ≡ is_closing (λ (j : ℕ) (l : Link). beat (grown v.game) (get v.shown j) j l) i
      (get v.links i)
  closing_same i = elim (cases_eq i k) [
    | inl same ↦ rw same (ap (is_closing (λ (j : ℕ) (l : Link).
        beat (grown v.game) (get v.shown j) j l) k) a.here
        ∙ beat_closes (grown v.game) (get v.shown k) a.link a.owed (get v.game.players k)
        ∙ sym (ap (is_closing (λ (j : ℕ) (l : Link).
        beat (grown v.game) (get v.shown j) j l) k) a.there))
    | inr ne ↦ ap (is_closing (λ (j : ℕ) (l : Link).
        beat (grown v.game) (get v.shown j) j l) i) (a.links i ne)
  ]

  same_beats : (beats (aged w)).game ≡ (beats (aged v)).game
  unfolding each
  same_beats =
      (λ x. leave_all (filter (λ (i : ℕ). is_closing (λ (j : ℕ) (l : Link).
      beat (grown (a.game x)) (get (a.shown x) j) j l) i (get w.links i))
      (keys (a.game x).players)) (grown (a.game x)))
      ∙ (λ x. leave_all (filter (λ (i : ℕ). closing_same i x) (keys v.game.players))
      (grown v.game))

  alike : TicksAlike k w v
  alike = record {
    game = ticks_game w v a.plans same_beats;
    plans = ticks_plans w v a.plans same_beats;
    last = a.last;
    links = a.links;
    shown = λ j ne. ap (λ m. get m j) a.shown;
    beats = λ j ne l. λ x. beat (grown (a.game x)) (get (a.shown x) j) j l;
  }

-- ---- a full outbox

-- what becomes of a link to which too much is due, and of one that is served
abbrev closed_link : World → ℕ → Link → Link
closed_link w k l =
    record (mark_closed (awaiting (grown w.game) (get w.shown k) l) causes.Backlog) { owed = [] }

abbrev served_link : World → ℕ → Link → Player → Link
served_link v k l p = record (awaiting (grown v.game) (get v.shown k) l) {
  owed = l.owed ++ bytes_of (due_to v k p);
}

module _ (k : ℕ) (w v : World) (good : GoodWorld w) (h : IsFullIn k w v) where
  same : TicksAlike k w v
  same = alike k w v good h.alike

  abbrev last_link : Link
  last_link = served_link v k (record h.alike.link { owed = h.alike.owed }) h.player

  due_same : due_to w k h.player ≡ due_to v k h.player
  due_same = λ x. map of_play
      (due (same.game x) (get (h.alike.shown x) k) h.player)

  ended : IsEnded k (tick w) (quiet (closed_link w k h.alike.link))
  unfolding step
  ended = (at_tick_hands w good).too_much k h.alike.link h.player h.alike.here h.plays h.speaks
      h.much

  served : IsServed v k (other k w v good h.alike) h.player (tick v)
  unfolding step
  served = (at_tick_hands v (good_too k w v good h.alike)).hands_due k
      (other k w v good h.alike) h.player h.alike.there
      (ap (λ (g : Game). get g.players k) (sym h.alike.game) ∙ h.plays)
      (sym (λ x. is_silent (grown (h.alike.game x)) (get (h.alike.shown x) k) h.alike.link)
      ∙ h.speaks)
      (λ much. h.fits (subst (IsTooMuch (other k w v good h.alike)) (sym due_same) much))

  -- it is in play there, and nothing hangs on its cursor
  has_nothing : HasNothing k (at_tick w).game
  has_nothing p there = ap (λ (q : Player). (pack_of (at_tick w).game q).cursor)
      (some_is p h.player (sym there ∙ speaks_there w k h.alike.link h.player h.alike.here h.plays
      (ap is_closed (has_stage w k h.alike.link h.player good h.alike.here h.plays)) h.speaks))
      ∙ h.empty

  game_same : (tick w).world.game ≡ leave k (tick v).world.game
  game_same = sym (leave_nobody k (tick w).world.game ended.gone)
      ∙ left_same k w v same (at_tick_world w good).game has_nothing

  abbrev then_left : World
  then_left = with_seat (tick v).world k
      (depart k causes.Gone (seat_of (tick v).world k last_link)).seat

  full_twin : SameBut k (tick w).world then_left
  full_twin = record {
    game = game_same ∙ ap (λ (b : Bool). if b then leave k (tick v).world.game
        else (tick v).world.game) (sym (gone_closed causes.Gone last_link));
    plans = plans_same k w v same;
    last = last_same k w v same;
    links = λ j ne. tick_same k w v same j ne
        ∙ sym (put_other (tick v).world.links k j _ ne);
    unread = λ j ne. ap (λ m. get m j) (tick_unread w) ∙ h.alike.unread j ne
        ∙ sym (ap (λ m. get m j) (tick_unread v))
        ∙ sym (put_other (tick v).world.unread k j _ ne);
    shown = shown_same k w v same;
    shut = subst IsShut (sym ended.link) refl;
    shut_too = subst IsShut (sym (put_same (tick v).world.links k _))
        (gone_closed causes.Gone last_link);
  }

  pub full_as_left : SameBut k (step w ticked).world (step (step v ticked).world (left k)).world
      × HandsAlike k (step w ticked) (step v ticked)
  unfolding step
  full_as_left = (
    rw served.link full_twin,
    hands_same k w v same,
  )

-- ---- room

-- a connection that took some of what it is owed is owed other bytes, and nothing else changes
pub took_room : (k n : ℕ) (w : World) (l : Link) → get w.links k ≡ Some l →
    OwesOther k w (step w (took k n)).world
unfolding step
took_room k n w l there = subst (λ (o : Option Link).
    OwesOther k w (on_link w k (take_from n) o).world) (sym there) (record {
      game = refl;
      plans = refl;
      last = refl;
      links = λ j ne. sym (put_other w.links k j _ ne);
      unread = λ j ne. sym (put_other w.unread k j _ ne);
      shown = refl;
      link = l;
      owed = drop n l.owed;
      here = there;
      there = put_same w.links k (record l { owed = drop n l.owed });
    })
