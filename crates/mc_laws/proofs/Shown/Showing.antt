-- After each tick the packets that a client in play was handed show it the game of the tick: kept
-- by each event, so true after any of them.
use Rattle.std.proofs.Common.{◌≡◌, ℕ, true, false, List, [], ◌∷◌, ◌++◌, map, Option, Some, None}
use Rattle.std.proofs.Common.{refl, sym, subst, ap, ◌∙◌, append_assoc}
use Rattle.std.specs.Prelude.{is_some, option_map}
use Rattle.std.specs.Ordering.{nat_cmp}
use Rattle.std.specs.FinMap.{get, get-empty}
use Rattle.std.proofs.lemmas.List.{append-nil}
use Rattle.std.proofs.lemmas.List.Sums.{fold-append}
use Rattle.mc_model.specs.declared.cause.Cause.TheVariants as causes
use Rattle.mc_model.specs.declared.stage.Stage.TheVariants as stages
use Rattle.mc_model.specs.declared.player.Player.{Player}
use Rattle.mc_model.specs.Packets.{Sent, of_play, played}
use Rattle.mc_model.specs.Replica.{Replica, new_replica, replay, seeing}
use Rattle.mc_model.specs.Run.{to, handed, history}
use Rattle.mc_model.specs.Sight.{Sight}
use Rattle.mc_model.specs.Step.{Event, ticked, is_new, joining, step}
use Rattle.mc_model.specs.Talk.{farewell}
use Rattle.mc_model.specs.Stages.{is_closed, is_play}
use Rattle.mc_model.specs.Link.{Handing, Link, gone, mark_closed}
use Rattle.mc_model.specs.Showing.{due, last_shown, sight_of}
use Rattle.mc_model.specs.Minds.{Start}
use Rattle.mc_model.specs.World.{Seat, World, new_world, seat_of}
use Rattle.mc_model.specs.Tick.{at_tick, awaiting, grown, is_silent, tick, tick_hands}
use Rattle.mc_model.specs.Headline.{ShowsGame}
use Rattle.mc_model.specs.Good.{GoodWorld, in_play as link_plays}
use Rattle.mc_model.proofs.Maps.Options.{none_some, not_both, some_is}
use Rattle.mc_model.proofs.LastingKept.{since_known}
use Rattle.mc_laws.proofs.Walk.Handings.{gone_closed, hand_cases}
use Rattle.mc_laws.proofs.Walk.Moves.{bytes_walk, walked_keeps}
use Rattle.mc_laws.proofs.Walk.Steps.{step_moves}
use Rattle.mc_laws.proofs.Walk.Ticking.{after_tick, tick_cases, tick_handed, at_tick_last}
use Rattle.mc_laws.proofs.Walk.Ticking.{at_tick_shown, nobody_there, speaks_there, tick_link}
use Rattle.mc_laws.proofs.Walk.Ticking.{tick_player, tick_shown}
use Rattle.mc_laws.proofs.Apart.Outs.{handed_by}
use Rattle.mc_laws.proofs.Runs.OneSteps.{OneStep, comes, departs, goes, one_step, reads, rests}
use Rattle.mc_laws.proofs.Runs.OneSteps.{takes, ticks}
use Rattle.mc_laws.proofs.Runs.Promises.{still_new}
use Rattle.mc_laws.proofs.Runs.Worlds.{at_tick_world, new_good, step_good}
use Rattle.mc_laws.proofs.Fits.Sights.{kinds_of, sight_told}
use Rattle.mc_laws.proofs.Decoding.Streams.{has_stage}
use Rattle.mc_laws.proofs.Shown.Later.{Later, at_tick_later, flushed_later, step_later}
use Rattle.mc_laws.proofs.Shown.Drawn.{IsDrawn, drawn_later, due_shows}
use Rattle.mc_laws.proofs.Shown.Links.{IsShown, closed_shown, joins_shown, same_shown, shown_kept}

-- ---- a tick

-- what a tick shows to whoever is a player in its world
abbrev shown_of : World → ℕ → Option Player → Option Sight
shown_of w k o =
    option_map (λ (p : Player). sight_of (at_tick w).game p (last_shown (get w.shown k))) o

-- what a tick makes of a link shows what is shown then
record TickShows (w : World) (k : ℕ) (ps : List Sent) (h : Handing) : Type 0 where
  is : IsShown (shown_of w k (get (at_tick w).game.players k)) h.link.stage (ps ++ h.handed)

-- what every event keeps of a world, and of what was handed to one number
pub record ShownWorld (k : ℕ) (w : World) (ps : List Sent) : Type 0 where
  pub good : GoodWorld w
  pub drawn : IsDrawn w.game (get w.shown k)
  pub shown : (l : Link) → get w.links k ≡ Some l → IsShown (get w.shown k) l.stage ps
  pub early : is_new k w.last ≡ true → (ps ≡ []) × (get w.shown k ≡ None)

tick_shows : (w : World) (k : ℕ) (l : Link) (ps : List Sent) → ShownWorld k w ps →
    get w.links k ≡ Some l → TickShows w k ps (after_tick w k l)
tick_shows w k l ps s there = tick_cases w k l (TickShows w k ps) there
    (λ nobody. record { is = alone nobody })
    (λ p plays. ap is_closed (stage p plays))
    (λ p plays quiet_. hand_cases (mark_closed l causes.Silent) (farewell l.stage causes.Silent)
    (TickShows w k ps)
    (λ fits. record { is = closed_shown _ stages.Closed _ refl })
    (λ much. record { is = closed_shown _ stages.Closed _ refl }))
    (λ p plays speaks. hand_cases (awaiting (grown w.game) (get w.shown k) l)
    (map of_play (due (at_tick w).game (get w.shown k) p)) (TickShows w k ps)
    (λ fits. record { is = shows p plays speaks })
    (λ much. record { is = closed_shown _ stages.Closed _ refl }))
  where
    stage : (p : Player) → get w.game.players k ≡ Some p → l.stage ≡ stages.Play
    stage p plays = has_stage w k l p s.good there plays

    -- where nobody plays nothing is shown
    alone : get w.game.players k ≡ None →
        IsShown (shown_of w k (get (at_tick w).game.players k)) l.stage (ps ++ [])
    alone nobody =
        let waits : is_play l.stage ≡ false = sym (sym (ap is_some nobody) ∙ s.good.plays k
        ∙ ap link_plays there) in
        subst (λ (o : Option Player). IsShown (shown_of w k o) l.stage (ps ++ []))
        (sym (nobody_there w k l there nobody))
        (same_shown None l.stage l.stage ps refl (record {
          playing = λ plays. absurd (not_both (is_play l.stage) plays waits);
          waiting = λ _ open_. (((s.shown l there).waiting waits open_).0, refl);
        }))

    shows : (p : Player) → get w.game.players k ≡ Some p →
        is_silent (grown w.game) (get w.shown k) l ≡ false →
        IsShown (shown_of w k (get (at_tick w).game.players k)) l.stage
        (ps ++ map of_play (due (at_tick w).game (get w.shown k) p))
    shows p plays speaks =
        let open_ = ap is_closed (stage p plays) in
        let later = at_tick_later w s.good in
        let here = speaks_there w k l p there plays open_ speaks in
        subst (λ (o : Option Player). IsShown (shown_of w k o) l.stage
        (ps ++ map of_play (due (at_tick w).game (get w.shown k) p)))
        (sym here) (record {
          playing = λ _. due_shows (at_tick w).game p (get w.shown k) ps
              (sight_told (at_tick w) k p (last_shown (get w.shown k))
              (at_tick_world w s.good) here)
              (drawn_later w.game (at_tick w).game (get w.shown k) later s.drawn)
              ((s.shown l there).playing (ap is_play (stage p plays)));
          waiting = λ waits _. absurd (not_both (is_play l.stage) (ap is_play (stage p plays))
              waits);
        })

-- what a tick shows is drawn of its game
tick_drawn : (w : World) (k : ℕ) → GoodWorld w →
    IsDrawn (tick w).world.game (get (tick w).world.shown k)
tick_drawn w k good = subst (IsDrawn (tick w).world.game) (sym (tick_shown w k))
    (at_player (get (at_tick w).game.players k) refl)
  where
    at_player : (o : Option Player) → get (at_tick w).game.players k ≡ o →
        IsDrawn (tick w).world.game (shown_of w k o)
    at_player None there = tt
    at_player (Some p) there =
        let here = at_tick_world w good in
        let later = flushed_later w in
        record {
          game = (at_tick w).game;
          player = p;
          last = last_shown (get w.shown k);
          old = sight_told (at_tick w) k p (last_shown (get w.shown k)) here there;
          told = here.told;
          settings = sym later.settings;
          later = later.since (kinds_of (at_tick w).game here.told)
              (since_known (kinds_of (at_tick w).game here.told) (at_tick w).game.entities
              here.told.kinds.entities);
          is = refl;
        }

tick_next : (k : ℕ) (w : World) (ps : List Sent) → ShownWorld k w ps →
    GoodWorld (tick w).world →
    (is_new k (tick w).world.last ≡ true → is_new k w.last ≡ true) →
    ShownWorld k (tick w).world (ps ++ to k (tick w).out)
tick_next k w ps s good old = record {
  good = good;
  drawn = tick_drawn w k s.good;
  shown = λ m there. at_link m (get w.links k) refl (sym (tick_link w k) ∙ there);
  early = λ new. let none : get w.links k ≡ None = s.good.fresh k (old new) in (
    ap (λ (qs : List Sent). ps ++ qs) (handed_none none) ∙ append-nil ps
        ∙ (s.early (old new)).0,
    tick_shown w k
        ∙ nobody (get (at_tick w).game.players k) (away (good_too.plays k)
        (ap link_plays (good_too.fresh k (old_too new)))),
  );
}
  where
    good_too : GoodWorld (at_tick w)
    good_too = at_tick_world w s.good

    old_too : is_new k (tick w).world.last ≡ true → is_new k (at_tick w).last ≡ true
    old_too new = subst (λ (o : Option ℕ). is_new k o ≡ true) (sym (at_tick_last w)) (old new)

    away : is_some (get (at_tick w).game.players k) ≡ link_plays (get (at_tick w).links k) →
        link_plays (get (at_tick w).links k) ≡ false →
        is_some (get (at_tick w).game.players k) ≡ false
    away plays none = plays ∙ none

    nobody : (o : Option Player) → is_some o ≡ false → shown_of w k o ≡ None
    nobody None e = refl
    nobody (Some p) e = absurd cc

    handed_none : get w.links k ≡ None → to k (tick w).out ≡ []
    handed_none none = tick_handed w k
        ∙ ap (handed_by (λ (j : ℕ) (l : Link). tick_hands w j l) k) none

    at_link : (m : Link) (o : Option Link) → get w.links k ≡ o →
        option_map (λ (l : Link). (after_tick w k l).link) (get w.links k) ≡ Some m →
        IsShown (get (tick w).world.shown k) m.stage (ps ++ to k (tick w).out)
    at_link m None is e = (let clash : ◌≡◌ {A = Option Link} None (Some m) =
        sym (ap (option_map (λ (l : Link). (after_tick w k l).link)) is) ∙ e in absurd cc)
    at_link m (Some l) is e =
        let now = some_is (after_tick w k l).link m
        (sym (ap (option_map (λ (l : Link). (after_tick w k l).link)) is) ∙ e) in
        let handed_is = tick_handed w k
        ∙ ap (handed_by (λ (j : ℕ) (l : Link). tick_hands w j l) k) is in
        subst (λ (x : Link). IsShown (get (tick w).world.shown k) x.stage
        (ps ++ to k (tick w).out)) now
        (subst (λ (o : Option Sight). IsShown o (after_tick w k l).link.stage
        (ps ++ to k (tick w).out)) (sym (tick_shown w k))
        (subst (λ (qs : List Sent). IsShown (shown_of w k (get (at_tick w).game.players k))
        (after_tick w k l).link.stage (ps ++ qs)) (sym handed_is)
        (tick_shows w k l ps s is).is))

-- ---- any event

module _ (k : ℕ) (w : World) (e : Event) (ps : List Sent) (s : ShownWorld k w ps)
    (good : GoodWorld (step w e).world) (later : Later w.game (step w e).world.game) where
  old : is_new k (step w e).world.last ≡ true → is_new k w.last ≡ true
  old = still_new w (step w e) k (step_moves w e)

  abbrev Next : Type 0
  Next = ShownWorld k (step w e).world (ps ++ to k (step w e).out)

  still_drawn : get (step w e).world.shown k ≡ get w.shown k →
      IsDrawn (step w e).world.game (get (step w e).world.shown k)
  still_drawn same = subst (IsDrawn (step w e).world.game) (sym same)
      (drawn_later w.game (step w e).world.game (get w.shown k) later s.drawn)

  -- one turn of its own
  turned : (l m : Link) (qs : List Sent) → get w.links k ≡ Some l →
      get (step w e).world.links k ≡ Some m →
      get (step w e).world.shown k ≡ get w.shown k → to k (step w e).out ≡ qs →
      IsShown (get w.shown k) m.stage (ps ++ qs) → Next
  turned l m qs there now shown handed_is is = record {
    good = good;
    drawn = still_drawn shown;
    shown = λ n here. subst (λ (x : Link). IsShown (get (step w e).world.shown k) x.stage
        (ps ++ to k (step w e).out)) (some_is m n (sym now ∙ here))
        (subst (λ (o : Option Sight). IsShown o m.stage (ps ++ to k (step w e).out)) (sym shown)
        (subst (λ (rs : List Sent). IsShown (get w.shown k) m.stage (ps ++ rs))
        (sym handed_is) is));
    early = λ new. absurd (none_some _ m (good.fresh k new) now);
  }

  quiet : to k (step w e).out ≡ [] → ps ≡ ps ++ to k (step w e).out
  quiet none = sym (ap (λ (qs : List Sent). ps ++ qs) none ∙ append-nil ps)

  shown_next : OneStep k w e → Next
  unfolding step
  shown_next (rests st none) = subst (ShownWorld k (step w e).world) (quiet st.handed) (record {
    good = good;
    drawn = still_drawn st.shown;
    shown = λ l there. subst (λ (o : Option Sight). IsShown o l.stage ps) (sym st.shown)
        (s.shown l (sym st.link ∙ there));
    early = λ new. let was = s.early (old new) in (was.0, st.shown ∙ was.1);
  })
  shown_next (reads bytes l is there sits came_) =
      turned l _ _ there sits.link sits.shown sits.handed
      (walked_keeps k (λ (x : Seat) qs. IsShown (get w.shown k) x.link.stage qs)
      (shown_kept k (get w.shown k)) (seat_of w k l) _ ps (bytes_walk k (seat_of w k l) bytes)
      (s.shown l there))
  shown_next (departs cause l wordless there sits none) =
      turned l (gone cause l) [] there sits.link sits.shown sits.handed
      (closed_shown (get w.shown k) (gone cause l).stage (ps ++ []) (gone_closed cause l))
  shown_next (takes n l there sits none) =
      turned l _ [] there sits.link sits.shown sits.handed
      (same_shown (get w.shown k) l.stage l.stage ps refl (s.shown l there))
  shown_next (comes c none) =
      let early = s.early c.new in
      subst (ShownWorld k (step w e).world) (quiet c.handed) (record {
        good = good;
        drawn = still_drawn c.shown;
        shown = λ l there. subst (λ (x : Link). IsShown (get (step w e).world.shown k) x.stage ps)
            (some_is (joining w) l (sym c.link ∙ there))
            (subst (λ (o : Option Sight). IsShown o (joining w).stage ps)
            (sym (c.shown ∙ early.1)) (joins_shown w ps early.0));
        early = λ new. absurd (none_some _ (joining w) (good.fresh k new) c.link);
      })
  shown_next (goes l g none) = subst (ShownWorld k (step w e).world) (quiet g.handed) (record {
    good = good;
    drawn = subst (IsDrawn (step w e).world.game) (sym g.shown) tt;
    shown = λ m there. absurd (none_some _ m g.link there);
    early = λ new. absurd (none_some _ l (s.good.fresh k (old new)) g.there);
  })
  shown_next (ticks is) = at_tick_so e is good old
    where
      at_tick_so : (e : Event) → e ≡ ticked → GoodWorld (step w e).world →
          (is_new k (step w e).world.last ≡ true → is_new k w.last ≡ true) →
          ShownWorld k (step w e).world (ps ++ to k (step w e).out)
      at_tick_so e is good before = subst (λ (x : Event). GoodWorld (step w x).world →
          (is_new k (step w x).world.last ≡ true → is_new k w.last ≡ true) →
          ShownWorld k (step w x).world (ps ++ to k (step w x).out)) (sym is)
          (λ good before. tick_next k w ps s good before) good before

-- ---- along runs

run_shown : (k : ℕ) (events : List Event) (w : World) (ps : List Sent) → ShownWorld k w ps →
    ShownWorld k (history w events) (ps ++ handed k w events)
run_shown k [] w ps s = subst (ShownWorld k w) (sym (append-nil ps)) s
run_shown k (e ∷ events) w ps s =
    let later = step_later w e s.good in
    let next = shown_next k w e ps s (step_good w e s.good) later (one_step w e k s.good) in
    subst (ShownWorld k (history w (e ∷ events)))
    (append_assoc ps (to k (step w e).out) (handed k (step w e).world events))
    (run_shown k events (step w e).world (ps ++ to k (step w e).out) next)

pub shown_world : (start : Start) (events : List Event) (k : ℕ) →
    ShownWorld k (history (new_world start) events) (handed k (new_world start) events)
shown_world start events k = run_shown k events (new_world start) [] (record {
  good = new_good start;
  drawn = subst (IsDrawn (new_world start).game) (sym (get-empty nat_cmp k)) tt;
  shown = λ l there. absurd (none_some _ l (get-empty nat_cmp k) there);
  early = λ new. (refl, get-empty nat_cmp k);
})

-- ---- after a tick

-- a connection that plays after a tick is there
pub plays_there : (w : World) (k : ℕ) (p : Player) → GoodWorld w → get w.game.players k ≡ Some p →
    (l : Link) × (get w.links k ≡ Some l) × (is_play l.stage ≡ true)
plays_there w k p good there = at_link (get w.links k) refl
    (sym (sym (ap is_some there) ∙ good.plays k))
  where
    at_link : (o : Option Link) → get w.links k ≡ o → link_plays (get w.links k) ≡ true →
        (l : Link) × (get w.links k ≡ Some l) × (is_play l.stage ≡ true)
    at_link None is plays = (let clash : false ≡ true = sym (ap link_plays is) ∙ plays in
        absurd cc)
    at_link (Some l) is plays = (l, is, sym (ap link_plays is) ∙ plays)

after_tick_shows : (k : ℕ) (w : World) (p : Player) (ps : List Sent) →
    ShownWorld k (tick w).world ps → get (tick w).world.game.players k ≡ Some p →
    ShowsGame (at_tick w) k (replay new_replica (played ps))
after_tick_shows k w p ps s there =
    let at = plays_there (tick w).world k p s.good there in
    let now = tick_player w k p there in
    let last = ap (λ m. last_shown (get m k)) (at_tick_shown w) in
    let all = (s.shown at.0 at.1).playing at.2
    ∙ ap (λ (o : Option Sight). seeing (last_shown o))
    (tick_shown w k ∙ ap (shown_of w k) now.1)
    ∙ ap (λ (x : Sight). seeing (sight_of (at_tick w).game now.0 x)) (sym last) in
    record {
      player = now.0;
      plays = now.1;
      shows = record {
        beat = ap (λ (r : Replica). r.sight.beat) all;
        age = ap (λ (r : Replica). r.sight.age) all;
        pairs = ap (λ (r : Replica). r.sight.pairs) all;
        columns = ap (λ (r : Replica). r.sight.columns) all;
        entities = ap (λ (r : Replica). r.sight.entities) all;
        window = ap (λ (r : Replica). r.sight.window) all;
        pack = ap (λ (r : Replica). r.sight.pack) all;
        cursor = ap (λ (r : Replica). r.sight.cursor) all;
        chat = ap (λ (r : Replica). r.sight.chat) all;
      };
    }

pub run_shows : (start : Start) (events : List Event) (k : ℕ) (p : Player) →
    get (history (new_world start) (events ++ ticked ∷ [])).game.players k ≡ Some p →
    ShowsGame (at_tick (history (new_world start) events)) k
    (replay new_replica (played (handed k (new_world start) (events ++ ticked ∷ []))))
unfolding step
run_shows start events k p there =
    let last = fold-append (λ (v : World) (e : Event). (step v e).world)
    (new_world start) events (ticked ∷ []) in
    let w = history (new_world start) events in
    after_tick_shows k w p (handed k (new_world start) (events ++ ticked ∷ []))
    (subst (λ (v : World). ShownWorld k v
    (handed k (new_world start) (events ++ ticked ∷ []))) last
    (shown_world start (events ++ ticked ∷ []) k))
    (sym (ap (λ (v : World). get v.game.players k) last) ∙ there)
