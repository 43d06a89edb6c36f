-- A world is good along every run.
use Rattle.std.proofs.Common.{◌≡◌, ◌≢◌, ℕ, true, false, cond, List, [], ◌∷◌, Option, Some, None}
use Rattle.std.proofs.Common.{refl, sym, subst, ap, ◌∙◌, inl, inr, arith}
use Rattle.std.specs.Prelude.{nat_le, length, is_some, option_map, if◌then◌else◌}
use Rattle.std.proofs.lemmas.Bool.{cases_eq, lt-ltb, ltb-true, and_parts}
use Rattle.std.specs.Ordering.{nat_cmp}
use Rattle.std.specs.FinMap.{get, get-empty, insert, remove}
use Rattle.mc_model.specs.declared.cause.Cause.TheVariants as causes
use Rattle.mc_model.specs.declared.player.Player.{Player}
use Rattle.mc_model.specs.Step.{Event, is_new, depart, is_crowded, joining, step, take_from}
use Rattle.mc_model.specs.Stages.{is_closed, is_play}
use Rattle.mc_model.specs.Link.{Handing, Link, is_done, mark_closed, new_link}
use Rattle.mc_model.specs.Minds.{Start, plans_of}
use Rattle.mc_model.specs.World.{Outcome, Seat, Turn, World, closed_by, each, new_world, seat_of}
use Rattle.mc_model.specs.World.{is_closing, with_seat}
use Rattle.mc_model.specs.Tick.{aged, at_tick, beats, flushed, moving, picking, shown_all}
use Rattle.mc_model.specs.Tick.{told_player}
use Rattle.mc_model.specs.Run.{history}
use Rattle.mc_model.specs.Fitting.{Told}
use Rattle.mc_model.specs.Good.{AreChests, AreShown, Good, GoodWorld, in_play}
use Rattle.mc_model.specs.Apart.{traits_of}
use Rattle.mc_model.proofs.Maps.Lookups.{gone_other, gone_same, put_other, put_same}
use Rattle.mc_laws.proofs.Deeds.Chests.{new_chests, same_chests}
use Rattle.mc_laws.proofs.Deeds.Leaving.{leave_all_chests, leave_all_told}
use Rattle.mc_laws.proofs.Walk.Each.{ClosesOrStays, beat_stage, closing_plays, each_good, each_last}
use Rattle.mc_laws.proofs.Walk.Each.{each_links, each_players, flush_stage, told_good, told_players}
use Rattle.mc_laws.proofs.Walk.Handings.{not_in_play}
use Rattle.mc_laws.proofs.Walk.Moves.{Walked, walked_keeps}
use Rattle.mc_laws.proofs.Walk.Steps.{Move, departs, forgets, joins, passes, rests, sits}
use Rattle.mc_laws.proofs.Walk.Steps.{step_moves, takes}
use Rattle.mc_laws.proofs.Minds.Beginning.{few_mobs, new_told, new_whole}
use Rattle.mc_laws.proofs.TickRules.{rules_good, rules_leave}
use Rattle.mc_laws.proofs.Windows.Games.{grown_shown, leave_all_shown, new_shown, rules_shown}
use Rattle.mc_laws.proofs.Windows.Games.{told_shown}
use Rattle.mc_laws.proofs.Runs.Seats.{GoodSeat, all_stay, departed_seat, seat_kept, taken_seat}

-- ---- one connection

pub first_seat : (w : World) (k : ℕ) (l : Link) → get w.links k ≡ Some l → GoodWorld w →
    GoodSeat k w.game (seat_of w k l)
first_seat w k l there a = record {
  game = a.game;
  chests = a.chests;
  windows = a.windows;
  told = a.told;
  plays = a.plays k ∙ ap in_play there;
  others = all_stay k w.game;
}

pub walked_seat : (w : World) (k : ℕ) (l : Link) (t : Turn) → get w.links k ≡ Some l →
    Walked k (seat_of w k l) t → GoodWorld w → GoodSeat k w.game t.seat
walked_seat w k l t there walked a =
    walked_keeps k (λ (s : Seat) ps. GoodSeat k w.game s) (seat_kept k w.game) (seat_of w k l) t []
    walked (first_seat w k l there a)

-- the traits of nobody are none
same_there : (a b : Option Player) → option_map traits_of a ≡ option_map traits_of b →
    is_some a ≡ is_some b
same_there a b same = sym (traits a) ∙ ap is_some same ∙ traits b
  where
    traits : (o : Option Player) → is_some (option_map traits_of o) ≡ is_some o
    traits None = refl
    traits (Some p) = refl

sits_good : (w : World) (k : ℕ) (l : Link) (t : Turn) → get w.links k ≡ Some l →
    GoodSeat k w.game t.seat → GoodWorld w → GoodWorld (with_seat w k t.seat)
sits_good w k l t there s a = record {
  game = s.game;
  chests = s.chests;
  windows = s.windows;
  told = s.told;
  plays = λ j. elim (cases_eq j k) [
    | inl same ↦ rw same (s.plays ∙ ap in_play (sym (put_same w.links k t.seat.link)))
    | inr ne ↦ same_there _ _ (s.others.traits j ne) ∙ a.plays j
        ∙ ap in_play (sym (put_other w.links k j t.seat.link ne))
  ];
  fresh = λ j new. put_other w.links k j t.seat.link
      (λ same. absurd (clash (sym (a.fresh j new) ∙ ap (get w.links) same ∙ there)))
      ∙ a.fresh j new;
}
  where
    clash : ◌≡◌ {A = Option Link} None (Some l) → ⊥
    clash e = cc

-- ---- joining and forgetting

joining_waits : (w : World) → is_play (joining w).stage ≡ false
joining_waits w = elim (is_crowded w) as
    (λ b. is_play (if b then mark_closed new_link causes.Crowded else new_link).stage ≡ false)
    [ true ↦ refl | false ↦ refl ]

-- who may join after another may have joined before it
pub new_after : (j k : ℕ) (last : Option ℕ) → is_new k last ≡ true → is_new j (Some k) ≡ true →
    (is_new j last ≡ true) × (j ≢ k)
new_after j k None new later = (refl, λ same. absurd (omega (arith, same, ltb-true k j later)))
new_after j k (Some m) new later =
    let a = ltb-true m k new in
    let b = ltb-true k j later in
    (lt-ltb m j (omega (arith, a, b)), λ same. absurd (omega (arith, same, b)))

joins_good : (w : World) (k : ℕ) → is_new k w.last ≡ true → GoodWorld w →
    GoodWorld (record w { last = Some k; links = insert w.links k (joining w) })
joins_good w k new a = record {
  game = a.game;
  chests = a.chests;
  windows = a.windows;
  told = a.told;
  plays = λ j. elim (cases_eq j k) [
    | inl same ↦ rw same (a.plays k ∙ ap in_play (a.fresh k new) ∙ sym (joining_waits w)
        ∙ ap in_play (sym (put_same w.links k (joining w))))
    | inr ne ↦ a.plays j ∙ ap in_play (sym (put_other w.links k j (joining w) ne))
  ];
  fresh = λ j later. let n = new_after j k w.last new later in
      put_other w.links k j (joining w) n.1 ∙ a.fresh j n.0;
}

forgets_good : (w : World) (k : ℕ) (l : Link) → get w.links k ≡ Some l → is_done l ≡ true →
    GoodWorld w → GoodWorld (record w {
      links = remove w.links k;
      unread = remove w.unread k;
      shown = remove w.shown k;
    })
forgets_good w k l there done a =
    let closed = (and_parts (is_closed l.stage) (nat_le (length l.owed) 0) done).0 in
    record {
      game = a.game;
      chests = a.chests;
      windows = a.windows;
      told = a.told;
      plays = λ j. elim (cases_eq j k) [
        | inl same ↦ rw same (a.plays k ∙ ap in_play there ∙ not_in_play l.stage closed
            ∙ ap in_play (sym (gone_same w.links k)))
        | inr ne ↦ a.plays j ∙ ap in_play (sym (gone_other w.links k j ne))
      ];
      fresh = λ j new. elim (cases_eq j k) [
        | inl same ↦ rw same (gone_same w.links k)
        | inr ne ↦ gone_other w.links k j ne ∙ a.fresh j new
      ];
    }

-- ---- a tick

each_chests : (f : ℕ → Link → Handing) (w : World) → AreChests w.game → AreChests (each f w).game
unfolding each
each_chests f w a = leave_all_chests (closed_by f w) w.game a

each_told : (f : ℕ → Link → Handing) (w : World) → Good w.game → Told w.game →
    Told (each f w).game
unfolding each
each_told f w good t = leave_all_told (closed_by f w) w.game good t

each_shown : (f : ℕ → Link → Handing) (w : World) → Good w.game → AreShown w.game →
    AreShown (each f w).game
unfolding each
each_shown f w good shown = leave_all_shown (closed_by f w) w.game good shown

pub each_world : (f : ℕ → Link → Handing) (w : World) →
    ((k : ℕ) (l : Link) → ClosesOrStays l.stage (f k l)) → GoodWorld w → GoodWorld (each f w)
each_world f w stage a = record {
  game = each_good f w a.game;
  chests = each_chests f w a.chests;
  windows = each_shown f w a.game a.windows;
  told = each_told f w a.game a.told;
  plays = λ j. ap is_some (each_players f w j) ∙ at_link j (get w.links j) (a.plays j)
      ∙ ap in_play (sym (each_links f w j));
  fresh = λ j new. each_links f w j
      ∙ ap (option_map (λ (l : Link). (f j l).link))
      (a.fresh j (subst (λ (o : Option ℕ). is_new j o ≡ true) (each_last f w) new));
}
  where
    at_link : (j : ℕ) (o : Option Link) → is_some (get w.game.players j) ≡ in_play o →
        is_some (cond (is_closing f j o) None (get w.game.players j))
        ≡ in_play (option_map (λ (l : Link). (f j l).link) o)
    at_link j None plays = plays
    at_link j (Some l) plays = closing_plays (get w.game.players j) l (f j l) (stage j l) plays

aged_world : (w : World) → GoodWorld w → GoodWorld (aged w)
aged_world w a = record {
  game = a.game;
  chests = same_chests refl refl refl a.chests;
  windows = grown_shown w.game a.windows;
  told = a.told;
  plays = a.plays;
  fresh = a.fresh;
}

shown_world : (w : World) → GoodWorld w → GoodWorld (shown_all w)
shown_world w a = record {
  game = told_good w.game a.game;
  chests = same_chests refl refl refl a.chests;
  windows = told_shown w.game a.game a.windows;
  told = a.told;
  plays = λ j. ap is_some (told_players w.game j) ∙ mapped (get w.game.players j) ∙ a.plays j;
  fresh = a.fresh;
}
  where
    mapped : (o : Option Player) → is_some (option_map told_player o) ≡ is_some o
    mapped None = refl
    mapped (Some p) = refl

-- mobs that move, and what is then picked up, keep it so
rules_world : (w : World) → GoodWorld w → GoodWorld (picking (moving w))
rules_world w a = let kept = rules_good w.plans w.game a.game a.told in
    let left = rules_leave w.plans w.game in record {
      game = kept.good;
      chests = same_chests left.settings left.edits left.chests a.chests;
      windows = rules_shown w.plans w.game a.game a.windows;
      told = kept.told;
      plays = λ j. ap (λ m. is_some (get m j)) left.players ∙ a.plays j;
      fresh = a.fresh;
    }

-- once those that were silent left
pub beats_world : (w : World) → GoodWorld w → GoodWorld (beats (aged w))
beats_world w a = each_world _ (aged w)
    (λ k l. beat_stage (aged w).game (get w.shown k) k l) (aged_world w a)

pub at_tick_world : (w : World) → GoodWorld w → GoodWorld (at_tick w)
at_tick_world w a = rules_world (beats (aged w)) (beats_world w a)

pub flushed_world : (w : World) → GoodWorld w → GoodWorld (flushed w)
flushed_world w a = each_world _ (shown_all w)
    (λ k l. flush_stage w.game (get w.shown k) k l) (shown_world w a)

-- ---- runs

moves_good : (w : World) (o : Outcome) → Move w o → GoodWorld w → GoodWorld o.world
moves_good w o (rests is) a = subst (λ (x : Outcome). GoodWorld x.world) (sym is) a
moves_good w o (sits k l t there walked is) a =
    subst (λ (x : Outcome). GoodWorld x.world) (sym is)
    (sits_good w k l t there (walked_seat w k l t there walked a) a)
moves_good w o (departs k l cause there wordless is) a =
    subst (λ (x : Outcome). GoodWorld x.world) (sym is)
    (sits_good w k l (depart k cause (seat_of w k l)) there
    (departed_seat k w.game cause (seat_of w k l) (first_seat w k l there a)) a)
moves_good w o (takes k n l there is) a =
    subst (λ (x : Outcome). GoodWorld x.world) (sym is)
    (sits_good w k l (take_from n (seat_of w k l)) there
    (taken_seat k w.game n (seat_of w k l) (first_seat w k l there a)) a)
moves_good w o (joins k new is) a = rw is (joins_good w k new a)
moves_good w o (forgets k l there done is) a = rw is (forgets_good w k l there done a)
moves_good w o (passes is) a = subst (λ (x : Outcome). GoodWorld x.world) (sym is)
    (flushed_world (at_tick w) (at_tick_world w a))

pub step_good : (w : World) (e : Event) → GoodWorld w → GoodWorld (step w e).world
step_good w e a = moves_good w (step w e) (step_moves w e) a

pub run_good : (w : World) (events : List Event) → GoodWorld w → GoodWorld (history w events)
run_good w [] a = a
run_good w (e ∷ events) a = run_good (step w e).world events (step_good w e a)

pub new_good : (start : Start) → GoodWorld (new_world start)
new_good start = record {
  game = new_whole start.settings (length (plans_of start));
  chests = new_chests start.settings (length (plans_of start));
  windows = new_shown start.settings (length (plans_of start));
  told = new_told start.settings (length (plans_of start)) (few_mobs start);
  plays = λ k. ap is_some (get-empty nat_cmp k) ∙ ap in_play (sym (get-empty nat_cmp k));
  fresh = λ k new. get-empty nat_cmp k;
}

pub always_good : (start : Start) (events : List Event) →
    GoodWorld (history (new_world start) events)
always_good start events = run_good (new_world start) events (new_good start)
