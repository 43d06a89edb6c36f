-- What a tick hands out to each connection, and which game it leaves.
use Rattle.std.proofs.Common.{◌≡◌, ℕ, Bool, true, false, cond, List, [], ◌∷◌, ◌++◌, Option, Some}
use Rattle.std.proofs.Common.{None, refl, sym, subst, ap, ◌∙◌}
use Rattle.std.specs.Prelude.{is_some, option_map}
use Rattle.std.specs.List.{AllByRecursion, filter}
use Rattle.std.specs.Option.{option_and_then}
use Rattle.std.specs.FinMap.{entries, get, keys}
use Rattle.std.proofs.lemmas.Bool.{leb-false, lt-leb}
use Rattle.mc_frame.specs.Kept.{outbox_max}
use Rattle.mc_model.specs.declared.cause.Cause.TheVariants as causes
use Rattle.mc_model.specs.declared.stage.Stage.TheVariants as stages
use Rattle.mc_model.specs.declared.player.Player.{Player}
use Rattle.mc_model.specs.Packets.{Sent, bytes_of}
use Rattle.mc_model.specs.Run.{to}
use Rattle.mc_model.specs.Step.{ticked, step}
use Rattle.mc_model.specs.Talk.{farewell}
use Rattle.mc_model.specs.Stages.{is_closed, is_play}
use Rattle.mc_model.specs.Game.{Game}
use Rattle.mc_model.specs.Leaving.{leave_all}
use Rattle.mc_model.specs.Link.{Handing, Link, disconnect, mark_closed, quiet}
use Rattle.mc_model.specs.Showing.{last_shown, sight_of}
use Rattle.mc_model.specs.World.{World, closed_by, each, is_closing}
use Rattle.mc_model.specs.Tick.{at_tick, awaiting, flush, flush_of, grown, is_silent, shown_all}
use Rattle.mc_model.specs.Tick.{tick, tick_hands, told, told_player}
use Rattle.mc_model.specs.Good.{GoodWorld, in_play}
use Rattle.mc_model.specs.Causes.{IsTooMuch}
use Rattle.mc_model.specs.Headline.{AfterTick, AtTick, IsDropped, IsEnded, IsServed, due_to}
use Rattle.mc_model.proofs.AllFacts.{all_mapped}
use Rattle.mc_model.proofs.Maps.Options.{not_both, none_some, some_is}
use Rattle.mc_laws.proofs.Walk.Each.{each_links, told_players}
use Rattle.mc_laws.proofs.Walk.Handings.{hand_cases}
use Rattle.mc_laws.proofs.Walk.Ticking.{after_tick, speaks_there, tick_cases, tick_handed}
use Rattle.mc_laws.proofs.Walk.Ticking.{tick_link, tick_player, tick_shown}
use Rattle.mc_laws.proofs.Apart.Outs.{handed_by}
use Rattle.mc_laws.proofs.Runs.Seats.{nobody_yet}
use Rattle.mc_laws.proofs.Runs.Worlds.{at_tick_world, step_good}
use Rattle.mc_laws.proofs.Fits.Clear.{all_found}
use Rattle.mc_laws.proofs.Decoding.Streams.{has_stage}

module _ (w : World) (k : ℕ) (l : Link) (there : get w.links k ≡ Some l) (good : GoodWorld w) where
  pub now : get (tick w).world.links k ≡ Some (after_tick w k l).link
  now = tick_link w k ∙ ap (option_map (λ (l : Link). (after_tick w k l).link)) there

  pub handed_now : to k (tick w).out ≡ (after_tick w k l).handed
  handed_now = tick_handed w k
      ∙ ap (handed_by (λ (j : ℕ) (l : Link). tick_hands w j l) k) there

  opens : (p : Player) → get w.game.players k ≡ Some p → is_closed l.stage ≡ false
  opens p plays = ap is_closed (has_stage w k l p good there plays)

  pub after_quiet : get w.game.players k ≡ None → after_tick w k l ≡ quiet l
  after_quiet none = tick_cases w k l (λ (h : Handing). h ≡ quiet l) there (λ nobody. refl) opens
      (λ p plays silent. absurd (none_some _ p none plays))
      (λ p plays speaks. absurd (none_some _ p none plays))

  module _ (p : Player) (plays : get w.game.players k ≡ Some p) where
    same : (q : Player) → get w.game.players k ≡ Some q → p ≡ q
    same q too = some_is p q (sym plays ∙ too)

    after_silence : is_silent (grown w.game) (get w.shown k) l ≡ true →
        after_tick w k l ≡ disconnect l causes.Silent (farewell l.stage causes.Silent)
    after_silence silent = tick_cases w k l
        (λ (h : Handing). h ≡ disconnect l causes.Silent (farewell l.stage causes.Silent)) there
        (λ nobody. absurd (none_some _ p nobody plays)) opens
        (λ q too silent_. refl)
        (λ q too speaks. absurd (not_both _ silent speaks))

    -- what is handed to one that is served
    abbrev served : Player → Handing
    served q = record {
      link = record (awaiting (grown w.game) (get w.shown k) l) {
        owed = l.owed ++ bytes_of (due_to w k q);
      };
      handed = due_to w k q;
    }

    after_serving : is_silent (grown w.game) (get w.shown k) l ≡ false →
        ¬ IsTooMuch l (due_to w k p) → after_tick w k l ≡ served p
    after_serving speaks few = tick_cases w k l (λ (h : Handing). h ≡ served p) there
        (λ nobody. absurd (none_some _ p nobody plays)) opens
        (λ q too silent. absurd (not_both _ silent speaks))
        (λ q too speaks_. hand_cases (awaiting (grown w.game) (get w.shown k) l) (due_to w k q)
        (λ (h : Handing). h ≡ served p)
        (λ fits. ap served (sym (same q too)))
        (λ much. absurd (few (subst (λ (x : Player). IsTooMuch l (due_to w k x))
        (sym (same q too)) (leb-false _ _ much)))))

    -- what becomes of one to whom too much is due
    abbrev full : Handing
    full = quiet
        (record (mark_closed (awaiting (grown w.game) (get w.shown k) l) causes.Backlog) {
          owed = [];
        })

    after_much : is_silent (grown w.game) (get w.shown k) l ≡ false →
        IsTooMuch l (due_to w k p) → after_tick w k l ≡ full
    after_much speaks many = tick_cases w k l (λ (h : Handing). h ≡ full) there
        (λ nobody. absurd (none_some _ p nobody plays)) opens
        (λ q too silent. absurd (not_both _ silent speaks))
        (λ q too speaks_. hand_cases (awaiting (grown w.game) (get w.shown k) l) (due_to w k q)
        (λ (h : Handing). h ≡ full)
        (λ fits. absurd (not_both _ fits (lt-leb _ outbox_max
        (subst (λ (x : Player). IsTooMuch l (due_to w k x)) (same q too) many))))
        (λ much. refl))

-- ---- who is left

-- of a connection that is not in play there is no player
no_player : (w : World) (k : ℕ) (m : Link) → GoodWorld w → get w.links k ≡ Some m →
    is_play m.stage ≡ false → get w.game.players k ≡ None
no_player w k m good there waits =
    nobody_yet (get w.game.players k) (good.plays k ∙ ap in_play there ∙ waits)

ended : (w : World) (k : ℕ) (l : Link) (h : Handing) → GoodWorld w → GoodWorld (tick w).world →
    get w.links k ≡ Some l → after_tick w k l ≡ h → is_play h.link.stage ≡ false →
    IsEnded k (tick w) h
ended w k l h good later there is waits =
    let link = now w k l there good ∙ ap (λ (x : Handing). Some x.link) is in
    record {
      link = link;
      gone = no_player (tick w).world k h.link later link waits;
      handed = handed_now w k l there good ∙ ap (λ (x : Handing). x.handed) is;
    }

-- a closed link is not in play
not_playing : (m : Link) (ps : List Sent) →
    is_play (disconnect m causes.Silent ps).link.stage ≡ false
not_playing m ps = hand_cases (mark_closed m causes.Silent) ps
    (λ (h : Handing). is_play h.link.stage ≡ false) (λ fits. refl) (λ much. refl)

-- a connection in play has a player
has_player : (w : World) (k : ℕ) (m : Link) → GoodWorld w → get w.links k ≡ Some m →
    m.stage ≡ stages.Play → (p : Player) × (get w.game.players k ≡ Some p)
has_player w k m good there stage = at_player (get w.game.players k) refl
    (good.plays k ∙ ap in_play there ∙ ap is_play stage)
  where
    at_player : (o : Option Player) → get w.game.players k ≡ o →
        is_some (get w.game.players k) ≡ true → (p : Player) × (get w.game.players k ≡ Some p)
    at_player None is plays = absurd (not_both true refl (sym plays ∙ ap is_some is))
    at_player (Some p) is plays = (p, is)

served_so : (w : World) (k : ℕ) (l : Link) (p : Player) → GoodWorld w →
    GoodWorld (tick w).world → get w.links k ≡ Some l → get w.game.players k ≡ Some p →
    is_silent (grown w.game) (get w.shown k) l ≡ false → ¬ IsTooMuch l (due_to w k p) →
    IsServed w k l p (tick w)
served_so w k l p good later there plays speaks few =
    let is = after_serving w k l there good p plays speaks few in
    let link = now w k l there good ∙ ap (λ (x : Handing). Some x.link) is in
    let stage = has_stage w k l p good there plays in
    let found = has_player (tick w).world k _ later link stage in
    let was = tick_player w k found.0 found.1 in
    let here = speaks_there w k l p there plays (ap is_closed stage) speaks in
    record {
      handed = handed_now w k l there good ∙ ap (λ (x : Handing). x.handed) is;
      link = link;
      player = found.1 ∙ ap (λ (x : Player). Some x) (sym was.2
          ∙ ap told_player (some_is was.0 p (sym was.1 ∙ here)));
      shown = tick_shown w k ∙ ap (option_map (λ (q : Player).
          sight_of (at_tick w).game q (last_shown (get w.shown k)))) here;
    }

pub others_stay : (w : World) (k : ℕ) → GoodWorld w → get w.game.players k ≡ None →
    (to k (tick w).out ≡ []) × (get (tick w).world.links k ≡ get w.links k)
others_stay w k good none = at_link (get w.links k) refl
  where
    at_link : (o : Option Link) → get w.links k ≡ o →
        (to k (tick w).out ≡ []) × (get (tick w).world.links k ≡ get w.links k)
    at_link None is = (
      tick_handed w k ∙ ap (handed_by (λ (j : ℕ) (l : Link). tick_hands w j l) k) is,
      tick_link w k ∙ ap (option_map (λ (l : Link). (after_tick w k l).link)) is ∙ sym is,
    )
    at_link (Some l) is =
        let same = after_quiet w k l is good none in (
          handed_now w k l is good ∙ ap (λ (x : Handing). x.handed) same,
          now w k l is good ∙ ap (λ (x : Handing). Some x.link) same ∙ sym is,
        )

pub at_tick_hands : (w : World) → GoodWorld w → AtTick w
unfolding step
at_tick_hands w good =
    let later = step_good w ticked good in
    record {
      silent = λ k l p there plays silent. ended w k l _ good later there
          (after_silence w k l there good p plays silent) (not_playing l _);
      hands_due = λ k l p there plays speaks few.
          served_so w k l p good later there plays speaks few;
      too_much = λ k l p there plays speaks many. ended w k l _ good later there
          (after_much w k l there good p plays speaks many) refl;
      others = λ k none. others_stay w k good none;
    }

-- ---- the game after it

-- what one connection is handed of the game of a tick
abbrev shows_it : World → ℕ → Link → Handing
shows_it w k l = flush (at_tick w).game (get (at_tick w).shown k) k l

-- who is closed by what is due is so since that is too much
closed_much : (w : World) (k : ℕ) (l : Link) (p : Player) →
    get (at_tick w).game.players k ≡ Some p → is_closed l.stage ≡ false →
    is_closed (shows_it w k l).link.stage ≡ true →
    (shows_it w k l).link.cause ≡ Some causes.Backlog
closed_much w k l p plays open_ closed = by_player (get (at_tick w).game.players k) plays closed
  where
    by_player : (o : Option Player) → o ≡ Some p →
        is_closed (flush_of (at_tick w).game (get (at_tick w).shown k) l o).link.stage ≡ true →
        (flush_of (at_tick w).game (get (at_tick w).shown k) l o).link.cause
        ≡ Some causes.Backlog
    by_player None is closed = absurd cc
    by_player (Some q) is closed = hand_cases l _ (λ (h : Handing).
        is_closed h.link.stage ≡ true → h.link.cause ≡ Some causes.Backlog)
        (λ fits closed. absurd (not_both _ closed open_)) (λ much closed. refl) closed

dropped_so : (w : World) → GoodWorld w → (k : ℕ) (p : Player) →
    get (at_tick w).game.players k ≡ Some p →
    is_closing (shows_it w) k (get (shown_all (at_tick w)).links k) ≡ true → IsDropped w k
unfolding step
dropped_so w good k p plays closing = at_link (get (at_tick w).links k) refl closing
  where
    before : GoodWorld (at_tick w)
    before = at_tick_world w good

    at_link : (o : Option Link) → get (at_tick w).links k ≡ o →
        is_closing (shows_it w) k o ≡ true → IsDropped w k
    at_link None is closing = absurd cc
    at_link (Some l) is closing = record {
      player = p;
      played = plays;
      cause = ap (option_and_then (λ (m : Link). m.cause))
          (each_links (shows_it w) (shown_all (at_tick w)) k
          ∙ ap (option_map (λ (m : Link). (shows_it w k m).link)) is)
          ∙ closed_much w k l p plays
          (ap is_closed (has_stage (at_tick w) k l p before is plays)) closing;
    }

-- those that pass a test have what all have that do
all_passed : {X : Type 0} (P Q : X → Type 0) (test : X → Bool) (xs : List X) →
    AllByRecursion P xs → ((x : X) → P x → test x ≡ true → Q x) →
    AllByRecursion Q (filter test xs)
all_passed P Q test [] all each = tt
all_passed P Q test (x ∷ xs) all each =
    step_at (test x) refl (all_passed P Q test xs all.1 each)
  where
    step_at : (b : Bool) → test x ≡ b → AllByRecursion Q (filter test xs) →
        AllByRecursion Q (cond b (x ∷ filter test xs) (filter test xs))
    step_at true t later = (each x all.0 t, later)
    step_at false t later = later

no_one : {X : Type 0} (Q : X → Type 0) (xs : List X) → AllByRecursion Q xs →
    ((x : X) → ¬ Q x) → xs ≡ []
no_one Q [] all none = refl
no_one Q (x ∷ xs) all none = absurd (none x all.0)

abbrev HasPlayer : Game → ℕ → Type 0
HasPlayer g k = (p : Player) × (get g.players k ≡ Some p)

all_play : (g : Game) → AllByRecursion (HasPlayer g) (keys g.players)
all_play g = all_mapped (λ (e : ℕ × Player). HasPlayer g e.0) (HasPlayer g)
    (λ (e : ℕ × Player). e.0) (λ e has. has) (entries g.players)
    (all_found (λ (e : ℕ × Player). HasPlayer g e.0) g.players (λ k p is. (p, is)))

-- who is in play once all were told was so before
told_before : (g : Game) (k : ℕ) → HasPlayer (told g) k → HasPlayer g k
told_before g k has = at_player (get g.players k) refl (sym (told_players g k) ∙ has.1)
  where
    at_player : (o : Option Player) → get g.players k ≡ o →
        option_map told_player (get g.players k) ≡ Some has.0 → HasPlayer g k
    at_player None is e = absurd (none_some _ has.0 (ap (option_map told_player) is) e)
    at_player (Some p) is e = (p, is)

pub after_tick_game : (w : World) → GoodWorld w → AfterTick w
unfolding step each
after_tick_game w good =
    let gone = closed_by (shows_it w) (shown_all (at_tick w)) in
    let dropped = all_passed (HasPlayer (told (at_tick w).game)) (IsDropped w) _
    (keys (told (at_tick w).game).players) (all_play (told (at_tick w).game)) (λ k has closing.
    let was = told_before (at_tick w).game k has in
    dropped_so w good k was.0 was.1 closing) in
    record {
      gone = gone;
      dropped = dropped;
      game = refl;
      same = λ none. ap (λ (ks : List ℕ). leave_all ks (told (at_tick w).game))
          (no_one (IsDropped w) gone dropped none);
    }
