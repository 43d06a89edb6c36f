-- What a tick makes of one connection, case by case, with what it is handed.
use Rattle.std.proofs.Common.{◌≡◌, ℕ, Bool, true, false, cond, List, ◌++◌, map, Option, Some, None}
use Rattle.std.proofs.Common.{refl, sym, subst, ap, ◌∙◌}
use Rattle.std.specs.Prelude.{option_map}
use Rattle.std.proofs.lemmas.List.{append-nil}
use Rattle.std.specs.FinMap.{get}
use Rattle.mc_model.specs.declared.cause.Cause.TheVariants as causes
use Rattle.mc_model.specs.declared.player.Player.{Player}
use Rattle.mc_model.specs.Packets.{Sent, of_play}
use Rattle.mc_model.specs.Run.{to}
use Rattle.mc_model.specs.Sight.{Sight}
use Rattle.mc_model.specs.Talk.{farewell}
use Rattle.mc_model.specs.Stages.{is_closed}
use Rattle.mc_model.specs.Link.{Handing, Link, disconnect, hand, quiet}
use Rattle.mc_model.specs.Showing.{due, last_shown, sight_of}
use Rattle.mc_model.specs.World.{World, is_closing}
use Rattle.mc_model.specs.Tick.{aged, at_tick, awaiting, beat, beat_of, beats, flush, flush_of}
use Rattle.mc_model.specs.Tick.{grown, is_silent, shown_all, tick, tick_hands, told, told_player}
use Rattle.mc_model.proofs.Maps.Options.{some_is}
use Rattle.mc_model.proofs.Maps.Lookups.{get_keyed}
use Rattle.mc_laws.proofs.Walk.Each.{disconnect_closes, each_links, each_players, each_shown}
use Rattle.mc_laws.proofs.Walk.Each.{each_last, each_unread, told_players}
use Rattle.mc_laws.proofs.Apart.Outs.{handed_by, to_each}
use Rattle.mc_laws.proofs.TickRules.{rules_leave}

-- first by its beat, then by what is due
abbrev pub after_tick : World → ℕ → Link → Handing
after_tick w k l = record {
  link = (flush (at_tick w).game (get w.shown k) k
      (beat (grown w.game) (get w.shown k) k l).link).link;
  handed = tick_hands w k l;
}

pub tick_link : (w : World) (k : ℕ) → get (tick w).world.links k
    ≡ option_map (λ (l : Link). (after_tick w k l).link) (get w.links k)
tick_link w k =
    each_links (λ (j : ℕ) (l : Link). flush (at_tick w).game (get (at_tick w).shown j) j l)
    (shown_all (at_tick w)) k
    ∙ ap (option_map (λ (l : Link). (flush (at_tick w).game (get (at_tick w).shown k) k l).link))
    (each_links (λ (j : ℕ) (l : Link). beat (grown w.game) (get w.shown j) j l) (aged w) k)
    ∙ two (get w.links k)
    ∙ ap (λ (o : Option Sight). option_map (λ (l : Link). (flush (at_tick w).game o k
    (beat (grown w.game) (get w.shown k) k l).link).link) (get w.links k)) shown
  where
    shown : get (at_tick w).shown k ≡ get w.shown k
    shown = ap (λ m. get m k)
        (each_shown (λ (j : ℕ) (l : Link). beat (grown w.game) (get w.shown j) j l) (aged w))

    two : (o : Option Link) →
        option_map (λ (l : Link). (flush (at_tick w).game (get (at_tick w).shown k) k l).link)
        (option_map (λ (l : Link). (beat (grown w.game) (get w.shown k) k l).link) o)
        ≡ option_map (λ (l : Link). (flush (at_tick w).game (get (at_tick w).shown k) k
        (beat (grown w.game) (get w.shown k) k l).link).link) o
    two None = refl
    two (Some l) = refl

pub tick_handed : (w : World) (k : ℕ) → to k (tick w).out
    ≡ handed_by (λ (j : ℕ) (l : Link). tick_hands w j l) k (get w.links k)
tick_handed w k = to_each (λ (j : ℕ) (l : Link). tick_hands w j l) k w.links

-- its world has what was shown before, and the number of the last join
pub at_tick_shown : (w : World) → (at_tick w).shown ≡ w.shown
at_tick_shown w =
    each_shown (λ (j : ℕ) (l : Link). beat (grown w.game) (get w.shown j) j l) (aged w)

pub at_tick_last : (w : World) → (at_tick w).last ≡ w.last
at_tick_last w =
    each_last (λ (j : ℕ) (l : Link). beat (grown w.game) (get w.shown j) j l) (aged w)

-- what of it was not read, it stays
pub tick_unread : (w : World) → (tick w).world.unread ≡ w.unread
tick_unread w =
    each_unread (λ (j : ℕ) (l : Link). flush (at_tick w).game (get (at_tick w).shown j) j l)
    (shown_all (at_tick w))
    ∙ each_unread (λ (j : ℕ) (l : Link). beat (grown w.game) (get w.shown j) j l) (aged w)

-- whoever is in play in the world of a tick was shown its game
pub tick_shown : (w : World) (k : ℕ) → get (tick w).world.shown k
    ≡ option_map (λ (p : Player). sight_of (at_tick w).game p (last_shown (get w.shown k)))
    (get (at_tick w).game.players k)
tick_shown w k =
    ap (λ m. get m k)
    (each_shown (λ (j : ℕ) (l : Link). flush (at_tick w).game (get (at_tick w).shown j) j l)
    (shown_all (at_tick w)))
    ∙ get_keyed (λ (j : ℕ) (p : Player).
    sight_of (at_tick w).game p (last_shown (get (at_tick w).shown j))) (at_tick w).game.players k
    ∙ ap (λ m. option_map (λ (p : Player). sight_of (at_tick w).game p (last_shown (get m k)))
    (get (at_tick w).game.players k))
    (each_shown (λ (j : ℕ) (l : Link). beat (grown w.game) (get w.shown j) j l) (aged w))

-- who is in play once those that were silent left
pub beats_player : (w : World) (k : ℕ) (l : Link) → get w.links k ≡ Some l →
    get (beats (aged w)).game.players k
    ≡ cond (is_closed (beat (grown w.game) (get w.shown k) k l).link.stage) None
    (get w.game.players k)
beats_player w k l there =
    each_players (λ (j : ℕ) (m : Link). beat (grown w.game) (get w.shown j) j m) (aged w) k
    ∙ ap (λ (o : Option Link). cond (is_closing
    (λ (j : ℕ) (m : Link). beat (grown w.game) (get w.shown j) j m) k o) None
    (get w.game.players k)) there

-- who is in play in the world of a tick
pub at_tick_player : (w : World) (k : ℕ) (l : Link) → get w.links k ≡ Some l →
    get (at_tick w).game.players k
    ≡ cond (is_closed (beat (grown w.game) (get w.shown k) k l).link.stage) None
    (get w.game.players k)
at_tick_player w k l there =
    ap (λ m. get m k) (rules_leave (beats (aged w)).plans (beats (aged w)).game).players
    ∙ beats_player w k l there

-- one that is not silent is in play in it, and whoever is not was not before
pub speaks_there : (w : World) (k : ℕ) (l : Link) (p : Player) → get w.links k ≡ Some l →
    get w.game.players k ≡ Some p → is_closed l.stage ≡ false →
    is_silent (grown w.game) (get w.shown k) l ≡ false →
    get (at_tick w).game.players k ≡ Some p
speaks_there w k l p there plays open_ speaks = at_tick_player w k l there
    ∙ ap (λ (o : Option Player). cond (is_closed
    (beat_of (grown w.game) (get w.shown k) l o).link.stage) None o) plays
    ∙ rw (speaks, open_) refl

pub nobody_there : (w : World) (k : ℕ) (l : Link) → get w.links k ≡ Some l →
    get w.game.players k ≡ None → get (at_tick w).game.players k ≡ None
nobody_there w k l there none = at_tick_player w k l there
    ∙ ap (λ (o : Option Player). cond (is_closed
    (beat_of (grown w.game) (get w.shown k) l o).link.stage) None o) none
    ∙ either_none (is_closed l.stage)
  where
    either_none : (b : Bool) → ◌≡◌ {A = Option Player} (cond b None None) None
    either_none true = refl
    either_none false = refl

-- who is in play after a tick was so in its world, and was told what it was shown
pub tick_player : (w : World) (k : ℕ) (p : Player) →
    get (tick w).world.game.players k ≡ Some p →
    (q : Player) × (get (at_tick w).game.players k ≡ Some q) × (told_player q ≡ p)
tick_player w k p there =
    at_player (get (at_tick w).game.players k) refl (sym (told_players (at_tick w).game k))
    (is_closing (λ (j : ℕ) (l : Link). flush (at_tick w).game (get (at_tick w).shown j) j l) k
    (get (at_tick w).links k))
    (sym (each_players (λ (j : ℕ) (l : Link).
    flush (at_tick w).game (get (at_tick w).shown j) j l) (shown_all (at_tick w)) k) ∙ there)
  where
    at_player : (o : Option Player) → get (at_tick w).game.players k ≡ o →
        option_map told_player (get (at_tick w).game.players k)
        ≡ get (told (at_tick w).game).players k →
        (b : Bool) → cond b None (get (told (at_tick w).game).players k) ≡ Some p →
        (q : Player) × (get (at_tick w).game.players k ≡ Some q) × (told_player q ≡ p)
    at_player o is same true e = absurd cc
    at_player None is same false e =
        (let clash : ◌≡◌ {A = Option Player} None (Some p) =
        sym (ap (option_map told_player) is) ∙ same ∙ e in absurd cc)
    at_player (Some q) is same false e =
        (let now : ◌≡◌ {A = Option Player} (Some (told_player q)) (Some p) =
        sym (ap (option_map told_player) is) ∙ same ∙ e in (q, is, some_is (told_player q) p now))

-- who is handed something by its beat, and then what is due
abbrev then_flushed : World → ℕ → Handing → Option Player → Handing
then_flushed w k h o = record {
  link = (flush_of (at_tick w).game (get w.shown k) h.link o).link;
  handed = h.handed ++ (flush_of (at_tick w).game (get w.shown k) h.link o).handed;
}

-- by its player before the tick and in it
module _ (w : World) (k : ℕ) (l : Link) (P : Handing → Type 0)
    (open_ : is_closed l.stage ≡ false) where
  still_there : (p : Player) (now : Option Player) →
      is_silent (grown w.game) (get w.shown k) l ≡ false →
      now ≡ cond (is_closed (beat_of (grown w.game) (get w.shown k) l (Some p)).link.stage) None
      (Some p) → now ≡ Some p
  still_there p now speaks is = is ∙ rw (speaks, open_) refl

  gone_now : (p : Player) (now : Option Player) →
      is_silent (grown w.game) (get w.shown k) l ≡ true →
      now ≡ cond (is_closed (beat_of (grown w.game) (get w.shown k) l (Some p)).link.stage) None
      (Some p) → now ≡ None
  gone_now p now quiet_ is = is ∙ rw (
    quiet_,
    disconnect_closes l causes.Silent
        (farewell l.stage causes.Silent),
  ) refl

  alone : (h : Handing) (now : Option Player) → now ≡ None → P h → P (then_flushed w k h now)
  alone h now none p = subst (λ (o : Option Player). P (then_flushed w k h o)) (sym none)
      (subst (λ (ps : List Sent). P (record { link = h.link; handed = ps }))
      (sym (append-nil h.handed)) p)

  with_player : (p : Player) (now : Option Player) →
      now ≡ cond (is_closed (beat_of (grown w.game) (get w.shown k) l (Some p)).link.stage) None
      (Some p) →
      (is_silent (grown w.game) (get w.shown k) l ≡ true →
      P (disconnect l causes.Silent (farewell l.stage causes.Silent))) →
      (is_silent (grown w.game) (get w.shown k) l ≡ false →
      P (hand (awaiting (grown w.game) (get w.shown k) l)
      (map of_play (due (at_tick w).game (get w.shown k) p)))) →
      P (then_flushed w k (beat_of (grown w.game) (get w.shown k) l (Some p)) now)
  with_player p now is leaves plays = step (is_silent (grown w.game) (get w.shown k) l) refl
    where
      step : (b : Bool) → is_silent (grown w.game) (get w.shown k) l ≡ b →
          P (then_flushed w k (beat_of (grown w.game) (get w.shown k) l (Some p)) now)
      step true t = rw t (alone _ now (gone_now p now t is) (leaves t))
      step false t = rw (t, still_there p now t is) (plays t)

pub tick_cases : (w : World) (k : ℕ) (l : Link) (P : Handing → Type 0) → get w.links k ≡ Some l →
    (get w.game.players k ≡ None → P (quiet l)) →
    ((p : Player) → get w.game.players k ≡ Some p → is_closed l.stage ≡ false) →
    ((p : Player) → get w.game.players k ≡ Some p →
    is_silent (grown w.game) (get w.shown k) l ≡ true →
    P (disconnect l causes.Silent (farewell l.stage causes.Silent))) →
    ((p : Player) → get w.game.players k ≡ Some p →
    is_silent (grown w.game) (get w.shown k) l ≡ false →
    P (hand (awaiting (grown w.game) (get w.shown k) l)
    (map of_play (due (at_tick w).game (get w.shown k) p)))) →
    P (after_tick w k l)
tick_cases w k l P there waits opens leaves plays =
    at_player (get w.game.players k) refl (at_tick_player w k l there)
  where
    at_player : (o : Option Player) → get w.game.players k ≡ o →
        get (at_tick w).game.players k
        ≡ cond (is_closed (beat_of (grown w.game) (get w.shown k) l
        (get w.game.players k)).link.stage) None (get w.game.players k) →
        P (then_flushed w k (beat_of (grown w.game) (get w.shown k) l (get w.game.players k))
        (get (at_tick w).game.players k))
    at_player None is later = subst (λ (o : Option Player).
        get (at_tick w).game.players k
        ≡ cond (is_closed (beat_of (grown w.game) (get w.shown k) l o).link.stage) None o →
        P (then_flushed w k (beat_of (grown w.game) (get w.shown k) l o)
        (get (at_tick w).game.players k))) (sym is)
        (λ now. alone_quiet (is_closed l.stage) now) later
      where
        alone_quiet : (b : Bool) → get (at_tick w).game.players k ≡ cond b None None →
            P (then_flushed w k (quiet l) (get (at_tick w).game.players k))
        alone_quiet true now = subst (λ (o : Option Player). P (then_flushed w k (quiet l) o))
            (sym now) (waits is)
        alone_quiet false now = subst (λ (o : Option Player). P (then_flushed w k (quiet l) o))
            (sym now) (waits is)
    at_player (Some p) is later = subst (λ (o : Option Player).
        get (at_tick w).game.players k
        ≡ cond (is_closed (beat_of (grown w.game) (get w.shown k) l o).link.stage) None o →
        P (then_flushed w k (beat_of (grown w.game) (get w.shown k) l o)
        (get (at_tick w).game.players k))) (sym is)
        (λ now. with_player w k l P (opens p is) p (get (at_tick w).game.players k) now
        (leaves p is) (plays p is)) later
