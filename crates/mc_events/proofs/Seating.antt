-- A server stands for a world after a step of one connection, whatever the step is.
use Rattle.std.proofs.Common.{◌≡◌, ℕ, Bool, true, false, Option, Some, None, refl, sym, subst, ap}
use Rattle.std.proofs.Common.{◌∙◌, inl, inr}
use Rattle.std.specs.Prelude.{OnOk, Result}
use Rattle.std.specs.FinMap.{get, insert}
use Rattle.std.proofs.lemmas.Bool.{cases_eq}
use Rattle.std.proofs.lemmas.Result.{on_ok_weaker}
use Rattle.mc_model.specs.declared.stage.Stage.{Stage}
use Rattle.mc_model.specs.declared.stage.Stage.TheVariants as stages
use Rattle.mc_model.specs.Sight.{Sight}
use Rattle.mc_model.specs.Step.{Event, step}
use Rattle.mc_model.specs.Stages.{is_closed}
use Rattle.mc_flush.specs.Lists.{ListValue}
use Rattle.mc_flush.specs.Seeing.{MarkValue, Parts}
use Rattle.mc_model.specs.Apart.{IsOf}
use Rattle.mc_model.specs.Game.{Game}
use Rattle.mc_model.specs.Link.{Link}
use Rattle.mc_model.specs.World.{Outcome, Seat, Turn, Unread, World, on_link, on_seat, seat_of}
use Rattle.mc_model.specs.World.{seated, unread_of, with_seat}
use Rattle.mc_laws.proofs.Decoding.Worlds.{IsEvent}
use Rattle.mc_model.proofs.Maps.Lookups.{put_other, put_same}
use Rattle.mc_model.proofs.Maps.Options.{not_both, some_is}
use Rattle.mc_links.specs.Kept.{ConnectionValue}
use Rattle.mc_links.specs.Seats.{Becomes, seat_with}
use Rattle.mc_links.specs.Sitting.{Sits}
use Rattle.mc_play.specs.Kept.{GameValue}
use Rattle.mc_showing.specs.Shown.{Shows}
use Rattle.mc_events.specs.Listing.{Follows}
use Rattle.mc_events.specs.Served.{ServerValue, shown_parts}
use Rattle.mc_events.specs.Stands.{IsLinked, Pair, Stands}
use Rattle.mc_events.proofs.Listed.{listed, uuid_of}
use Rattle.mc_events.proofs.Reached.{reached_next, reached_settings, reached_shut}

-- a server as it is from inside
pub inside : {v u : ServerValue} {w : World} → v ≡ u → Stands u w → Stands v w
inside {w = w} is stands = subst (λ (x : ServerValue). Stands x w) (sym is) stands

-- ---- what Stands gives by key

-- a connection stands for a link
pub record HasLink (parts : Parts) (k : ℕ) (unread : Unread) (shown : Option Sight)
    (c : ConnectionValue) (q : Option Link) : Type 0 where
  pub there : q ≡ Some c.link
  pub linked : IsLinked parts k unread shown c c.link

found_link : (parts : Parts) (k : ℕ) (unread : Unread) (shown : Option Sight)
    (o : Option ConnectionValue) (q : Option Link) (c : ConnectionValue) → o ≡ Some c →
    Pair parts k unread shown o q → HasLink parts k unread shown c q
found_link parts k unread shown None q c is pair = absurd cc
found_link parts k unread shown (Some x) None c is pair = absurd pair
found_link parts k unread shown (Some x) (Some l) c is pair =
    subst (λ (y : ConnectionValue). HasLink parts k unread shown y (Some l)) (some_is x c is)
    (record {
      there = ap (λ (m : Link). Some m) (sym pair.link);
      linked = subst (λ (m : Link). IsLinked parts k unread shown x m) (sym pair.link) pair;
    })

link_found : {v : ServerValue} {w : World} {c : ConnectionValue} (k : ℕ) → Stands v w →
    get v.connections k ≡ Some c →
    HasLink (shown_parts v) k (unread_of k w) (get w.shown k) c (get w.links k)
link_found {v} {w} {c} k stands is = found_link (shown_parts v) k (unread_of k w) (get w.shown k)
    (get v.connections k) (get w.links k) c is (stands.each k)

-- where no connection is there is no link
no_link : (parts : Parts) (k : ℕ) (unread : Unread) (shown : Option Sight)
    (o : Option ConnectionValue) (q : Option Link) → o ≡ None →
    Pair parts k unread shown o q → q ≡ None
no_link parts k unread shown None None is pair = refl
no_link parts k unread shown None (Some l) is pair = absurd pair
no_link parts k unread shown (Some x) q is pair = absurd cc

link_missing : {v : ServerValue} {w : World} (k : ℕ) → Stands v w →
    get v.connections k ≡ None → get w.links k ≡ None
link_missing {v} {w} k stands is = no_link (shown_parts v) k (unread_of k w) (get w.shown k)
    (get v.connections k) (get w.links k) is (stands.each k)

-- what is not read of it is what its splitter holds
pub link_sits : {v : ServerValue} {w : World} {c : ConnectionValue} (k : ℕ) → Stands v w →
    get v.connections k ≡ Some c → Sits c (unread_of k w)
link_sits k stands is open_ = ((link_found k stands is).linked.remembers open_).holds

-- ---- a turn

closed_stage : (stage : Stage) → is_closed stage ≡ true → stage ≡ stages.Closed
closed_stage stages.Closed closed = refl
closed_stage other closed = absurd cc

-- a game and a connection become those of a seat, and one that is closed stays closed
pub record IsTurned (v g : GameValue) (c d : ConnectionValue) (s : Seat) : Type 0 where
  pub becomes : Becomes v g (record c { splitter = d.splitter }) d s
  pub sits : Sits d s.unread

-- the server behind it, with a list
abbrev pub with_turn : ServerValue → ℕ → GameValue → ConnectionValue → ListValue → ServerValue
with_turn v k g d list = record v {
  game = g;
  connections = insert v.connections k d;
  list = list;
}

-- what was shown at the last tick is the same
same_parts : (v : ServerValue) (w : World) (k : ℕ) (g : GameValue) (c d : ConnectionValue)
    (list : ListValue) (s : Seat) → Stands v w → IsTurned v.game g c d s →
    s.game.settings ≡ w.game.settings → list.last ≡ v.list.last →
    shown_parts (with_turn v k g d list) ≡ shown_parts v
same_parts v w k g c d list s stands turned settings is =
    let game = turned.becomes.game in
    let terrain : g.game.settings.terrain ≡ v.game.game.settings.terrain =
    ap (λ (x : GameValue). x.game.settings.terrain) game
    ∙ ap (λ x. x.terrain) settings
    ∙ sym (ap (λ (x : Game). x.settings.terrain) stands.game) in
    let settled : g.settled ≡ v.game.settled = ap (λ (x : GameValue). x.settled) game in
    λ i. record { players = is i; terrain = terrain i; edits = settled i }

-- its own connection stands for the link of the seat
own_linked : (parts : Parts) (k : ℕ) (unread : Unread) (shown : Option Sight) (v g : GameValue)
    (c d : ConnectionValue) (s : Seat) → IsLinked parts k unread shown c c.link →
    IsTurned v g c d s → (is_closed s.link.stage ≡ false → is_closed c.link.stage ≡ false) →
    IsLinked parts k s.unread shown d s.link
own_linked parts k unread shown v g c d s linked turned opened =
    let link = turned.becomes.link in
    let own : d.link ≡ s.link = ap (λ (x : ConnectionValue). x.link) link in
    record {
      id = ap (λ (x : ConnectionValue). x.id) link ∙ linked.id;
      link = own;
      remembers = λ open_. record {
        holds = turned.sits (ap (λ (x : Link). is_closed x.stage) own ∙ open_);
        shows = subst (λ (m : MarkValue). Shows parts m shown)
            (sym (ap (λ (x : ConnectionValue). x.mark) link))
            (linked.remembers (opened open_)).shows;
      };
    }

-- each connection stands for its link
each_turned : (v : ServerValue) (w : World) (k : ℕ) (g : GameValue) (c d : ConnectionValue)
    (list : ListValue) (s : Seat) → Stands v w → get v.connections k ≡ Some c →
    IsTurned v.game g c d s → s.game.settings ≡ w.game.settings → list.last ≡ v.list.last →
    (is_closed s.link.stage ≡ false → is_closed c.link.stage ≡ false) → (j : ℕ) →
    Pair (shown_parts (with_turn v k g d list)) j (unread_of j (with_seat w k s)) (get w.shown j)
    (get (insert v.connections k d) j) (get (insert w.links k s.link) j)
each_turned v w k g c d list s stands there turned settings is opened j =
    subst (λ (parts : Parts). Pair parts j (unread_of j (with_seat w k s)) (get w.shown j)
    (get (insert v.connections k d) j) (get (insert w.links k s.link) j))
    (sym (same_parts v w k g c d list s stands turned settings is))
    (elim (cases_eq j k) [
      | inl same ↦ rw (
        same,
        put_same v.connections k d,
        put_same w.links k s.link,
        put_same w.unread k s.unread,
      )
          (own_linked (shown_parts v) k (unread_of k w) (get w.shown k) v.game g c d s
          (link_found k stands there).linked turned opened)
      | inr ne ↦ rw (
        put_other v.connections k j d ne,
        put_other w.links k j s.link ne,
        put_other w.unread k j s.unread ne,
      ) (stands.each j)
    ])

-- ---- an event of one connection

-- the event is a step of its seat
pub record IsTurn (w : World) (k : ℕ) (e : Event) (f : Seat → Turn) : Type 0 where
  pub own : IsOf k e
  pub bytes : IsEvent e
  pub is : step w e ≡ on_seat w k f

-- where it is not there nothing happens
pub away_stands : {v : ServerValue} {w : World} {k : ℕ} {e : Event} {f : Seat → Turn} →
    Stands v w → get v.connections k ≡ None → IsTurn w k e f → Stands v (step w e).world
away_stands {v} {w} {k} {e} {f} stands none turn =
    subst (λ (o : Outcome). Stands v o.world)
    (sym (turn.is ∙ ap (on_link w k f) (link_missing k stands none))) stands

-- where it is there, all stands
pub turn_stands : (v : ServerValue) (w : World) (k : ℕ) (e : Event) (f : Seat → Turn)
    (g : GameValue) (c d : ConnectionValue) (list : ListValue) → Stands v w →
    get v.connections k ≡ Some c → IsTurn w k e f →
    IsTurned v.game g c d (f (seat_with v.game c (unread_of k w))).seat →
    Follows (uuid_of (get v.game.game.players k)) (get g.game.players k) v.list list →
    list.last ≡ v.list.last → Stands (with_turn v k g d list) (step w e).world
turn_stands v w k e f g c d list stands there turn turned follows last =
    let after = reached_next w e turn.bytes stands.reached in
    let game : g.game ≡ (step w e).world.game =
    ap (λ (x : GameValue). x.game) now.becomes.game
    ∙ sym (ap (λ (o : Outcome). o.world.game) now_is) in
    record {
      works = stands.works;
      game = game;
      last = stands.last ∙ sym (ap (λ (o : Outcome). o.world.last) now_is);
      listed = listed w e k v.list list turn.own stands.reached after stands.listed
          (subst (λ (x : Game). Follows (uuid_of (get w.game.players k)) (get x.players k) v.list
          list) game
          (subst (λ (x : Game). Follows (uuid_of (get x.players k)) (get g.game.players k) v.list
          list) stands.game follows));
      each = subst (λ (o : Outcome). (j : ℕ) → Pair (shown_parts (with_turn v k g d list)) j
          (unread_of j o.world) (get o.world.shown j) (get (insert v.connections k d) j)
          (get o.world.links j)) (sym now_is)
          (each_turned v w k g c d list s stands there now
          (sym (ap (λ (o : Outcome). o.world.game.settings) now_is)
          ∙ reached_settings w e stands.reached) last opened);
      reached = after;
    }
  where
    found : HasLink (shown_parts v) k (unread_of k w) (get w.shown k) c (get w.links k)
    found = link_found k stands there

    s : Seat
    s = (f (seat_of w k c.link)).seat

    now : IsTurned v.game g c d (f (seat_of w k c.link)).seat
    now = subst (λ (x : Game). IsTurned v.game g c d
        (f (record { game = x; link = c.link; unread = unread_of k w })).seat) stands.game turned

    now_is : step w e ≡ seated w k (f (seat_of w k c.link))
    now_is = turn.is ∙ ap (on_link w k f) found.there

    opened : is_closed (f (seat_of w k c.link)).seat.link.stage ≡ false →
        is_closed c.link.stage ≡ false
    opened open_ = at (is_closed c.link.stage) refl
      where
        at : (b : Bool) → is_closed c.link.stage ≡ b → is_closed c.link.stage ≡ false
        at false is = is
        at true is = absurd (not_both (is_closed s.link.stage)
            (ap is_closed (reached_shut w e k c.link s.link stands.reached found.there
            (closed_stage c.link.stage is)
            (ap (λ (o : Outcome). get o.world.links k) now_is
            ∙ put_same w.links k s.link))) open_)

-- and where the list then follows, if there was memory for it
module _ {v old new : ServerValue} {w : World} {k : ℕ} {e : Event} (f : ℕ → Seat → Turn)
    {g : GameValue} {c d : ConnectionValue} {was : Option ℕ} (is : v ≡ old)
    (stands : Stands old w) (there : get v.connections k ≡ Some c) (turn : IsTurn w k e (f k))
    (turned : IsTurned v.game g c d (f c.id (seat_with v.game c (unread_of k w))).seat)
    (had : was ≡ uuid_of (get old.game.game.players k))
    (rest : new ≡ with_turn v k g d new.list) (last : new.list.last ≡ v.list.last) where
  here : Stands v w
  here = inside is stands

  pub listed_stands : {T E : Type 0} (r : Result T E) →
      OnOk r (Follows was (get g.game.players k) v.list new.list) →
      OnOk r (Stands new (step w e).world)
  listed_stands r = on_ok_weaker r (λ follows.
      subst (λ (x : ServerValue). Stands x (step w e).world) (sym rest)
      (turn_stands v w k e (f k) g c d new.list here there turn
      (subst (λ (n : ℕ). IsTurned v.game g c d (f n (seat_with v.game c (unread_of k w))).seat)
      (link_found k here there).linked.id turned)
      (subst (λ (o : Option ℕ). Follows o (get g.game.players k) v.list new.list)
      (had ∙ ap (λ (x : ServerValue). uuid_of (get x.game.game.players k)) (sym is)) follows)
      last))
