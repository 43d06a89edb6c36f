-- The server after all clients were shown the game stands for the world at the end of the tick.
use Rattle.std.proofs.Common.{◌≡◌, ℕ, Bool, true, false, List, refl, sym, subst, ap, ◌∙◌, inl, inr}
use Rattle.std.specs.Prelude.{Option, Some, None, is_some, option_map}
use Rattle.std.specs.List.{filter}
use Rattle.std.specs.FinMap.{get, keys}
use Rattle.mc_flush.specs.Lists.{ListValue}
use Rattle.mc_flush.specs.Seeing.{Parts, present_parts, settled_parts}
use Rattle.mc_model.specs.Sight.{Sight}
use Rattle.mc_model.specs.Stages.{is_closed, is_play}
use Rattle.mc_model.specs.declared.player.Player.{Player}
use Rattle.mc_model.specs.Game.{Game}
use Rattle.mc_model.specs.Good.{Good, GoodWorld, in_play}
use Rattle.mc_model.specs.Leaving.{leave_all}
use Rattle.mc_model.specs.Link.{Handing, Link}
use Rattle.mc_model.specs.Showing.{last_shown, sight_of}
use Rattle.mc_model.specs.Tick.{flush, flush_of, flushed, shown_all, told, told_player}
use Rattle.mc_model.specs.World.{Unread, World, each, unread_of}
use Rattle.mc_laws.proofs.Deeds.Leaving.{leave_all_stays}
use Rattle.mc_model.proofs.Maps.Lookups.{get_keyed}
use Rattle.mc_laws.proofs.Runs.Worlds.{flushed_world}
use Rattle.mc_laws.proofs.Walk.Each.{ClosesOrStays, each_last, each_links, each_shown, flush_stage}
use Rattle.mc_laws.proofs.Walk.Each.{told_good, told_players}
use Rattle.mc_frame.specs.Held.{Splitting}
use Rattle.mc_links.specs.Kept.{ConnectionValue}
use Rattle.mc_links.specs.Sitting.{Holds}
use Rattle.mc_links.specs.Showing.{IsFlushed, IsShown}
use Rattle.mc_play.specs.Kept.{GameValue, land_of}
use Rattle.mc_showing.specs.Preparing.{Prepares}
use Rattle.mc_showing.specs.Shown.{IsListed, Shows, pairs_of}
use Rattle.mc_showing.proofs.PairFacts.{pairs_alike}
use Rattle.mc_events.specs.Served.{Both, Each, ServerValue, shown_parts}
use Rattle.mc_events.specs.Stands.{IsLinked, Pair}
use Rattle.mc_events.specs.Ticking.{AreShown, IsBare, IsEnded, StandsAmid, StaysListed, dismissed}
use Rattle.mc_events.specs.Ticking.{is_shut_in}
use Rattle.mc_events.proofs.Beaten.{closed_alone, dismissed_each, no_player, shut_alike}
use Rattle.mc_events.proofs.Beaten.{there_alike}

-- ---- one connection

-- what a client is shown of a game, if it has a player
abbrev pub shown_of : Game → Option Sight → Option Player → Option Sight
shown_of g shown o = option_map (λ (p : Player). sight_of g p (last_shown shown)) o

module _ (v : GameValue) (before present : Parts) (k : ℕ) (unread : Unread)
    (shown : Option Sight) where
  waiting_link : (c d : ConnectionValue) (l : Link) → d ≡ c → IsLinked before k unread shown c l →
      (is_closed l.stage ≡ false → shown ≡ None) →
      IsLinked present k unread None d l
  waiting_link c d l same is bare =
      subst (λ (x : ConnectionValue). IsLinked present k unread None x l) (sym same) (record {
        id = is.id;
        link = is.link;
        remembers = λ open_. let r = is.remembers open_ in record {
          holds = r.holds;
          shows = subst (Shows before c.mark) (bare open_) r.shows;
        };
      })

  playing_link : (p : Player) (c d : ConnectionValue) (l : Link) →
      IsFlushed v present p shown c d → IsLinked before k unread shown c l →
      is_closed l.stage ≡ false →
      IsLinked present k unread (Some (sight_of v.game p (last_shown shown))) d
      (flush v.game shown k l).link
  playing_link p c d l made is open_ = record {
    id = ap (λ (x : ConnectionValue). x.id) made.is ∙ is.id;
    link = ap (λ (x : ConnectionValue). x.link) made.is
        ∙ (λ i. (flush v.game shown (is.id i) (is.link i)).link);
    remembers = λ _. record {
      holds = subst (λ (now : Splitting). Holds now unread)
          (sym (ap (λ (x : ConnectionValue). x.splitter) made.is)) (is.remembers open_).holds;
      shows = made.shows (last_shown shown);
    };
  }

  shown_link : (c d : ConnectionValue) (l : Link) → IsShown v before present c d →
      IsLinked before k unread shown c l →
      (get v.game.players k ≡ None → is_closed l.stage ≡ false → shown ≡ None) →
      ((p : Player) → get v.game.players k ≡ Some p → is_closed l.stage ≡ false) →
      IsLinked present k unread (shown_of v.game shown (get v.game.players k)) d
      (flush v.game shown k l).link
  shown_link c d l made is bare plays = step (get v.game.players k) refl
    where
      step : (o : Option Player) → get v.game.players k ≡ o →
          IsLinked present k unread (shown_of v.game shown (get v.game.players k)) d
          (flush v.game shown k l).link
      step None none = subst (λ (o : Option Player).
          IsLinked present k unread (shown_of v.game shown o) d (flush_of v.game shown l o).link)
          (sym none)
          (waiting_link c d l (made.waits (ap (get v.game.players) is.id ∙ none)) is (bare none))
      step (Some p) there = subst (λ (o : Option Player).
          IsLinked present k unread (shown_of v.game shown o) d (flush v.game shown k l).link)
          (sym there)
          (playing_link p c d l (made.plays p shown (ap (get v.game.players) is.id ∙ there)
          (is.remembers (plays p there)).shows) is (plays p there))

  shown_pair : (o n : Option ConnectionValue) (m : Option Link) →
      Both (IsShown v before present) o n → Pair before k unread shown o m →
      ((l : Link) → m ≡ Some l → get v.game.players k ≡ None → is_closed l.stage ≡ false →
      shown ≡ None) →
      ((l : Link) → m ≡ Some l → (p : Player) → get v.game.players k ≡ Some p →
      is_closed l.stage ≡ false) →
      Pair present k unread (shown_of v.game shown (get v.game.players k)) n
      (option_map (λ (l : Link). (flush v.game shown k l).link) m)
  shown_pair (Some c) (Some d) (Some l) both pair bare plays =
      shown_link c d l both pair (bare l refl) (plays l refl)
  shown_pair None None None both pair bare plays = tt
  shown_pair (Some c) (Some d) None both pair bare plays = absurd pair
  shown_pair None None (Some l) both pair bare plays = absurd pair
  shown_pair (Some c) None m both pair bare plays = absurd both
  shown_pair None (Some d) m both pair bare plays = absurd both

-- ---- those that were told

mapped_there : {A B : Type 0} (f : A → B) (o : Option A) → is_some (option_map f o) ≡ is_some o
mapped_there f None = refl
mapped_there f (Some x) = refl

-- they have the names that they had
pub pairs_told : (g : Game) → pairs_of (told g) ≡ pairs_of g
pairs_told g = pairs_alike g (told g) (λ k.
    ap (option_map {U = ℕ × List ℕ} (λ (p : Player). (p.uuid, p.name))) (told_players g k)
    ∙ same (get g.players k))
  where
    same : (o : Option Player) →
        option_map {U = ℕ × List ℕ} (λ (p : Player). (p.uuid, p.name)) (option_map told_player o)
        ≡ option_map {U = ℕ × List ℕ} (λ (p : Player). (p.uuid, p.name)) o
    same None = refl
    same (Some p) = refl

-- ---- all of them

flushed_shown : (w : World) (k : ℕ) → get (flushed w).shown k
    ≡ shown_of w.game (get w.shown k) (get w.game.players k)
flushed_shown w k =
    ap (λ m. get m k) (each_shown (λ (j : ℕ) (l : Link). flush w.game (get w.shown j) j l)
    (shown_all w))
    ∙ get_keyed (λ (j : ℕ) (p : Player). sight_of w.game p (last_shown (get w.shown j)))
    w.game.players k

bare_flushed : (w : World) → GoodWorld w → IsBare (flushed w)
bare_flushed w good k l there waits open_ =
    flushed_shown w k
    ∙ ap (shown_of w.game (get w.shown k)) (step (get w.links k) refl
    (sym (each_links (λ (j : ℕ) (x : Link). flush w.game (get w.shown j) j x) (shown_all w) k)
    ∙ there))
  where
    step : (o : Option Link) → get w.links k ≡ o →
        option_map (λ (x : Link). (flush w.game (get w.shown k) k x).link) o ≡ Some l →
        get w.game.players k ≡ None
    step None is none = absurd cc
    step (Some x) is some =
        (let same : (flush w.game (get w.shown k) k x).link ≡ l = cc in
        stays x is same (flush_stage w.game (get w.shown k) k x))
      where
        stays : (y : Link) → get w.links k ≡ Some y →
            (flush w.game (get w.shown k) k y).link ≡ l →
            ClosesOrStays y.stage (flush w.game (get w.shown k) k y) →
            get w.game.players k ≡ None
        stays y is same (inl closed) =
            (let clash : true ≡ false = sym closed
            ∙ ap (λ (z : Link). is_closed z.stage) same ∙ open_ in absurd cc)
        stays y is same (inr stage) =
            no_player k w y good is
            (ap is_play (sym stage ∙ ap (λ (z : Link). z.stage) same) ∙ waits)

-- Columns were made ready, each client was shown the game, all was told, and then those left that
-- are closed.
module _ (old new : ServerValue) (w : World) (s : StandsAmid old w) (v : GameValue) (ids : List ℕ)
    (are : ids ≡ keys new.connections) (prepared : Prepares old.game v)
    (shows : Each (λ (k : ℕ). IsShown v (settled_parts (land_of v) old.list)
    (present_parts (land_of v) old.list)) old.connections new.connections)
    (game : new.game.game ≡ leave_all (filter (is_shut_in new.connections) ids) (told v.game))
    (settled : new.game.settled ≡ v.game.edits)
    (listed : Good (told v.game) → old.list.present ≡ pairs_of (told v.game) →
    new.list.present ≡ pairs_of new.game.game)
    (before : new.list.last ≡ old.list.present) (last : new.last ≡ old.last)
    (failed : new.failed ≡ old.failed) where
  abbrev f : ℕ → Link → Handing
  f k l = flush w.game (get w.shown k) k l

  abbrev present : Parts
  present = present_parts (land_of v) old.list

  v_is : v.game ≡ w.game
  v_is = prepared.game ∙ s.game

  parts_before : shown_parts old ≡ settled_parts (land_of v) old.list
  parts_before = sym (λ i. record {
    players = old.list.last;
    terrain = (prepared.game i).settings.terrain;
    edits = prepared.settled i;
  })

  parts_after : present ≡ shown_parts new
  parts_after =
      let stays = leave_all_stays (filter (is_shut_in new.connections) ids) (told v.game) in
      let settings = ap (λ (g : Game). g.settings) game ∙ stays.settings in
      sym (λ i. record {
        players = before i;
        terrain = (settings i).terrain;
        edits = settled i;
      })

  waits_in : (k : ℕ) (l : Link) → get w.links k ≡ Some l → get v.game.players k ≡ None →
      is_play l.stage ≡ false
  waits_in k l there none = sym (ap in_play there) ∙ sym (s.good.plays k)
      ∙ ap is_some (ap (λ (g : Game). get g.players k) (sym v_is) ∙ none)

  open_in : (k : ℕ) (l : Link) → get w.links k ≡ Some l → (p : Player) →
      get v.game.players k ≡ Some p → is_closed l.stage ≡ false
  open_in k l there p plays = step (is_closed l.stage) refl
    where
      step : (b : Bool) → is_closed l.stage ≡ b → is_closed l.stage ≡ false
      step false is = is
      step true is = (let clash : ◌≡◌ {A = Option Player} None (Some p) =
          sym (closed_alone k w l s.good there is)
          ∙ ap (λ (g : Game). get g.players k) (sym v_is) ∙ plays in absurd cc)

  at : (k : ℕ) → Pair present k (unread_of k w)
      (shown_of w.game (get w.shown k) (get w.game.players k)) (get new.connections k)
      (option_map (λ (l : Link). (f k l).link) (get w.links k))
  at k = subst (λ (g : Game). Pair present k (unread_of k w)
      (shown_of g (get w.shown k) (get g.players k)) (get new.connections k)
      (option_map (λ (l : Link). (flush g (get w.shown k) k l).link) (get w.links k))) v_is
      (shown_pair v (settled_parts (land_of v) old.list) present k (unread_of k w)
      (get w.shown k) (get old.connections k) (get new.connections k) (get w.links k) (shows k)
      (subst (λ (parts : Parts). Pair parts k (unread_of k w) (get w.shown k)
      (get old.connections k) (get w.links k)) parts_before (s.each k))
      (λ l there none open_. s.bare k l there (waits_in k l there none) open_)
      (λ l there p plays. open_in k l there p plays))

  there : (k : ℕ) → is_some (get new.connections k) ≡ is_some (get w.links k)
  there k = there_alike present k (unread_of k w)
      (shown_of w.game (get w.shown k) (get w.game.players k)) (get new.connections k)
      (option_map (λ (l : Link). (f k l).link) (get w.links k)) (at k)
      ∙ mapped_there (λ (l : Link). (f k l).link) (get w.links k)

  game_is : new.game.game ≡ (flushed w).game
  game_is = game
      ∙ ap (λ (g : Game). leave_all (filter (is_shut_in new.connections) ids) (told g)) v_is
      ∙ dismissed_each f (shown_all w) new.connections ids are
      (λ k. shut_alike present k (unread_of k w)
      (shown_of w.game (get w.shown k) (get w.game.players k)) f (get new.connections k)
      (get w.links k) (at k)) there
      (λ k. ap is_some (told_players w.game k)
      ∙ mapped_there told_player (get w.game.players k) ∙ s.good.plays k)

  pub flushed_stands : StandsAmid new (flushed w)
  unfolding each
  flushed_stands = record {
    works = failed ∙ s.works;
    game = game_is;
    last = last ∙ s.last ∙ sym (each_last f (shown_all w));
    listed = listed (subst (λ (g : Game). Good (told g)) (sym v_is) (told_good w.game s.good.game))
        (s.listed ∙ sym (pairs_told w.game) ∙ ap (λ (g : Game). pairs_of (told g)) (sym v_is))
        ∙ ap pairs_of game_is;
    each = λ k.
        let P : Option Sight → Option Link → Type 0 = λ o m.
        Pair (shown_parts new) k (unread_of k (flushed w)) o (get new.connections k) m in
        subst (λ (o : Option Sight). P o (get (flushed w).links k)) (sym (flushed_shown w k))
        (subst (P (shown_of w.game (get w.shown k) (get w.game.players k)))
        (sym (each_links f (shown_all w) k)) (moved k));
    good = flushed_world w s.good;
    bare = bare_flushed w s.good;
  }
    where
      moved : (k : ℕ) → Pair (shown_parts new) k (unread_of k (flushed w))
          (shown_of w.game (get w.shown k) (get w.game.players k)) (get new.connections k)
          (option_map (λ (l : Link). (f k l).link) (get w.links k))
      moved k = subst (λ (parts : Parts). Pair parts k (unread_of k w)
          (shown_of w.game (get w.shown k) (get w.game.players k)) (get new.connections k)
          (option_map (λ (l : Link). (f k l).link) (get w.links k))) parts_after (at k)

-- what holds of both under a premise, where that holds
given : (P : Type 0) → P → (R : ConnectionValue → ConnectionValue → Type 0)
    (o n : Option ConnectionValue) → Both (λ (c d : ConnectionValue). P → R c d) o n → Both R o n
given P p R None None both = tt
given P p R None (Some d) both = absurd both
given P p R (Some c) None both = absurd both
given P p R (Some c) (Some d) both = both p

-- a server whose clients were shown the game, and that ended the tick
pub flushed_ended : (old mid new : ServerValue) (w : World) → StandsAmid old w →
    Prepares old.game mid.game → AreShown mid.game old.list old.connections mid.connections →
    mid ≡ record old { game = mid.game; connections = mid.connections } → IsEnded mid new →
    StandsAmid new (flushed w)
flushed_ended old mid new w s prepared shows rest ended =
    let same = ap (λ (v : ServerValue). v.connections) ended.rest in
    let list = ap (λ (v : ServerValue). v.list) rest in
    let players : IsListed old.list mid.game.game =
    s.listed ∙ ap pairs_of (sym (prepared.game ∙ s.game)) in
    flushed_stands old new w s mid.game (keys mid.connections)
    (sym (ap (λ (v : ServerValue). keys v.connections) ended.rest)) prepared
    (λ k. given (IsListed old.list mid.game.game) players
    (IsShown mid.game (settled_parts (land_of mid.game) old.list)
    (present_parts (land_of mid.game) old.list)) (get old.connections k) (get new.connections k)
    (subst (λ m. AreShown mid.game old.list old.connections m) (sym same) shows k))
    (ended.game ∙ (λ i. dismissed (sym same i) (keys mid.connections) (told mid.game.game)))
    ended.settled
    (subst (λ (l : ListValue). StaysListed l new.list (told mid.game.game) new.game.game) list
    ended.listed)
    (ended.before ∙ ap (λ (l : ListValue). l.present) list)
    (ap (λ (v : ServerValue). v.last) ended.rest ∙ ap (λ (v : ServerValue). v.last) rest)
    (ap (λ (v : ServerValue). v.failed) ended.rest ∙ ap (λ (v : ServerValue). v.failed) rest)
