-- The server after a beat stands for the world of the tick.
use Rattle.std.proofs.Common.{◌≡◌, ℕ, ◌+◌, Bool, true, false, List, refl, sym, subst, ap, ◌∙◌, inl}
use Rattle.std.proofs.Common.{inr, ◌<◌, arith, map}
use Rattle.std.proofs.lemmas.Bool.Decides.{nat_tests}
use Rattle.std.specs.Prelude.{◌⊎◌, Option, Some, None, is_some, option_map}
use Rattle.std.specs.List.{filter}
use Rattle.std.specs.Ordering.{nat_cmp}
use Rattle.std.specs.FinMap.{FinMap, from_entries, get, keys, values}
use Rattle.mc_flush.specs.Seeing.{MarkValue, Parts, StandsFor}
use Rattle.mc_model.specs.Sight.{Sight, nothing_seen}
use Rattle.mc_model.specs.Ticks.{older}
use Rattle.mc_model.specs.Stages.{is_closed, is_play}
use Rattle.mc_model.specs.declared.player.Player.{Player}
use Rattle.mc_model.specs.Game.{Game}
use Rattle.mc_model.specs.Good.{Good, GoodWorld, in_play}
use Rattle.mc_model.specs.Leaving.{leave_all}
use Rattle.mc_model.specs.Link.{Handing, Link}
use Rattle.mc_model.specs.Minds.{Plans, mobs_moved, plans_left}
use Rattle.mc_model.specs.Showing.{last_shown}
use Rattle.mc_model.specs.Pickups.{pickups}
use Rattle.mc_model.specs.Tick.{aged, at_tick, beat, beat_of, beats, grown}
use Rattle.mc_model.specs.World.{Unread, World, each, is_closing, unread_of}
use Rattle.mc_laws.proofs.Deeds.Leaving.{leave_all_stays}
use Rattle.mc_laws.proofs.Minds.Moving.{mobs_leave}
use Rattle.mc_laws.proofs.Pickups.Picking.{pickups_leave}
use Rattle.mc_laws.proofs.Runs.Worlds.{at_tick_world}
use Rattle.mc_laws.proofs.Walk.Each.{beat_stage, each_links}
use Rattle.mc_laws.proofs.Walk.Handings.{not_in_play}
use Rattle.mc_laws.proofs.Walk.Ticking.{at_tick_last, at_tick_shown}
use Rattle.mc_links.specs.Beating.{IsBeaten}
use Rattle.mc_links.specs.Kept.{ConnectionValue}
use Rattle.mc_showing.specs.Shown.{Shows, pairs_of}
use Rattle.mc_events.specs.Served.{Both, Each, ServerValue, shown_parts}
use Rattle.mc_events.specs.Stands.{IsLinked, Pair}
use Rattle.mc_events.specs.Ticking.{IsBare, StandsAmid, dismissed, is_shut, is_shut_in}
use Rattle.mc_events.proofs.Dismissing.{leave_among}

-- ---- who is in play, and who is closed

pub no_player : (k : ℕ) (w : World) (l : Link) → GoodWorld w → get w.links k ≡ Some l →
    is_play l.stage ≡ false → get w.game.players k ≡ None
no_player k w l good there waits =
    none_of (get w.game.players k) (good.plays k ∙ ap in_play there ∙ waits)
  where
    none_of : (o : Option Player) → is_some o ≡ false → o ≡ None
    none_of None is = refl
    none_of (Some p) is = absurd cc

pub closed_alone : (k : ℕ) (w : World) (l : Link) → GoodWorld w → get w.links k ≡ Some l →
    is_closed l.stage ≡ true → get w.game.players k ≡ None
closed_alone k w l good there closed =
    no_player k w l good there (not_in_play l.stage closed)

-- where a connection stands for a link that was handed something, both are closed or none is
pub shut_alike : (parts : Parts) (k : ℕ) (unread : Unread) (shown : Option Sight)
    (f : ℕ → Link → Handing) (o : Option ConnectionValue) (m : Option Link) →
    Pair parts k unread shown o (option_map (λ (l : Link). (f k l).link) m) →
    is_shut o ≡ is_closing f k m
shut_alike parts k unread shown f (Some c) (Some l) pair =
    ap (λ (x : Link). is_closed x.stage) pair.link
shut_alike parts k unread shown f None None pair = refl
shut_alike parts k unread shown f (Some c) None pair = absurd pair
shut_alike parts k unread shown f None (Some l) pair = absurd pair

-- where a link is, a connection is
pub there_alike : (parts : Parts) (k : ℕ) (unread : Unread) (shown : Option Sight)
    (o : Option ConnectionValue) (m : Option Link) → Pair parts k unread shown o m →
    is_some o ≡ is_some m
there_alike parts k unread shown (Some c) (Some l) pair = refl
there_alike parts k unread shown None None pair = refl
there_alike parts k unread shown (Some c) None pair = absurd pair
there_alike parts k unread shown None (Some l) pair = absurd pair

-- Over all numbers of connections those leave that are closed. It is who leaves of a world in which
-- each link was handed something, where that has the same game.
module _ (f : ℕ → Link → Handing) (w : World) (cs : FinMap nat_cmp ConnectionValue)
    (ids : List ℕ) (are : ids ≡ keys cs)
    (shut : (k : ℕ) → is_shut (get cs k) ≡ is_closing f k (get w.links k))
    (there : (k : ℕ) → is_some (get cs k) ≡ is_some (get w.links k))
    (plays : (k : ℕ) → is_some (get w.game.players k) ≡ in_play (get w.links k)) where
  has : (k : ℕ) → is_some (get w.game.players k) ≡ true → is_some (get cs k) ≡ true
  has k player = there k ∙ link_there (get w.links k) (sym (plays k) ∙ player)
    where
      link_there : (m : Option Link) → in_play m ≡ true → is_some m ≡ true
      link_there None is = absurd cc
      link_there (Some l) is = refl

  pub dismissed_each : leave_all (filter (is_shut_in cs) ids) w.game ≡ (each f w).game
  unfolding each
  dismissed_each =
      ap (λ (ks : List ℕ). leave_all (filter (is_shut_in cs) ks) w.game) are
      ∙ leave_among (is_shut_in cs) w.game cs has
      ∙ (λ i. leave_all (filter (λ (k : ℕ). shut k i) (keys w.game.players)) w.game)

-- ---- one connection

-- the beat that a client was told is that of its mark
told_beat : (parts : Parts) (mark : MarkValue) (shown : Option Sight) → Shows parts mark shown →
    (last_shown shown).beat ≡ mark.beat
unfolding StandsFor
told_beat parts mark None is = sym (ap (λ (m : MarkValue). m.beat) is)
told_beat parts mark (Some s) shows = shows.1.beat

module _ (g : Game) (parts : Parts) (k : ℕ) (unread : Unread) (shown : Option Sight) where
  beaten_as : (c d : ConnectionValue) (l : Link) (told : Option Sight) →
      IsLinked parts k unread shown c l →
      d ≡ record c { link = (beat g told c.id c.link).link } →
      (beat g told k l).link ≡ (beat g shown k l).link →
      (is_closed (beat g shown k l).link.stage ≡ false → is_closed l.stage ≡ false) →
      IsLinked parts k unread shown d (beat g shown k l).link
  beaten_as c d l told is made same opens =
      subst (λ (x : ConnectionValue). IsLinked parts k unread shown x (beat g shown k l).link)
      (sym made) (record {
        id = is.id;
        link = (λ i. (beat g told (is.id i) (is.link i)).link) ∙ same;
        remembers = λ open_. let r = is.remembers (opens open_) in
            record { holds = r.holds; shows = r.shows };
      })

  beaten_link : (c d : ConnectionValue) (l : Link) → IsBeaten g c d →
      IsLinked parts k unread shown c l →
      (is_closed l.stage ≡ true → get g.players k ≡ None) →
      IsLinked parts k unread shown d (beat g shown k l).link
  beaten_link c d l beaten is alone = step (is_closed l.stage) refl
    where
      step : (b : Bool) → is_closed l.stage ≡ b →
          IsLinked parts k unread shown d (beat g shown k l).link
      step true closed =
          let told : Option Sight = Some (record nothing_seen { beat = c.mark.beat }) in
          let none = alone closed in
          beaten_as c d l told is (beaten told refl)
          (ap (λ (o : Option Player). (beat_of g told l o).link) none
          ∙ sym (ap (λ (o : Option Player). (beat_of g shown l o).link) none))
          (λ open_. let clash : true ≡ false = sym closed
          ∙ sym (ap (λ (o : Option Player). is_closed (beat_of g shown l o).link.stage) none)
          ∙ open_ in absurd cc)
      step false open_ =
          beaten_as c d l shown is
          (beaten shown (told_beat parts c.mark shown (is.remembers open_).shows))
          refl (λ _. open_)

  beaten_pair : (o n : Option ConnectionValue) (m : Option Link) →
      Both (IsBeaten g) o n → Pair parts k unread shown o m →
      ((l : Link) → m ≡ Some l → is_closed l.stage ≡ true → get g.players k ≡ None) →
      Pair parts k unread shown n (option_map (λ (l : Link). (beat g shown k l).link) m)
  beaten_pair (Some c) (Some d) (Some l) both pair alone =
      beaten_link c d l both pair (alone l refl)
  beaten_pair None None None both pair alone = tt
  beaten_pair (Some c) (Some d) None both pair alone = absurd pair
  beaten_pair None None (Some l) both pair alone = absurd pair
  beaten_pair (Some c) None m both pair alone = absurd both
  beaten_pair None (Some d) m both pair alone = absurd both

-- ---- all of them

bare_at_tick : (w : World) → IsBare w → IsBare (at_tick w)
bare_at_tick w bare k l there waits open_ =
    ap (λ m. get m k) (at_tick_shown w)
    ∙ step (get w.links k) refl
    (sym (each_links (λ (j : ℕ) (x : Link). beat (grown w.game) (get w.shown j) j x) (aged w) k)
    ∙ there)
  where
    step : (o : Option Link) → get w.links k ≡ o →
        option_map (λ (x : Link). (beat (grown w.game) (get w.shown k) k x).link) o ≡ Some l →
        get w.shown k ≡ None
    step None is none = absurd cc
    step (Some x) is some =
        (let same : (beat (grown w.game) (get w.shown k) k x).link ≡ l = cc in
        stays x is same (beat_stage (grown w.game) (get w.shown k) k x))
      where
        stays : (y : Link) → get w.links k ≡ Some y →
            (beat (grown w.game) (get w.shown k) k y).link ≡ l →
            (is_closed (beat (grown w.game) (get w.shown k) k y).link.stage ≡ true)
            ⊎ ((beat (grown w.game) (get w.shown k) k y).link.stage ≡ y.stage) →
            get w.shown k ≡ None
        stays y is same (inl closed) =
            (let clash : true ≡ false = sym closed
            ∙ ap (λ (z : Link). is_closed z.stage) same ∙ open_ in absurd cc)
        stays y is same (inr stage) =
            let at : y.stage ≡ l.stage = sym stage ∙ ap (λ (z : Link). z.stage) same in
            bare k y is (ap is_play at ∙ waits) (ap is_closed at ∙ open_)

-- once mobs moved and players picked up what they can, these are listed as they were
pairs_kept : (plans : Plans) (g : Game) → pairs_of (pickups (mobs_moved plans g)) ≡ pairs_of g
pairs_kept plans g = ap (λ (players : FinMap nat_cmp Player).
    from_entries {R = nat_cmp} (map (λ (p : Player). (p.uuid, p.name)) (values players)))
    ((pickups_leave (mobs_moved plans g)).players ∙ (mobs_leave plans g).players)

-- The beat came to each connection, then those leave that are closed.
module _ (old : ServerValue) (cs : FinMap nat_cmp ConnectionValue) (left_ : Game) (w : World)
    (s : StandsAmid old w) (ids : List ℕ) (are : ids ≡ keys cs)
    (beaten : Each (λ (k : ℕ). IsBeaten (grown old.game.game)) old.connections cs)
    (leaves : left_ ≡ leave_all (filter (is_shut_in cs) ids) (grown old.game.game)) where
  abbrev f : ℕ → Link → Handing
  f k l = beat (grown w.game) (get w.shown k) k l

  at : (k : ℕ) → Pair (shown_parts old) k (unread_of k w) (get w.shown k) (get cs k)
      (option_map (λ (l : Link). (f k l).link) (get w.links k))
  at k = beaten_pair (grown w.game) (shown_parts old) k (unread_of k w) (get w.shown k)
      (get old.connections k) (get cs k) (get w.links k)
      (subst (λ (g : Game). Both (IsBeaten (grown g)) (get old.connections k) (get cs k)) s.game
      (beaten k)) (s.each k) (λ l there closed. closed_alone k w l s.good there closed)

  there : (k : ℕ) → is_some (get cs k) ≡ is_some (get w.links k)
  there k = there_alike (shown_parts old) k (unread_of k w) (get w.shown k) (get cs k)
      (option_map (λ (l : Link). (f k l).link) (get w.links k)) (at k) ∙ mapped (get w.links k)
    where
      mapped : (m : Option Link) → is_some (option_map (λ (l : Link). (f k l).link) m) ≡ is_some m
      mapped None = refl
      mapped (Some l) = refl

  left_is : left_ ≡ (beats (aged w)).game
  left_is = leaves
      ∙ ap (λ (g : Game). leave_all (filter (is_shut_in cs) ids) (grown g)) s.game
      ∙ dismissed_each f (aged w) cs ids are
      (λ k. shut_alike (shown_parts old) k (unread_of k w) (get w.shown k) f (get cs k)
      (get w.links k) (at k)) there s.good.plays

  -- each plan loses the move that its mob made
  pub beaten_plans : (plans : Plans) → w.plans ≡ plans →
      (at_tick w).plans ≡ plans_left left_ plans
  unfolding each
  beaten_plans plans same = λ i. plans_left (sym left_is i) (same i)

  -- Then mobs move, and players pick up what they can.
  module _ (new : ServerValue) (plans : Plans) (same : w.plans ≡ plans)
      (game : new.game.game ≡ pickups (mobs_moved plans left_))
      (settled : new.game.settled ≡ old.game.settled) (connections : new.connections ≡ cs)
      (listed : Good (grown old.game.game) → old.list.present ≡ pairs_of (grown old.game.game) →
      new.list.present ≡ pairs_of left_)
      (before : new.list.last ≡ old.list.last) (last : new.last ≡ old.last)
      (failed : new.failed ≡ old.failed) where
    parts_same : shown_parts old ≡ shown_parts new
    parts_same =
        let stays = leave_all_stays (filter (is_shut_in cs) ids) (grown old.game.game) in
        let settings = ap (λ (g : Game). g.settings) game
        ∙ (pickups_leave (mobs_moved plans left_)).settings ∙ (mobs_leave plans left_).settings
        ∙ ap (λ (g : Game). g.settings) leaves ∙ stays.settings in
        sym (λ i. record {
          players = before i;
          terrain = (settings i).terrain;
          edits = settled i;
        })

    game_is : new.game.game ≡ (at_tick w).game
    unfolding each
    game_is = game ∙ (λ i. pickups (mobs_moved (sym same i) (left_is i)))

    pub beaten_stands : StandsAmid new (at_tick w)
    unfolding each
    beaten_stands = record {
      works = failed ∙ s.works;
      game = game_is;
      last = last ∙ s.last ∙ sym (at_tick_last w);
      listed = listed (subst (λ (g : Game). Good (grown g)) (sym s.game) s.good.game)
          (s.listed ∙ ap pairs_of (sym s.game)) ∙ sym (pairs_kept plans left_)
          ∙ ap pairs_of (sym game ∙ game_is);
      each = λ k.
          let P : Parts → Option Sight → FinMap nat_cmp ConnectionValue → Option Link → Type 0 =
          λ parts o m l. Pair parts k (unread_of k (at_tick w)) o (get m k) l in
          subst (λ (parts : Parts). P parts (get (at_tick w).shown k) new.connections
          (get (at_tick w).links k)) parts_same
          (subst (λ m. P (shown_parts old) (get (at_tick w).shown k) m (get (at_tick w).links k))
          (sym connections)
          (subst (λ (o : Option Sight). P (shown_parts old) o cs (get (at_tick w).links k))
          (ap (λ m. get m k) (sym (at_tick_shown w)))
          (subst (P (shown_parts old) (get w.shown k) cs) (sym (each_links f (aged w) k))
          (at k))));
      good = at_tick_world w s.good;
      bare = bare_at_tick w s.bare;
    }

-- none that leaves, moves or picks up changes the age
pub grown_age : (cs : FinMap nat_cmp ConnectionValue) (ids : List ℕ) (plans : Plans)
    (g h left_ : Game) →
    h ≡ grown g → left_ ≡ dismissed cs ids h → g.age < 1000000000 →
    (pickups (mobs_moved plans left_)).age ≡ g.age + 1
grown_age cs ids plans g h left_ is leaves young =
    (pickups_leave (mobs_moved plans left_)).age ∙ (mobs_leave plans left_).age
    ∙ ap (λ (x : Game). x.age) leaves ∙ (leave_all_stays (filter (is_shut_in cs) ids) h).age
    ∙ ap (λ (x : Game). x.age) is ∙ within g.age young
  where
    within : (n : ℕ) → n < 1000000000 → older n ≡ n + 1
    within n lt = grind (arith, nat_tests)
