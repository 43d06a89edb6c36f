-- What a server that stands for a world has, and what joining and being forgotten make of both.
use Rattle.std.proofs.Common.{◌≡◌, ℕ, ◌+◌, Bool, true, false, List, [], ◌∷◌, map, length, refl, sym}
use Rattle.std.proofs.Common.{subst, ap, ◌∙◌, inl, inr, arith, ◌≤◌}
use Rattle.std.proofs.lemmas.Bool.{cases_eq}
use Rattle.std.proofs.lemmas.Bool.Decides.{nat_tests}
use Rattle.std.specs.Prelude.{Option, Some, None, is_some, option_map, nat_le, if◌then◌else◌}
use Rattle.std.specs.List.{filter}
use Rattle.std.specs.Ordering.{nat_cmp}
use Rattle.std.specs.FinMap.{empty, entries, from_entries, get, get-empty, insert, keys, remove}
use Rattle.std.specs.FinMap.{values, len-empty, len-entries}
use Rattle.std.proofs.lemmas.List.{length-take, nil_from_length}
use Rattle.mc_frame.proofs.Stops.{nothing_part}
use Rattle.mc_frame.specs.Held.{nothing_held}
use Rattle.mc_model.specs.Sight.{Sight}
use Rattle.mc_model.specs.Step.{forgot, is_new, joined, forget, is_crowded, joining, step}
use Rattle.mc_model.specs.Game.{AreSettings, Game, new_game}
use Rattle.mc_model.specs.Minds.{Plans, Start, plans_of}
use Rattle.mc_flush.specs.Seeing.{Parts}
use Rattle.mc_model.specs.declared.mobs.TheConstants.{MOBS_MAX}
use Rattle.mc_model.specs.declared.player.Player.{Player}
use Rattle.mc_model.specs.declared.settings.Settings.{Settings}
use Rattle.mc_model.specs.Link.{Link, is_done, is_kept}
use Rattle.mc_model.specs.World.{Unread, World, new_world, nothing_unread, unread_of}
use Rattle.mc_model.proofs.Maps.Lookups.{gone_other, gone_same, put_other, put_same}
use Rattle.mc_links.specs.Kept.{ConnectionValue, is_ours, is_pending, new_connection}
use Rattle.mc_links.specs.Sitting.{Holds}
use Rattle.mc_play.specs.Kept.{GameValue, IsNew}
use Rattle.mc_showing.proofs.Mapped.{entries_mapped, keyed, values_mapped}
use Rattle.mc_showing.specs.Shown.{pairs_of}
use Rattle.mc_events.specs.Asking.{ours_there, pending_in, pending_of}
use Rattle.mc_events.specs.Served.{ServerValue, shown_parts}
use Rattle.mc_events.specs.Stands.{IsLinked, IsReached, Pair, Stands}
use Rattle.mc_events.proofs.Absent.{reached_absent}
use Rattle.mc_events.proofs.Numbers.{same_keys}
use Rattle.mc_events.proofs.Reached.{reached_good, reached_next}

-- ---- links by connections

abbrev pub link_of : ConnectionValue → Link
link_of c = c.link

module _ (parts : Parts) (k : ℕ) (unread : Unread) (shown : Option Sight) where
  -- the link of a connection is the one that it stands for
  pub pair_link : (o : Option ConnectionValue) (p : Option Link) → Pair parts k unread shown o p →
      option_map link_of o ≡ p
  pair_link None None pair = refl
  pair_link None (Some l) pair = absurd pair
  pair_link (Some c) None pair = absurd pair
  pair_link (Some c) (Some l) pair = ap (λ (x : Link). Some x) pair.link

  -- nothing is there of one of which nothing is
  pub pair_none : (o : Option ConnectionValue) (p : Option Link) → Pair parts k unread shown o p →
      p ≡ None → o ≡ None
  pair_none None p pair none = refl
  pair_none (Some c) None pair none = absurd pair
  pair_none (Some c) (Some l) pair none = absurd cc

  pub pair_of_none : Pair parts k unread shown None None
  pair_of_none = tt

-- ---- lists of both

filter_mapped : {X Y : Type 0} (f : X → Y) (test : Y → Bool) (xs : List X) →
    length (filter test (map f xs)) ≡ length (filter (λ (x : X). test (f x)) xs)
filter_mapped f test [] = refl
filter_mapped f test (x ∷ xs) = grind (arith, nat_tests, filter_mapped f test xs)

-- those entries whose values pass a test, by what is made of the values
numbers_mapped : {X Y : Type 0} (f : X → Y) (test : Y → Bool) (es : List (ℕ × X)) →
    map (λ (e : ℕ × Y). e.0) (filter (λ (e : ℕ × Y). test e.1) (keyed f es))
    ≡ map (λ (e : ℕ × X). e.0) (filter (λ (e : ℕ × X). test (f e.1)) es)
numbers_mapped f test [] = refl
numbers_mapped f test (e ∷ es) = grind (arith, nat_tests, numbers_mapped f test es)

module _ {v : ServerValue} {w : World} (st : Stands v w) where
  pub linked : (k : ℕ) → option_map link_of (get v.connections k) ≡ get w.links k
  linked k = pair_link (shown_parts v) k (unread_of k w) (get w.shown k) (get v.connections k)
      (get w.links k) (st.each k)

  -- as many connections pass a test of links as links do
  pub counted : (test : Link → Bool) →
      length (filter (λ (c : ConnectionValue). test c.link) (values v.connections))
      ≡ length (filter test (values w.links))
  counted test = sym (filter_mapped link_of test (values v.connections))
      ∙ ap (λ (ls : List Link). length (filter test ls))
      (values_mapped link_of v.connections w.links linked)

  -- their numbers are the same
  pub same_numbers : keys v.connections ≡ keys w.links
  same_numbers = same_keys v.connections w.links (λ q.
      there (get v.connections q) ∙ ap is_some (linked q))
    where
      there : (o : Option ConnectionValue) → is_some o ≡ is_some (option_map link_of o)
      there None = refl
      there (Some c) = refl

  pub ours_are : length (filter (λ (c : ConnectionValue). is_ours c.link.cause)
      (values v.connections)) ≡ ours_there w
  ours_are = counted (λ (l : Link). is_ours l.cause)

  -- those that are owed bytes or closed are those of the links
  pub pending_are : pending_of (entries v.connections) ≡ pending_in w
  pending_are = sym (numbers_mapped link_of is_pending (entries v.connections))
      ∙ ap (λ (es : List (ℕ × Link)). map (λ (e : ℕ × Link). e.0)
      (filter (λ (e : ℕ × Link). is_pending e.1) es))
      (entries_mapped link_of v.connections w.links linked)

  -- too many are there where too many links are
  pub crowd_is : nat_le (v.game.game.settings.players + 16)
      (length (filter (λ (c : ConnectionValue). is_kept c.link) (values v.connections)))
      ≡ is_crowded w
  crowd_is =
      ap (λ (g : Game). nat_le (g.settings.players + 16)
      (length (filter (λ (c : ConnectionValue). is_kept c.link) (values v.connections)))) st.game
      ∙ ap (nat_le (w.game.settings.players + 16)) (counted (λ (l : Link). is_kept l))

-- ---- a new server

nobody_listed : (settings : Settings) (mobs : ℕ) → pairs_of (new_game settings mobs) ≡ empty
nobody_listed settings mobs =
    let none : entries (empty {X = Player} {R = nat_cmp}) ≡ [] =
    nil_from_length _ (sym (len-entries (empty {X = Player} {R = nat_cmp}))
    ∙ len-empty nat_cmp Player) in
    ap (λ (es : List (ℕ × Player)). from_entries {R = nat_cmp} (map (λ (p : Player).
    (p.uuid, p.name)) (map (λ (e : ℕ × Player). e.1) es))) none

pub new_stands : (settings : Settings) (mobs : ℕ) (game : GameValue) (plans : Plans) →
    AreSettings settings.players settings.cap → mobs ≤ MOBS_MAX → IsNew settings mobs game →
    length plans ≡ mobs → Stands (record {
      game = game;
      connections = empty;
      last = None;
      list = record { present = empty; last = empty };
      failed = false;
    }) (new_world (record { settings = settings; plans = plans }))
new_stands settings mobs game plans are few new count =
    let start : Start = record { settings = settings; plans = plans } in
    let taken = length-take MOBS_MAX plans in
    let all : length (plans_of start) ≡ mobs = omega (arith, taken, few, count) in
    record {
      works = refl;
      game = new.game ∙ ap (new_game settings) (sym all);
      last = refl;
      listed = sym (nobody_listed settings (length (plans_of start)));
      each = λ k.
          rw (get-empty {X = ConnectionValue} nat_cmp k, get-empty {X = Link} nat_cmp k) tt;
      reached = record { start = start; settings = are; events = []; bytes = tt; is = refl };
    }

-- ---- events

-- what is held of one of which nothing came
holds_nothing : Holds nothing_held nothing_unread
holds_nothing = record { held = refl; before = refl; fine = refl; part = nothing_part }

module _ {v : ServerValue} {w : World} (k : ℕ) (st : Stands v w) where
  -- one that may not join leaves all as it was
  pub old_stands : is_new k v.last ≡ false → Stands v (step w (joined k)).world
  unfolding step
  old_stands old = rw (ap (is_new k) (sym st.last) ∙ old) st

  pub joined_stands : {c : ConnectionValue} → is_new k v.last ≡ true →
      c ≡ record (new_connection k) { link = joining w } →
      Stands (record v { connections = insert v.connections k c; last = Some k })
      (step w (joined k)).world
  unfolding step
  joined_stands {c} new is =
      let w_new : is_new k w.last ≡ true = ap (is_new k) (sym st.last) ∙ new in
      let none : get w.links k ≡ None = (reached_good w st.reached).fresh k w_new in
      let absent = reached_absent w st.reached in
      let reached = reached_next w (joined k) tt st.reached in
      let goal : World → Type 0 = λ u. IsReached u → Stands
      (record v { connections = insert v.connections k c; last = Some k }) u in
      subst goal (ap (λ (b : Bool). if b
      then record w { last = Some k; links = insert w.links k (joining w) } else w) (sym w_new))
      (λ r. record {
        works = st.works;
        game = st.game;
        last = refl;
        listed = st.listed;
        each = λ j. elim (cases_eq j k) [
          | inl same ↦ subst (λ (i : ℕ). Pair (shown_parts v) i (unread_of i w) (get w.shown i)
              (get (insert v.connections k c) i) (get (insert w.links k (joining w)) i))
              (sym same) (rw (put_same v.connections k c, put_same w.links k (joining w))
              (comes c is (absent.unread k none) (absent.shown k none)))
          | inr ne ↦ rw (put_other v.connections k j c ne, put_other w.links k j (joining w) ne)
              (st.each j)
        ];
        reached = r;
      }) reached
    where
      comes : (d : ConnectionValue) → d ≡ record (new_connection k) { link = joining w } →
          get w.unread k ≡ None → get w.shown k ≡ None →
          IsLinked (shown_parts v) k (unread_of k w) (get w.shown k) d (joining w)
      comes d same unread shown = subst (λ (e : ConnectionValue).
          IsLinked (shown_parts v) k (unread_of k w) (get w.shown k) e (joining w)) (sym same)
          (rw (unread, shown) (record {
            id = refl;
            link = refl;
            remembers = λ open_. record { holds = holds_nothing; shows = refl };
          }))

  -- one that is there, but not closed and owed nothing, stays
  pub forgot_still : {c : ConnectionValue} → get v.connections k ≡ Some c →
      is_done c.link ≡ false → Stands v (step w (forgot k)).world
  unfolding step
  forgot_still {c} there still =
      let link : get w.links k ≡ Some c.link =
      sym (linked st k) ∙ ap (option_map link_of) there in
      rw (link, still) st

  pub forgot_none : get v.connections k ≡ None → Stands v (step w (forgot k)).world
  unfolding step
  forgot_none none =
      let link : get w.links k ≡ None = sym (linked st k) ∙ ap (option_map link_of) none in
      rw link st

  -- and one that is goes
  pub forgot_stands : {c : ConnectionValue} → get v.connections k ≡ Some c →
      is_done c.link ≡ true →
      Stands (record v { connections = remove v.connections k }) (step w (forgot k)).world
  unfolding step
  forgot_stands {c} there done =
      let link : get w.links k ≡ Some c.link =
      sym (linked st k) ∙ ap (option_map link_of) there in
      let reached = reached_next w (forgot k) tt st.reached in
      let goal : World → Type 0 = λ u. IsReached u → Stands
      (record v { connections = remove v.connections k }) u in
      subst goal (ap (forget w k) (sym link)) (subst goal (ap (λ (b : Bool). if b
      then record w {
        links = remove w.links k;
        unread = remove w.unread k;
        shown = remove w.shown k;
      } else w) (sym done)) (λ r. record {
        works = st.works;
        game = st.game;
        last = st.last;
        listed = st.listed;
        each = λ j. elim (cases_eq j k) [
          | inl same ↦ ap_none j same
          | inr ne ↦ rw (
            gone_other v.connections k j ne,
            gone_other w.links k j ne,
            gone_other w.unread k j ne,
            gone_other w.shown k j ne,
          ) (st.each j)
        ];
        reached = r;
      })) reached
    where
      ap_none : (j : ℕ) → j ≡ k → Pair (shown_parts v) j (unread_of j (record w {
        links = remove w.links k;
        unread = remove w.unread k;
        shown = remove w.shown k;
      })) (get (remove w.shown k) j) (get (remove v.connections k) j) (get (remove w.links k) j)
      ap_none j same = rw (same, gone_same v.connections k, gone_same w.links k) tt
