-- Players that leave, one after another by numbers of connections: those that have no player leave
-- nothing.
use Rattle.std.proofs.Common.{◌≡◌, ℕ, ◌+◌, ◌<◌, Bool, true, false, cond, T, List, [], ◌∷◌, drop}
use Rattle.std.proofs.Common.{get_or, length, map, refl, sym, subst, ap, ◌∙◌, inl, inr}
use Rattle.std.specs.Prelude.{◌==◌, Option, Some, None, is_some, nat_lt, option_map, if◌then◌else◌}
use Rattle.std.proofs.lemmas.Bool.{cases_eq}
use Rattle.std.proofs.lemmas.List.{drop_more}
use Rattle.std.specs.List.{filter}
use Rattle.std.specs.Cmp.{nat_cmp_total}
use Rattle.std.specs.Ordering.{eq_by_cmp, nat_cmp}
use Rattle.std.specs.FinMap.{FinMap, entries, entries_sorted, find, get, get-entries, is_sorted}
use Rattle.std.specs.FinMap.{keys, nat_cmp-IsAntisymmetric, remove}
use Rattle.std.specs.FinMap.Entries.{find-where_key, is_sorted-where_key, same_entries, where_key}
use Rattle.mc_flush.specs.Lists.{ListValue, without_name}
use Rattle.mc_model.specs.Delta.{Pairs}
use Rattle.mc_told.proofs.Rising.{rising, sorted_is}
use Rattle.mc_model.specs.declared.player.Player.{Player}
use Rattle.mc_model.specs.Deeds.{go_of}
use Rattle.mc_model.specs.Game.{Game, room_in}
use Rattle.mc_model.specs.Good.{Good}
use Rattle.mc_model.specs.Leaving.{leave, leave_all}
use Rattle.mc_model.specs.Windows.{shut}
use Rattle.mc_laws.proofs.Deeds.Leaving.{leave_all_good, leave_cases, leave_nobody, leave_other}
use Rattle.mc_laws.proofs.Deeds.Leaving.{Stays, leave_all_stays, leave_same}
use Rattle.mc_laws.proofs.Deeds.Shutting.{closed, shut_good, shut_here, shut_players}
use Rattle.mc_laws.proofs.EachValue.{only}
use Rattle.mc_links.specs.Kept.{ConnectionValue}
use Rattle.mc_play.specs.Kept.{GameValue, played}
use Rattle.mc_showing.specs.Shown.{pairs_of}
use Rattle.mc_showing.proofs.PairFacts.{pairs_alike, pairs_left}
use Rattle.mc_events.specs.Ticking.{dismissed, is_shut_in}

-- ---- the keys of two maps

-- entries whose values are nothing
abbrev bare : {X : Type 0} → List (ℕ × X) → List (ℕ × Unit {0})
bare {X} es = map (λ (e : ℕ × X). (e.0, tt)) es

bare_keys : {X : Type 0} (es : List (ℕ × X)) →
    map (λ (e : ℕ × X). e.0) es ≡ map (λ (e : ℕ × Unit {0}). e.0) (bare es)
bare_keys [] = refl
bare_keys (e ∷ es) = ap (λ (ks : List ℕ). e.0 ∷ ks) (bare_keys es)

bare_sorted : {X : Type 0} (es : List (ℕ × X)) → T (is_sorted nat_cmp es) →
    T (is_sorted nat_cmp (bare es))
bare_sorted es = subst T (sorted_is nat_cmp es ∙ ap (rising nat_cmp) (bare_keys es)
    ∙ sym (sorted_is nat_cmp (bare es)))

abbrev some_bare : Bool → Option (Unit {0})
some_bare true = Some tt
some_bare false = None

bare_found : {X : Type 0} (q : ℕ) (es : List (ℕ × X)) →
    find nat_cmp q (bare es) ≡ some_bare (is_some (find nat_cmp q es))
bare_found q [] = refl
bare_found {X} q (e ∷ es) = step (eq_by_cmp nat_cmp q e.0) (bare_found q es)
  where
    step : (b : Bool) → find nat_cmp q (bare es) ≡ some_bare (is_some (find nat_cmp q es)) →
        cond b (Some tt) (find nat_cmp q (bare es))
        ≡ some_bare (is_some (cond b (Some e.1) (find nat_cmp q es)))
    step true rest = refl
    step false rest = rest

-- sorted entries of the same keys
same_firsts : {X Y : Type 0} (es : List (ℕ × X)) (fs : List (ℕ × Y)) →
    T (is_sorted nat_cmp es) → T (is_sorted nat_cmp fs) →
    ((q : ℕ) → is_some (find nat_cmp q es) ≡ is_some (find nat_cmp q fs)) →
    map (λ (e : ℕ × X). e.0) es ≡ map (λ (e : ℕ × Y). e.0) fs
same_firsts es fs sorted too same =
    bare_keys es
    ∙ ap (map (λ (e : ℕ × Unit {0}). e.0))
    (same_entries nat_cmp nat_cmp_total nat_cmp-IsAntisymmetric (bare es) (bare fs)
    (bare_sorted es sorted) (bare_sorted fs too)
    (λ q. bare_found q es ∙ ap some_bare (same q) ∙ sym (bare_found q fs)))
    ∙ sym (bare_keys fs)

filtered_keys : {X : Type 0} (test : ℕ → Bool) (es : List (ℕ × X)) →
    map (λ (e : ℕ × X). e.0) (where_key nat_cmp test es)
    ≡ filter test (map (λ (e : ℕ × X). e.0) es)
filtered_keys test [] = refl
filtered_keys {X} test (e ∷ es) = step (test e.0) (filtered_keys test es)
  where
    step : (b : Bool) → map (λ (f : ℕ × X). f.0) (where_key nat_cmp test es)
        ≡ filter test (map (λ (f : ℕ × X). f.0) es) →
        map (λ (f : ℕ × X). f.0) (cond b (e ∷ where_key nat_cmp test es)
        (where_key nat_cmp test es))
        ≡ cond b (e.0 ∷ filter test (map (λ (f : ℕ × X). f.0) es))
        (filter test (map (λ (f : ℕ × X). f.0) es))
    step true rest = ap (λ (ks : List ℕ). e.0 ∷ ks) rest
    step false rest = rest

-- a map whose keys are those of another that pass a test
pub keys_among : {X Y : Type 0} (test : ℕ → Bool) (m : FinMap nat_cmp X) (n : FinMap nat_cmp Y) →
    ((q : ℕ) → is_some (get m q) ≡ cond (test q) (is_some (get n q)) false) →
    keys m ≡ filter test (keys n)
keys_among {X} {Y} test m n same =
    same_firsts (entries m) (where_key nat_cmp test (entries n)) (entries_sorted m)
    (is_sorted-where_key nat_cmp test (entries n) (entries_sorted n))
    (λ q. ap is_some (sym (get-entries m q)) ∙ same q
    ∙ ap (λ (o : Option Y). cond (test q) (is_some o) false) (get-entries n q)
    ∙ chosen (test q) (find nat_cmp q (entries n))
    ∙ ap is_some (sym (find-where_key nat_cmp test q
    (λ x t. ap test (sym (nat_cmp-IsAntisymmetric q x t))) (entries n))))
    ∙ filtered_keys test (entries n)
  where
    chosen : (b : Bool) (o : Option Y) → cond b (is_some o) false ≡ is_some (cond b o None)
    chosen true o = refl
    chosen false o = refl

-- ---- leaving

-- who has a player in one game has one in another
abbrev Fewer : Game → Game → Type 0
Fewer g h = (k : ℕ) → is_some (get g.players k) ≡ false → get h.players k ≡ None

fewer_left : (g h : Game) (k : ℕ) → Fewer g h → Fewer g (leave k h)
fewer_left g h k fewer j none = elim (cases_eq j k) [
  | inl same ↦ subst (λ (n : ℕ). get (leave n h).players j ≡ None) same (leave_same j h)
  | inr ne ↦ leave_other k j h ne ∙ fewer j none
]

abbrev has_player : Game → ℕ → Bool
has_player g k = is_some (get g.players k)

-- those without a player leave nothing
leave_those : (test : ℕ → Bool) (ks : List ℕ) (g h : Game) → Fewer g h →
    leave_all (filter test ks) h ≡ leave_all (filter test (filter (has_player g) ks)) h
leave_those test [] g h fewer = refl
leave_those test (k ∷ ks) g h fewer =
    step (has_player g k) refl (test k) refl (leave_those test ks g h fewer)
    (leave_those test ks g (leave k h) (fewer_left g h k fewer))
  where
    step : (has : Bool) → has_player g k ≡ has → (b : Bool) → test k ≡ b →
        leave_all (filter test ks) h ≡ leave_all (filter test (filter (has_player g) ks)) h →
        leave_all (filter test ks) (leave k h)
        ≡ leave_all (filter test (filter (has_player g) ks)) (leave k h) →
        leave_all (cond b (k ∷ filter test ks) (filter test ks)) h
        ≡ leave_all (filter test (cond has (k ∷ filter (has_player g) ks)
        (filter (has_player g) ks))) h
    step true is true t stays goes = goes
        ∙ ap (λ (b : Bool). leave_all (cond b (k ∷ filter test (filter (has_player g) ks))
        (filter test (filter (has_player g) ks))) h) (sym t)
    step true is false t stays goes = stays
        ∙ ap (λ (b : Bool). leave_all (cond b (k ∷ filter test (filter (has_player g) ks))
        (filter test (filter (has_player g) ks))) h) (sym t)
    step false none true t stays goes =
        ap (leave_all (filter test ks)) (leave_nobody k h (fewer k none)) ∙ stays
    step false none false t stays goes = stays

none_fewer : (g : Game) → Fewer g g
none_fewer g k none = step (get g.players k) none
  where
    step : {X : Type 0} (o : Option X) → is_some o ≡ false → o ≡ None
    step None is = refl
    step (Some p) is = absurd cc

-- of all numbers of a map that has one for each player, and of the players' alone
pub leave_among : {X : Type 0} (test : ℕ → Bool) (g : Game) (m : FinMap nat_cmp X) →
    ((k : ℕ) → is_some (get g.players k) ≡ true → is_some (get m k) ≡ true) →
    leave_all (filter test (keys m)) g ≡ leave_all (filter test (keys g.players)) g
leave_among test g m has =
    leave_those test (keys m) g g (none_fewer g)
    ∙ ap (λ (ks : List ℕ). leave_all (filter test ks) g)
    (sym (keys_among (has_player g) g.players m (λ k. there (is_some (get g.players k))
    (is_some (get m k)) (has k))))
  where
    there : (a b : Bool) → (a ≡ true → b ≡ true) → a ≡ cond a b false
    there true b is = sym (is refl)
    there false b is = refl

-- ---- one after another

module _ (cs : FinMap nat_cmp ConnectionValue) where
  pub dismissed_none : (k : ℕ) (g : Game) → get g.players k ≡ None →
      dismissed cs (k ∷ []) g ≡ g
  dismissed_none k g none = step (is_shut_in cs k)
    where
      step : (b : Bool) → leave_all (cond b (k ∷ []) []) g ≡ g
      step true = leave_nobody k g none
      step false = refl

  dismissed_first : (k : ℕ) (ks : List ℕ) (g : Game) →
      dismissed cs (k ∷ ks) g ≡ dismissed cs ks (dismissed cs (k ∷ []) g)
  dismissed_first k ks g = step (is_shut_in cs k)
    where
      step : (b : Bool) →
          leave_all (cond b (k ∷ filter (is_shut_in cs) ks) (filter (is_shut_in cs) ks)) g
          ≡ leave_all (filter (is_shut_in cs) ks) (leave_all (cond b (k ∷ []) []) g)
      step true = refl
      step false = refl

  pub dismissed_next : (ids : List ℕ) (i : ℕ) (start v n : GameValue) → i < length ids →
      played v (dismissed cs (drop i ids) v.game) v.aside
      ≡ played start (dismissed cs ids start.game) v.aside →
      n ≡ played v (dismissed cs (get_or ids i 0 ∷ []) v.game) n.aside →
      played n (dismissed cs (drop (i + 1) ids) n.game) n.aside
      ≡ played start (dismissed cs ids start.game) n.aside
  dismissed_next ids i start v n lt so made =
      let game : dismissed cs (drop (i + 1) ids) n.game ≡ dismissed cs ids start.game =
      ap (λ (x : GameValue). dismissed cs (drop (i + 1) ids) x.game) made
      ∙ sym (dismissed_first (get_or ids i 0) (drop (i + 1) ids) v.game)
      ∙ ap (λ (ks : List ℕ). dismissed cs ks v.game) (sym (drop_more ids i 0 lt))
      ∙ ap (λ (x : GameValue). x.game) so in
      let settled : n.settled ≡ start.settled =
      ap (λ (x : GameValue). x.settled) made ∙ ap (λ (x : GameValue). x.settled) so in
      λ j. record { game = game j; settled = settled j; aside = n.aside }

  pub dismissed_stays : (ks : List ℕ) (g : Game) → Stays g (dismissed cs ks g)
  dismissed_stays ks g = leave_all_stays (filter (is_shut_in cs) ks) g

  pub dismissed_good : (ks : List ℕ) (v n : GameValue) →
      n ≡ played v (dismissed cs ks v.game) n.aside → Good v.game → Good n.game
  dismissed_good ks v n made good = subst Good (ap (λ (x : GameValue). x.game) (sym made))
      (leave_all_good (filter (is_shut_in cs) ks) v.game good)

-- closing a window changes neither identifiers nor names
shut_pairs : (k : ℕ) (p : Player) (g : Game) → pairs_of (shut k p g) ≡ pairs_of g
shut_pairs k p g = pairs_alike g (shut k p g) (λ j.
    ap (option_map pair) (shut_players k p g j) ∙ same j (get g.players j))
  where
    pair : Player → ℕ × List ℕ
    pair q = (q.uuid, q.name)

    room : Bool
    room = nat_lt 0 (room_in g)

    same : (j : ℕ) (o : Option Player) →
        option_map pair (option_map (only k (closed room) j) o) ≡ option_map pair o
    same j None = refl
    same j (Some q) = one (j == k)
      where
        one : (b : Bool) → Some (pair (if b then closed room q else q)) ≡ Some (pair q)
        one true = refl
        one false = refl

-- the list without a player that left
pub listed_left : (g h : Game) (k : ℕ) (p : Player) (list new : ListValue) → Good g →
    list.present ≡ pairs_of g → get g.players k ≡ Some p → new ≡ without_name list p.uuid →
    h ≡ leave k g → new.present ≡ pairs_of h
listed_left g h k p list new good was there made left =
    ap (λ (l : ListValue). l.present) made
    ∙ ap (λ (ps : Pairs). remove ps p.uuid) was
    ∙ leave_cases k g (λ (v : Game). remove (pairs_of g) p.uuid ≡ pairs_of v)
    (λ none. let clash : ◌≡◌ {A = Option Player} None (Some p) = sym none ∙ there in absurd cc)
    (λ q here.
    let both : Some p ≡ Some q = sym there ∙ here in
    let same : p ≡ q = cc in
    let v : Game = shut k q g in
    let shown : Player = closed (nat_lt 0 (room_in g)) q in
    let plays : get v.players k ≡ Some shown = shut_here k q g here in
    let w : Good v = shut_good k q g here good in
    ap (λ (x : Player). remove (pairs_of g) x.uuid) same
    ∙ ap (λ (ps : Pairs). remove ps q.uuid) (sym (shut_pairs k q g))
    ∙ sym (pairs_left v (go_of k q v) k shown refl plays
    (λ j o other ne. (w.apart j k o shown other plays ne).uuid)))
    ∙ ap pairs_of (sym left)
