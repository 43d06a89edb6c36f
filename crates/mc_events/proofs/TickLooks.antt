-- What a tick looks at, client by client: columns are prepared for one after the other, then none of
-- their frames takes a look any more.
use Rattle.std.proofs.Common.{◌≡◌, ℕ, ◌+◌, ◌<◌, ◌≤◌, List, [], ◌∷◌, drop, length, get_or}
use Rattle.std.proofs.Common.{arith, refl, sym, subst, ap, ◌∙◌, inl, inr}
use Rattle.std.proofs.lemmas.Bool.{cases_eq}
use Rattle.std.proofs.lemmas.List.{drop_more}
use Rattle.std.proofs.lemmas.List.Sums.{sum_by-cons}
use Rattle.std.specs.Prelude.{Option, Some, None}
use Rattle.std.specs.List.{AllByRecursion, sum_by}
use Rattle.std.specs.Ordering.{nat_cmp}
use Rattle.std.specs.FinMap.{FinMap, get, insert, keys}
use Rattle.mc_land.specs.Places.{key_cmp}
use Rattle.mc_entities.specs.Folk.{FolkState}
use Rattle.mc_flush.specs.Encoding.{EncodedValue, with_entity_frames, with_lines}
use Rattle.mc_flush.specs.Seeing.{MarkValue}
use Rattle.mc_model.specs.Sight.{nothing_seen}
use Rattle.mc_model.specs.declared.player.Player.{Player}
use Rattle.mc_model.specs.Game.{Game}
use Rattle.mc_model.proofs.Maps.Lookups.{put_same, put_other}
use Rattle.mc_links.specs.Beating.{IsBeaten}
use Rattle.mc_links.specs.Kept.{ConnectionValue}
use Rattle.mc_play.specs.Kept.{GameValue}
use Rattle.mc_showing.specs.Ahead.{prepared}
use Rattle.mc_showing.specs.Looking.{cells_of, client_looks, looks_left, note_looks}
use Rattle.mc_showing.specs.Looking.{rest_looks, view_looks}
use Rattle.mc_showing.specs.Preparing.{Prepares}
use Rattle.mc_showing.proofs.AheadFacts.{Grows, IsAhead, ahead_stays, grows_itself, grows_onward}
use Rattle.mc_showing.proofs.AheadFacts.{none_left, prepared_ahead, prepared_grows}
use Rattle.mc_showing.proofs.LookFacts.{noted_within}
use Rattle.mc_events.specs.Looks.{AreMarked, AreShownSame, IsMarked, IsShownSame, all_prepared}
use Rattle.mc_events.specs.Looks.{of_client, over_clients, prepared_for, tick_looks}
use Rattle.mc_events.specs.Served.{Both, Each}
use Rattle.mc_events.proofs.Preparings.{nothing_left}

-- what was encoded of columns, with what was encoded of entities and what was said behind it
abbrev said_beside : EncodedValue → FolkState → List (List ℕ) → EncodedValue
said_beside encoded state texts = with_lines (with_entity_frames encoded state) texts

-- ---- numbers one after another

module _ (f : ℕ → ℕ) (ids : List ℕ) (i : ℕ) (lt : i < length ids) where
  -- at most what the next one takes was looked at
  pub looks_on : (now after total : ℕ) → now + sum_by f (drop i ids) ≤ total →
      after ≤ now + f (get_or ids i 0) → after + sum_by f (drop (i + 1) ids) ≤ total
  looks_on now after total all few =
      let whole : sum_by f (drop i ids) ≡ f (get_or ids i 0) + sum_by f (drop (i + 1) ids) =
      ap (sum_by f) (drop_more ids i 0 lt)
      ∙ sum_by-cons f (get_or ids i 0) (drop (i + 1) ids) in
      omega (arith, whole, all, few)

  pub looks_past : (now total : ℕ) → now + sum_by f (drop i ids) ≤ total →
      now + sum_by f (drop (i + 1) ids) ≤ total
  looks_past now total all = looks_on now now total all (omega arith)

  pub looks_within : (now after total : ℕ) → now + sum_by f (drop i ids) ≤ total →
      after ≤ now + f (get_or ids i 0) → after ≤ total
  looks_within now after total all few = omega (arith, looks_on now after total all few)

pub looks_left_over : (f : ℕ → ℕ) (ids : List ℕ) (now total : ℕ) →
    now + sum_by f ids ≤ total → now ≤ total
looks_left_over f ids now total all = omega (arith, all)

-- what the client of one connection takes, where it is there
pub client_within : (f : MarkValue → Option Player → ℕ) (g : Game) (m : FinMap nat_cmp ConnectionValue)
    (k now after : ℕ) (c : ConnectionValue) → get m k ≡ Some c →
    after ≤ now + f c.mark (get g.players c.id) → after ≤ now + of_client f g (get m k)
client_within f g m k now after c there few =
    let is : of_client f g (get m k) ≡ f c.mark (get g.players c.id) =
    ap (of_client f g) there in
    omega (arith, is, few)

-- likewise of a game of which more columns are ready
pub view_within : (v u : GameValue) (m : FinMap nat_cmp ConnectionValue) (k now after : ℕ)
    (c : ConnectionValue) → Prepares v u → get m k ≡ Some c →
    after ≤ now + view_looks u.settled u.game c.mark (get u.game.players c.id) →
    after ≤ now + of_client (view_looks v.settled v.game) v.game (get m k)
view_within v u m k now after c same there few =
    client_within (view_looks v.settled v.game) v.game m k now after c there
    (let is : view_looks u.settled u.game c.mark (get u.game.players c.id)
    ≡ view_looks v.settled v.game c.mark (get v.game.players c.id) =
    (λ i. view_looks (same.settled i) (same.game i) c.mark (get (same.game i).players c.id)) in
    omega (arith, is, few))

-- ---- what is encoded for one connection after the other

module _ (v : GameValue) (m : FinMap nat_cmp ConnectionValue) (ids : List ℕ) (i : ℕ) where
  abbrev Makes : ℕ → EncodedValue → EncodedValue → Type 0
  Makes j now total = all_prepared v.settled v.game m (drop j ids) now ≡ total

  module _ (lt : i < length ids) where
    next : (now new total : EncodedValue) →
        new ≡ prepared_for v.settled v.game (get m (get_or ids i 0)) now → Makes i now total →
        Makes (i + 1) new total
    next now new total put all =
        ap (all_prepared v.settled v.game m (drop (i + 1) ids)) put
        ∙ ap (λ (ks : List ℕ). all_prepared v.settled v.game m ks now)
        (sym (drop_more ids i 0 lt)) ∙ all

    pub prepared_on : (u : GameValue) (c : ConnectionValue) (now new total : EncodedValue) →
        Prepares v u → get m (get_or ids i 0) ≡ Some c →
        new ≡ prepared u.settled u.game c.mark (get u.game.players c.id) now →
        Makes i now total → Makes (i + 1) new total
    prepared_on u c now new total same there put =
        next now new total (put
        ∙ (λ j. prepared (same.settled j) (same.game j) c.mark (get (same.game j).players c.id)
        now)
        ∙ ap (λ (o : Option ConnectionValue). prepared_for v.settled v.game o now) (sym there))

    pub prepared_past : (now total : EncodedValue) → get m (get_or ids i 0) ≡ None →
        Makes i now total → Makes (i + 1) now total
    prepared_past now total none =
        next now now total
        (ap (λ (o : Option ConnectionValue). prepared_for v.settled v.game o now) (sym none))

  pub prepared_done : (now total : EncodedValue) → length ids ≤ i → Makes i now total →
      now ≡ total
  prepared_done now total le all =
      ap (λ (ks : List ℕ). all_prepared v.settled v.game m ks now) (sym (nothing_left i ids le))
      ∙ all

-- ---- then no look at columns is left

module _ (settled : FinMap key_cmp ℕ) (g : Game) (m : FinMap nat_cmp ConnectionValue) where
  -- what the client of a connection is sent of columns is encoded
  abbrev AheadIn : EncodedValue → Option ConnectionValue → Type 0
  AheadIn e None = Unit {0}
  AheadIn e (Some c) = IsAhead settled g c.mark e (get g.players c.id)

  one_ahead : (e : EncodedValue) (o : Option ConnectionValue) →
      AheadIn (prepared_for settled g o e) o
  one_ahead e None = tt
  one_ahead e (Some c) = prepared_ahead settled g c.mark (get g.players c.id) e

  one_stays : (old new : EncodedValue) (o : Option ConnectionValue) →
      Grows (cells_of settled g) old new → AheadIn old o → AheadIn new o
  one_stays old new None grows is = tt
  one_stays old new (Some c) grows is =
      ahead_stays settled g c.mark old new (get g.players c.id) grows is

  one_grows : (e : EncodedValue) (o : Option ConnectionValue) →
      Grows (cells_of settled g) e (prepared_for settled g o e)
  one_grows e None = grows_itself (cells_of settled g) e
  one_grows e (Some c) = prepared_grows settled g c.mark (get g.players c.id) e

  all_grow : (ks : List ℕ) (e : EncodedValue) →
      Grows (cells_of settled g) e (all_prepared settled g m ks e)
  all_grow [] e = grows_itself (cells_of settled g) e
  all_grow (k ∷ ks) e =
      let mid = prepared_for settled g (get m k) e in
      grows_onward (cells_of settled g) e mid (all_prepared settled g m ks mid)
      (one_grows e (get m k)) (all_grow ks mid)

  all_ahead : (ks : List ℕ) (e : EncodedValue) →
      AllByRecursion (λ (k : ℕ). AheadIn (all_prepared settled g m ks e) (get m k)) ks
  all_ahead [] e = tt
  all_ahead (k ∷ ks) e =
      let mid = prepared_for settled g (get m k) e in (
        one_stays mid (all_prepared settled g m ks mid) (get m k) (all_grow ks mid)
            (one_ahead e (get m k)),
        all_ahead ks mid,
      )

  abbrev notes_in : Option ConnectionValue → ℕ
  notes_in o = of_client (λ (mark : MarkValue) (p : Option Player). note_looks p) g o

  abbrev rest_in : EncodedValue → Option ConnectionValue → ℕ
  rest_in e o = of_client (rest_looks e settled g) g o

  rest_within : (e : EncodedValue) (o : Option ConnectionValue) → AheadIn e o →
      rest_in e o ≤ notes_in o
  rest_within e None is = omega arith
  rest_within e (Some c) is =
      let none : looks_left e settled g c.mark (get g.players c.id) ≡ 0 =
      none_left settled g c.mark e (get g.players c.id) is in
      omega (arith, none, noted_within g (get g.players c.id))

  all_within : (e : EncodedValue) (ks : List ℕ) →
      AllByRecursion (λ (k : ℕ). AheadIn e (get m k)) ks →
      sum_by (λ (k : ℕ). rest_in e (get m k)) ks ≤ sum_by (λ (k : ℕ). notes_in (get m k)) ks
  all_within e [] all = omega arith
  all_within e (k ∷ ks) all =
      omega (
        arith,
        sum_by-cons (λ (j : ℕ). rest_in e (get m j)) k ks,
        sum_by-cons (λ (j : ℕ). notes_in (get m j)) k ks,
        rest_within e (get m k) all.0,
        all_within e ks all.1,
      )

  -- columns and notes, client by client, are all
  both_in : (o : Option ConnectionValue) →
      of_client (client_looks settled g) g o ≡ of_client (view_looks settled g) g o + notes_in o
  both_in None = refl
  both_in (Some c) = refl

  both_sums : (ks : List ℕ) → sum_by (λ (k : ℕ). of_client (client_looks settled g) g (get m k)) ks
      ≡ sum_by (λ (k : ℕ). of_client (view_looks settled g) g (get m k)) ks
      + sum_by (λ (k : ℕ). notes_in (get m k)) ks
  both_sums [] = refl
  both_sums (k ∷ ks) =
      omega (
        arith,
        sum_by-cons (λ (j : ℕ). of_client (client_looks settled g) g (get m j)) k ks,
        sum_by-cons (λ (j : ℕ). of_client (view_looks settled g) g (get m j)) k ks,
        sum_by-cons (λ (j : ℕ). notes_in (get m j)) k ks,
        both_in (get m k),
        both_sums ks,
      )

  -- once all were prepared, the flushes look at what was noted alone
  pub round_within : (ids : List ℕ) (start encoded : EncodedValue) (state : FolkState)
      (texts : List (List ℕ)) (now mid after : ℕ) → ids ≡ keys m → encoded ≡ all_prepared settled g m ids start →
      mid ≤ now + over_clients (view_looks settled g) g m →
      after ≤ mid + over_clients (rest_looks (said_beside encoded state texts) settled g) g m →
      after ≤ now + tick_looks settled g m
  round_within ids start encoded state texts now mid after are is before behind =
      let made : encoded ≡ all_prepared settled g m (keys m) start =
      is ∙ ap (λ (ks : List ℕ). all_prepared settled g m ks start) are in
      let all : AllByRecursion (λ (k : ℕ). AheadIn encoded (get m k)) (keys m) =
      subst (λ (e : EncodedValue). AllByRecursion (λ (k : ℕ). AheadIn e (get m k)) (keys m))
      (sym made) (all_ahead (keys m) start) in
      let few : over_clients (rest_looks (said_beside encoded state texts) settled g) g m
      ≤ sum_by (λ (k : ℕ). notes_in (get m k)) (keys m) = all_within encoded (keys m) all in
      omega (arith, few, both_sums (keys m), before, behind)

  -- and where memory ran out before the flushes
  pub columns_within : (now mid : ℕ) → mid ≤ now + over_clients (view_looks settled g) g m →
      mid ≤ now + tick_looks settled g m
  columns_within now mid before = omega (arith, both_sums (keys m), before)

-- of a game of which more columns were made ready
pub round_done : (v u : GameValue) (m : FinMap nat_cmp ConnectionValue) (ids : List ℕ)
    (start encoded said : EncodedValue) (state : FolkState) (texts : List (List ℕ))
    (now mid after : ℕ) →
    Prepares v u → ids ≡ keys m →
    encoded ≡ all_prepared v.settled v.game m ids start → said ≡ said_beside encoded state texts →
    mid ≤ now + over_clients (view_looks v.settled v.game) v.game m →
    after ≤ mid + over_clients (rest_looks said u.settled u.game) u.game m →
    after ≤ now + tick_looks v.settled v.game m
round_done v u m ids start encoded said state texts now mid after same are is says before behind =
    let alike : over_clients (rest_looks said u.settled u.game) u.game m
    ≡ over_clients (rest_looks (said_beside encoded state texts) v.settled v.game) v.game m =
    (λ i. over_clients (rest_looks (says i) (same.settled i) (same.game i)) (same.game i) m) in
    round_within v.settled v.game m ids start encoded state texts now mid after are is before
    (omega (arith, alike, behind))

-- ---- the same marks

both_same : (f : MarkValue → Option Player → ℕ) (g : Game) (o n : Option ConnectionValue) →
    Both IsShownSame o n → of_client f g n ≡ of_client f g o
both_same f g None None both = refl
both_same f g (Some c) (Some d) both =
    λ i. f (both.mark i) (get g.players (both.id i))
both_same f g (Some c) None both = absurd both
both_same f g None (Some d) both = absurd both

sum_same : (f h : ℕ → ℕ) → ((k : ℕ) → f k ≡ h k) → (ks : List ℕ) → sum_by f ks ≡ sum_by h ks
sum_same f h same [] = refl
sum_same f h same (k ∷ ks) =
    omega (arith, sum_by-cons f k ks, sum_by-cons h k ks, same k, sum_same f h same ks)

-- where marks are as they were, a tick looks at no more cells of the same game
pub looks_same : (v : GameValue) (settled : FinMap key_cmp ℕ) (g : Game)
    (old new : FinMap nat_cmp ConnectionValue) → v.settled ≡ settled → v.game ≡ g →
    AreShownSame old new → tick_looks v.settled v.game new ≡ tick_looks settled g old
looks_same v settled g old new settles is same =
    (λ i. tick_looks (settles i) (is i) new)
    ∙ ap (sum_by (λ (k : ℕ). of_client (client_looks settled g) g (get new k))) same.same
    ∙ sum_same (λ (k : ℕ). of_client (client_looks settled g) g (get new k))
    (λ (k : ℕ). of_client (client_looks settled g) g (get old k))
    (λ k. both_same (client_looks settled g) g (get old k) (get new k) (same.each k)) (keys old)

-- a beat changes no mark
pub beaten_marks : (g : Game) (old new : FinMap nat_cmp ConnectionValue) →
    Each (λ (k : ℕ). IsBeaten g) old new → keys new ≡ keys old → AreShownSame old new
beaten_marks g old new beaten same = record {
  same = same;
  each = λ k. one (get old k) (get new k) (beaten k);
}
  where
    one : (o n : Option ConnectionValue) → Both (IsBeaten g) o n → Both IsShownSame o n
    one None None both = tt
    one (Some c) (Some d) both =
        let is = both (Some (record nothing_seen { beat = c.mark.beat })) refl in record {
          id = ap (λ (x : ConnectionValue). x.id) is;
          mark = ap (λ (x : ConnectionValue). x.mark) is;
        }
    one (Some c) None both = absurd both
    one None (Some d) both = absurd both

-- ---- nothing but marks and links changes in a round

pub marked_itself : (m : FinMap nat_cmp ConnectionValue) → AreMarked m m
marked_itself m k = one (get m k)
  where
    one : (o : Option ConnectionValue) → Both IsMarked o o
    one None = tt
    one (Some c) = refl

pub marked_on : (old mid : FinMap nat_cmp ConnectionValue) (k : ℕ) (c d : ConnectionValue) →
    AreMarked old mid → get mid k ≡ Some c → IsMarked c d → AreMarked old (insert mid k d)
marked_on old mid k c d so there is j = elim (cases_eq j k) [
  | inl same ↦ subst (λ (n : ℕ). Both IsMarked (get old n) (get (insert mid k d) n)) (sym same)
      (rw (put_same mid k d) (onward (get old k)
      (subst (λ (o : Option ConnectionValue). Both IsMarked (get old k) o) there (so k))))
  | inr ne ↦ rw (put_other mid k j d ne) (so j)
]
  where
    onward : (o : Option ConnectionValue) → Both IsMarked o (Some c) → Both IsMarked o (Some d)
    onward None both = absurd both
    onward (Some b) both = is ∙ (λ i. record (both i) { link = d.link; mark = d.mark })
