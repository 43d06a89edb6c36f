-- What is to be shown of a game can be told by packets, and follows what was shown of an earlier
-- one.
use Rattle.std.proofs.Common.{◌≡◌, ℕ, ◌<◌, ◌≤◌, true, List, [], ◌∷◌, ◌++◌, map, Some, None}
use Rattle.std.proofs.Common.{refl, sym, ap, ◌∙◌, inl, inr, arith, drop}
use Rattle.std.specs.Prelude.{◌⊎◌, ◌<ℤ◌, is_some, unsigned_abs}
use Rattle.std.specs.List.{All, AllByRecursion, filter}
use Rattle.std.specs.declared.cmp.Ordering.{Ordering}
use Rattle.std.specs.Ordering.{int_cmp}
use Rattle.std.specs.Cmp.{int_cmp_total}
use Rattle.std.specs.FinMap.{IsAntisymmetric, find, get, get-empty, get-from_entries}
use Rattle.std.specs.FinMap.{int_cmp-IsAntisymmetric}
use Rattle.std.proofs.lemmas.Bool.Decides.{nat_tests}
use Rattle.std.proofs.lemmas.Int.{ints}
use Rattle.std.proofs.lemmas.List.{length-map}
use Rattle.std.proofs.lemmas.List.FromFn.{length-map-range_with_len, get_or-map-range_with_len}
use lib.IntN.{ℤ, pos}
use lib.Signed.{◌≤ℤ◌}
use Rattle.mc_slots.specs.Pile.{slot_of}
use Rattle.mc_column.specs.Cells.{ColumnValue, HasSizes}
use Rattle.mc_land.specs.declared.terrain.Terrain.{Terrain}
use Rattle.mc_land.specs.Land.{biomes_of}
use Rattle.mc_land.specs.Places.{Place, place_cmp}
use Rattle.mc_land.proofs.Orders.{exact_places, places_total}
use Rattle.mc_entities.specs.declared.entity.Entity.{Entity}
use Rattle.mc_entities.specs.declared.entity.EntityKind.{EntityKind}
use Rattle.mc_entities.specs.declared.entity.EntityKind.TheVariants as kinds
use Rattle.mc_model.specs.declared.seen.SeenKind.{SeenKind}
use Rattle.mc_model.specs.declared.player.Player.{Player}
use Rattle.mc_model.specs.Sight.{Seen, Sight, nothing_seen, others, seen_as, seen_of}
use Rattle.mc_model.specs.Delta.{Follows, IsSeen, IsTold}
use Rattle.mc_model.specs.Replica.{is_32_bits}
use Rattle.mc_model.specs.Game.{Game, column_in, is_in_sight, pack_of, view_in}
use Rattle.mc_model.specs.Showing.{sight_of}
use Rattle.mc_model.specs.Good.{GoodWorld}
use Rattle.mc_model.specs.Fitting.{EntityFits, GivenKinds, Told, kind_seen}
use Rattle.mc_model.specs.World.{World}
use Rattle.mc_model.proofs.AllFacts.{all_filtered, all_mapped}
use Rattle.mc_model.proofs.Lasting.{Since}
use Rattle.mc_laws.proofs.Deeds.Packs.{named_is_pack}
use Rattle.mc_laws.proofs.Fits.Told.{state_small}
use Rattle.mc_laws.proofs.Fits.Windows.{window_told}

-- ---- columns

-- what is found among entries that are made of their keys is made of the key that is sought
found_made : {K X : Type 0} (R : K → K → Ordering) → IsAntisymmetric R →
    (f : K → X) (q : K) (keys : List K) (v : X) →
    find R q (map (λ k. (k, f k)) keys) ≡ Some v → v ≡ f q
found_made R same f q [] v found = absurd cc
found_made {X = X} R same f q (k ∷ ks) v found =
    grind (arith, nat_tests, found_made R same f q ks v)

-- a column that is shown is that of the game
pub shown_column : (g : Game) (p : Player) (last : Sight) (place : Place) (column : ColumnValue) →
    get (sight_of g p last).columns place ≡ Some column → column ≡ column_in g place
unfolding sight_of
shown_column g p last place column found =
    found_made place_cmp exact_places (column_in g) place (view_in g p) column
    (sym (get-from_entries places_total
    (map (λ (q : Place). (q, column_in g q)) (view_in g p)) place) ∙ found)

-- each column has all its cells
pub column_sizes : (g : Game) (place : Place) → HasSizes (column_in g place)
column_sizes g place = grind (arith, nat_tests, length-map-range_with_len)

-- and each state of them has 16 bits
pub column_small : (g : Game) (place : Place) → Told g →
    All (λ state. state < 65536) (column_in g place).states
column_small g place t k d less =
    grind (arith, nat_tests, length-map-range_with_len, get_or-map-range_with_len, state_small)

-- ---- entities

-- what holds of all entries holds of one that is found
found_row : {K X : Type 0} (R : K → K → Ordering) → IsAntisymmetric R → (P : K × X → Type 0)
    (q : K) (es : List (K × X)) (v : X) → AllByRecursion P es → find R q es ≡ Some v → P (q, v)
found_row R same P q [] v a found = absurd cc
found_row {X = X} R same P q (e ∷ es) v a found =
    grind (arith, nat_tests, found_row R same P q es v a.1)

-- the entities that a player sees
abbrev pub in_sight : Game → Player → List Entity
in_sight g p = filter (is_in_sight g p) (others (pos p.eid) g.entities)

pub in_sight_fit : (g : Game) (p : Player) → Told g → AllByRecursion EntityFits (in_sight g p)
in_sight_fit g p t = all_filtered EntityFits (is_in_sight g p) (others (pos p.eid) g.entities)
    (all_filtered EntityFits _ g.entities t.fits)

-- what holds of all entities, and so of the row that each is seen as, holds of each that is shown
shown_holds : (P : Entity → Type 0) (Q : ℤ × Seen → Type 0) (g : Game) (p : Player) (last : Sight)
    (eid : ℤ) (e : Seen) →
    ((x : Entity) → P x → Q (seen_of x)) →
    AllByRecursion P g.entities → get (sight_of g p last).entities eid ≡ Some e → Q (eid, e)
unfolding sight_of
shown_holds P Q g p last eid e row all found =
    found_row int_cmp int_cmp-IsAntisymmetric Q eid (map seen_of (in_sight g p)) e
    (all_mapped P Q seen_of row (in_sight g p)
    (all_filtered P (is_in_sight g p) (others (pos p.eid) g.entities)
    (all_filtered P _ g.entities all)))
    (sym (get-from_entries int_cmp_total (map seen_of (in_sight g p)) eid) ∙ found)

-- numbers of a spot are within 32 bits
in_32_bits : (n : ℤ) → unsigned_abs n ≤ 960000016 → is_32_bits n ≡ true
in_32_bits n small = grind (arith, nat_tests)

-- an entity that fits is seen where packets can tell it
seen_told : (e : Entity) (kind : EntityKind) → EntityFits e → IsSeen (seen_as e kind).1
seen_told e kind fits = grind (arith, nat_tests, in_32_bits)

-- ---- what packets can tell

pub sight_told : (w : World) (k : ℕ) (p : Player) (last : Sight) → GoodWorld w →
    get w.game.players k ≡ Some p → IsTold (sight_of w.game p last)
unfolding sight_of
sight_told w k p last good there =
    let g = w.game in
    let t = good.told in
    let pack = named_is_pack g p.name good.game in
    record {
      sizes = λ place column found.
          rw (shown_column g p last place column found) (column_sizes g place);
      states = λ place column found.
          rw (shown_column g p last place column found) (column_small g place t);
      entities = λ eid e found.
          shown_holds EntityFits (λ (row : ℤ × Seen). IsSeen row.1) g p last eid e
          (λ x fits. seen_told x x.kind fits) t.fits found;
      window = λ window is. window_told g p window good.chests good.windows
          (good.windows.shown k p there) is;
      pack = length-map (pack_of g p).slots slot_of ∙ pack.size;
    }

-- ---- one after another

-- what holds of an entity's number and of what it is seen as holds of the row
seen_kind : (P : ℤ → SeenKind → Type 0) (e : Entity) (kind : EntityKind) →
    P e.eid (kind_seen kind) → P (seen_as e kind).0 (seen_as e kind).1.kind
seen_kind P e (kinds.Player uuid held) holds = holds
seen_kind P e (kinds.Dropped item born) holds = holds
seen_kind P e kinds.Mob holds = holds

shown_kind : (P : ℤ → SeenKind → Type 0) (g : Game) (p : Player) (last : Sight) (eid : ℤ)
    (e : Seen) → AllByRecursion (λ (x : Entity). P x.eid (kind_seen x.kind)) g.entities →
    get (sight_of g p last).entities eid ≡ Some e → P eid e.kind
shown_kind P g p last eid e all found =
    shown_holds (λ (x : Entity). P x.eid (kind_seen x.kind))
    (λ (row : ℤ × Seen). P row.0 row.1.kind) g p last eid e
    (λ x holds. seen_kind P x x.kind holds) all found

-- how many numbers were given in a game, and the kind of each
abbrev pub kinds_of : (g : Game) → Told g → GivenKinds
kinds_of g t = record { given = g.eids; kind_at = t.kinds.kind_at }

-- a game is a later one: each entity is of the kind that it was of, if it was there
abbrev pub LaterThan : (g : Game) → Told g → Game → Type 0
LaterThan g t v = Since (kinds_of g t) v.eids v.entities

-- an entity that is shown of a game and of a later one is of one kind in both
kinds_stay : (g v : Game) (p q : Player) (a b : Sight) (t : Told g) → LaterThan g t v →
    (eid : ℤ) (old new : Seen) → get (sight_of g p a).entities eid ≡ Some old →
    get (sight_of v q b).entities eid ≡ Some new → old.kind ≡ new.kind
kinds_stay g v p q a b t later eid old new was is =
    let known : GivenKinds = kinds_of g t in
    let before = shown_kind
    (λ n kind. (n ≤ℤ pos known.given) × (kind ≡ known.kind_at n)) g p a eid old
    t.kinds.entities was in
    let after = shown_kind
    (λ n kind. (pos known.given <ℤ n) ⊎ (kind ≡ known.kind_at n)) v q b eid new
    later.entities is in
    elim after [
      | inl above ↦ (let low = before.0 in absurd (omega (arith, ints, low, above)))
      | inr same ↦ before.1 ∙ sym same
    ]

pub sight_beat : (g : Game) (p : Player) (last : Sight) →
    is_some (sight_of g p last).beat ≡ true
unfolding sight_of
sight_beat g p last = refl

pub sight_age : (g : Game) (p : Player) (last : Sight) → is_some (sight_of g p last).age ≡ true
unfolding sight_of
sight_age g p last = refl

pub sight_chat : (g : Game) (p : Player) (last : Sight) →
    (sight_of g p last).chat ≡ last.chat ++ drop p.since g.lines
unfolding sight_of
sight_chat g p last = refl

-- the sight of a later game of one land follows that of an earlier one
pub sight_follows : (g v : Game) (p q : Player) (last : Sight) (t : Told g) →
    IsTold (sight_of g p last) → IsTold (sight_of v q (sight_of g p last)) →
    g.settings.terrain ≡ v.settings.terrain → LaterThan g t v →
    Follows (sight_of g p last) (sight_of v q (sight_of g p last))
sight_follows g v p q last t old new terrain later = record {
  old = old;
  new = new;
  biomes = λ place old new was is.
      ap (λ (c : ColumnValue). c.biomes) (shown_column g p last place old was)
      ∙ ap (λ (land : Terrain). biomes_of land place) terrain
      ∙ sym (ap (λ (c : ColumnValue). c.biomes)
      (shown_column v q (sight_of g p last) place new is));
  kinds = kinds_stay g v p q last (sight_of g p last) t later;
  beat = sight_beat v q (sight_of g p last);
  age = sight_age v q (sight_of g p last);
  chat = (drop q.since v.lines, sight_chat v q (sight_of g p last));
}

nothing_told : IsTold nothing_seen
nothing_told = record {
  sizes = λ place column found. let none : get nothing_seen.columns place ≡ None =
      get-empty place_cmp place in absurd cc;
  states = λ place column found. let none : get nothing_seen.columns place ≡ None =
      get-empty place_cmp place in absurd cc;
  entities = λ eid e found. let none : get nothing_seen.entities eid ≡ None =
      get-empty int_cmp eid in absurd cc;
  window = λ w is. absurd cc;
  pack = refl;
}

-- and each follows nothing
pub nothing_follows : (v : Game) (q : Player) → IsTold (sight_of v q nothing_seen) →
    Follows nothing_seen (sight_of v q nothing_seen)
nothing_follows v q told = record {
  old = nothing_told;
  new = told;
  biomes = λ place old new was is. let none : get nothing_seen.columns place ≡ None =
      get-empty place_cmp place in absurd cc;
  kinds = λ eid old new was is. let none : get nothing_seen.entities eid ≡ None =
      get-empty int_cmp eid in absurd cc;
  beat = sight_beat v q nothing_seen;
  age = sight_age v q nothing_seen;
  chat = (drop q.since v.lines, sight_chat v q nothing_seen);
}
