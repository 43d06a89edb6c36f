-- What is due to a client at a tick is packets that it decodes.
use Rattle.std.proofs.Common.{◌≡◌, ℕ, ◌+◌, ◌^◌, ◌≤◌, ◌<◌, Bool, true, false, cond, List}
use Rattle.std.proofs.Common.{[], ◌∷◌, ◌++◌, map, length, Option, Some, refl, sym, subst, ap, T}
use Rattle.std.proofs.Common.{◌∙◌, arith, drop}
use Rattle.std.specs.Prelude.{is_some, not, unsigned_abs}
use Rattle.std.specs.Int.{w32}
use Rattle.std.specs.List.{AllByRecursion}
use Rattle.std.specs.Ordering.{eq_by_cmp, int_cmp, int_eq, nat_cmp}
use Rattle.std.specs.Cmp.{int_cmp_total, nat_cmp_total}
use Rattle.std.specs.FinMap.{FinMap, entries}
use Rattle.std.specs.FinMap.{entries_sorted, find, get, get-entries}
use Rattle.std.specs.FinMap.{int_cmp-IsAntisymmetric, is_sorted, len, len-entries}
use Rattle.std.specs.FinMap.{nat_cmp-IsAntisymmetric, values}
use Rattle.std.proofs.lemmas.Bool.Decides.{nat_tests}
use Rattle.std.proofs.lemmas.Int.{ints}
use Rattle.std.proofs.lemmas.List.{length-map}
use Rattle.std.proofs.lemmas.List.Elements.{Contains-get_or, recursion_from_All}
use lib.IntN.{ℤ, pos, negsuc}
use lib.Signed.{◌≤ℤ◌}
use mir.Val.{SFits}
use Rattle.mc_slots.specs.Pile.{slot_of}
use Rattle.mc_packets.specs.declared.down.Down.{Down}
use Rattle.mc_land.specs.Places.{Place, place_cmp}
use Rattle.mc_land.proofs.Orders.{exact_places, places_total}
use Rattle.mc_entities.specs.declared.entity.Entity.{Entity}
use Rattle.mc_entities.specs.declared.entity.EntityKind.{EntityKind}
use Rattle.mc_entities.specs.Folk.{eid_of}
use Rattle.mc_entities.specs.Kinds.{IsKind}
use Rattle.mc_view.specs.declared.view_set.TheConstants.{MIDDLE_BORDER}
use Rattle.mc_view.specs.Views.{column_of_spot, is_in_view, view_of, view_size}
use Rattle.mc_view.proofs.Near.{near_both}
use Rattle.mc_model.specs.declared.ticks.TheConstants.{AGE_MAX}
use Rattle.mc_model.specs.declared.player.Player.{Player}
use Rattle.mc_model.specs.Delta.{delta}
use Rattle.mc_model.specs.Packets.{for_play, of_play}
use Rattle.mc_model.specs.Sight.{Seen, Sight, others, seen_as, seen_of}
use Rattle.mc_model.specs.Opening.{level, opening_of}
use Rattle.mc_model.specs.Notes.{confirm_packet, noted_packets, notes_of}
use Rattle.mc_model.specs.Game.{AreSettings, Game, chest_of, column_in, pack_of, players_of, sees}
use Rattle.mc_model.specs.Game.{is_in_sight, spot_of, view_in}
use Rattle.mc_model.specs.Spots.{spawn_height}
use Rattle.mc_model.specs.Showing.{due, last_shown, notes_due, opening_due, sight_of}
use Rattle.mc_model.specs.Good.{AreChests, AreShown, Good}
use Rattle.mc_model.specs.Fitting.{EntityFits, KindIsNamed, Told}
use Rattle.mc_model.proofs.AllFacts.{all_dropped, all_joined, all_mapped}
use Rattle.mc_model.proofs.AllFacts.{few_filtered}
use Rattle.mc_model.proofs.Decodes.{Decodes, IsClear}
use Rattle.mc_model.proofs.FitsBeats.{beat_fits, shown_age_fits}
use Rattle.mc_model.proofs.FitsChat.{LineFits}
use Rattle.mc_model.proofs.FitsChunk.{ColumnFits, IsNear}
use Rattle.mc_model.proofs.FitsDue.{level_short}
use Rattle.mc_model.proofs.ThingFacts.{spawn_low}
use Rattle.mc_model.proofs.FitsList.{AreClear, PairFits}
use Rattle.mc_model.proofs.FitsNotes.{NotesFit, confirms_clear, noted_packets_clear, sent_fits}
use Rattle.mc_model.proofs.FitsPlay.{join_clear, spawn_clear}
use Rattle.mc_model.proofs.FitsSlots.{pile_slot_fits, piles_fit}
use Rattle.mc_model.proofs.Maps.Sorted.{find_again, second}
use Rattle.mc_model.proofs.Maps.Lookups.{tied_number}
use Rattle.mc_model.proofs.Maps.Options.{none_some}
use Rattle.mc_model.proofs.ViewFacts.{view_near}
use Rattle.mc_laws.proofs.EachValue.{AllValues}
use Rattle.mc_laws.proofs.FitsDue.{delta_clear, placing_clear}
use Rattle.mc_laws.proofs.FitsSight.{SeenFits, SightFits, all_entries, column_near, few_shown}
use Rattle.mc_laws.proofs.FitsSight.{size_few}
use Rattle.mc_laws.proofs.Fits.Counted.{IsCounted}
use Rattle.mc_laws.proofs.Fits.Notes.{notes_owe}
use Rattle.mc_laws.proofs.FitsUuid.{offline_small}
use Rattle.mc_laws.proofs.ThingsFit.{PlayerIsTold}
use Rattle.mc_laws.proofs.Deeds.Packs.{named_is_pack}
use Rattle.mc_laws.proofs.Fits.Told.{cell_told, spot_told}
use Rattle.mc_laws.proofs.Fits.Sights.{column_sizes, column_small, in_sight, in_sight_fit}
use Rattle.mc_laws.proofs.Fits.Windows.{chest_fits, window_fits}

-- ---- entries

-- what holds of each entry that is found holds of all entries, and of all values
pub all_found : {X : Type 0} (P : ℕ × X → Type 0) (m : FinMap nat_cmp X) →
    ((k : ℕ) (x : X) → get m k ≡ Some x → P (k, x)) → AllByRecursion P (entries m)
all_found {X} P m each = walk (entries m) (entries_sorted m)
    (λ k x is. each k x (get-entries m k ∙ is))
  where
    walk : (es : List (ℕ × X)) → T (is_sorted nat_cmp es) →
        ((k : ℕ) (x : X) → find nat_cmp k es ≡ Some x → P (k, x)) → AllByRecursion P es
    walk [] sorted holds = tt
    walk (e ∷ es) sorted holds = (
      holds e.0 e.1 (ap (λ (b : Bool). cond b (Some e.1) (find nat_cmp e.0 es))
          (tied_number e.0)),
      walk es (second _ _ sorted) (λ k x is. elim (eq_by_cmp nat_cmp k e.0) as
          (λ b. eq_by_cmp nat_cmp k e.0 ≡ b → P (k, x)) [
            | true ↦ λ t. absurd (none_some (find nat_cmp k es) x
                (find_again nat_cmp_total k e es sorted t) is)
            | false ↦ λ t. holds k x
                (ap (λ (b : Bool). cond b (Some e.1) (find nat_cmp k es)) t ∙ is)
          ] refl),
    )

all_values : {X : Type 0} (P : X → Type 0) (m : FinMap nat_cmp X) →
    ((k : ℕ) (x : X) → get m k ≡ Some x → P x) → AllByRecursion P (values m)
all_values {X} P m each = all_mapped (λ (e : ℕ × X). P e.1) P (λ (e : ℕ × X). e.1)
    (λ e holds. holds) (entries m) (all_found (λ (e : ℕ × X). P e.1) m each)

-- ---- places of a view

-- a place near one that is not far
place_near : (middle place : Place) (d : ℕ) → unsigned_abs middle.0 ≤ MIDDLE_BORDER + 1 →
    unsigned_abs middle.1 ≤ MIDDLE_BORDER + 1 → d ≤ 8 → is_in_view middle d place ≡ true →
    IsNear place
place_near middle place d at_x at_z few near = grind (arith, nat_tests, near_both)

-- ---- sights

-- numbers of entities fit 32 bits
eid_fits : (eid : ℤ) → pos 1 ≤ℤ eid → eid ≤ℤ pos 2147483647 → SFits w32 eid
eid_fits (pos n) low high = record { sfits = omega (arith, ints, high) }
eid_fits (negsuc n) low high = absurd (omega (arith, ints, low))

-- an entity that fits is seen as such
seen_fits : (e : Entity) (kind : EntityKind) → EntityFits e → IsKind kind → KindIsNamed kind →
    SeenFits (seen_as e kind)
seen_fits e kind fits is named = grind (arith, nat_tests, eid_fits, pile_slot_fits)

-- all that can be told holds of a game
pub record SoundGame (g : Game) : Type 0 where
  pub good : Good g
  pub chests : AreChests g
  pub told : Told g
  pub settings : AreSettings g.settings.players g.settings.cap
  pub young : g.age ≤ AGE_MAX
  pub lines : AllByRecursion LineFits g.lines
  pub few : len g.players ≤ g.settings.players
  pub counted : IsCounted g
  pub players : AllValues (λ (k : ℕ) (p : Player). PlayerIsTold p) g.players

-- what the list of players has of one
abbrev pair_of : Player → ℕ × List ℕ
pair_of p = (p.uuid, p.name)

-- packets can tell it
named_fits : (g : Game) (k : ℕ) (p : Player) → SoundGame g → get g.players k ≡ Some p →
    PairFits (pair_of p)
named_fits g k p sound there = record {
  uuid = subst (λ (n : ℕ). n < 2 ^ 128) (sym (sound.good.own k p there).uuid)
      (offline_small p.name);
  name = (sound.players k p there).name;
}

-- as many players as numbers of them
players_few : (g : Game) → length (players_of g) ≡ len g.players
players_few g = length-map (entries g.players) (λ (e : ℕ × Player). e.1)
    ∙ sym (len-entries g.players)

-- an entity for each dropped item, each player and each mob
pub entities_few : (g : Game) → SoundGame g → length g.entities ≤ 4210
entities_few g sound =
    let all = sound.counted in
    let few = sound.few in
    let fifty = sound.settings.few in
    let lying = sound.told.lying in
    omega (arith, all, few, fifty, lying)

-- no more are seen than there are
crowd_in_sight : (g : Game) (p : Player) → SoundGame g →
    length (map seen_of (in_sight g p)) ≤ 4210
crowd_in_sight g p sound =
    let seen = length-map {B = ℤ × Seen} (in_sight g p) seen_of in
    let near = few_filtered (is_in_sight g p) (others (pos p.eid) g.entities) in
    let other = few_filtered (λ (e : Entity). not (int_eq (eid_of e) (pos p.eid))) g.entities in
    let few = entities_few g sound in
    omega (arith, seen, near, other, few)

pub sight_fits : (g : Game) (p : Player) (last : Sight) → SoundGame g → AreShown g →
    AllByRecursion LineFits last.chat → SightFits (sight_of g p last)
unfolding sight_of
sight_fits g p last sound shown heard =
    let at = spot_told g p sound.told in
    let pack = named_is_pack g p.name sound.good in
    let named = all_values (λ (other : Player). PairFits (pair_of other)) g.players
    (λ k other there. named_fits g k other sound there) in
    let settings = sound.settings in
    let middle = column_of_spot (spot_of g p) in
    let d = view_size g.settings.cap p.view_byte in
    let places = recursion_from_All IsNear (view_of middle d) (λ i other less. place_near middle _ d
    (column_near (spot_of g p).x at.x) (column_near (spot_of g p).z at.z)
    (size_few g.settings.cap p.view_byte settings.near)
    (view_near middle d _ (Contains-get_or (view_of middle d) i other less))) in
    record {
      pairs = all_entries nat_cmp nat_cmp_total nat_cmp-IsAntisymmetric PairFits
          (map pair_of (players_of g))
          (all_mapped (λ (other : Player). PairFits (pair_of other)) PairFits pair_of
          (λ other fits. fits) (players_of g) named);
      few = few_shown nat_cmp nat_cmp_total 50 (map pair_of (players_of g))
          (let same = length-map {B = ℕ × List ℕ} (players_of g) pair_of in
          let size = players_few g in
          let few = sound.few in
          let fifty = settings.few in
          omega (arith, same, size, few, fifty));
      columns = all_entries place_cmp places_total exact_places ColumnFits
          (map (λ (place : Place). (place, column_in g place)) (view_in g p))
          (all_mapped IsNear ColumnFits (λ (place : Place). (place, column_in g place))
          (λ place near. record {
            near = near;
            sizes = column_sizes g place;
            states = column_small g place sound.told;
          })
          (view_in g p) places);
      entities = all_entries int_cmp int_cmp_total int_cmp-IsAntisymmetric SeenFits
          (map seen_of (in_sight g p))
          (all_mapped EntityFits SeenFits seen_of
          (λ x fits. seen_fits x x.kind fits fits.kind fits.named)
          (in_sight g p) (in_sight_fit g p sound.told));
      crowd = few_shown int_cmp int_cmp_total 4210 (map seen_of (in_sight g p))
          (crowd_in_sight g p sound);
      window = λ w is. window_fits g p w sound.chests shown is;
      pack = piles_fit (pack_of g p).slots pack.are_piles;
      slots = length-map (pack_of g p).slots slot_of ∙ pack.size;
      cursor = pile_slot_fits (pack_of g p).cursor pack.is_pile;
      beat = beat_fits g.age sound.young;
      age = shown_age_fits g.age sound.young;
      chat = all_joined LineFits last.chat (drop p.since g.lines) heard
          (all_dropped LineFits p.since g.lines sound.lines);
    }

-- ---- what is due

-- the opening is clear
opening_clear : (g : Game) (p : Player) → SoundGame g → p.eid ≤ 2147483647 →
    AreClear (opening_of g.settings.terrain g.settings.players (pos p.eid) (spot_of g p))
opening_clear g p sound small = (
  join_clear p.eid g.settings.players (level g.settings.terrain) (omega (arith, small))
      sound.settings.few (level_short g.settings.terrain),
  (
    spawn_clear (spawn_height g.settings.terrain)
        (let low = spawn_low g.settings.terrain in omega (arith, low)),
    (placing_clear (spot_of g p) (spot_told g p sound.told), tt),
  ),
)

-- what is due is clear, where what was shown fits
pub due_clear : (g : Game) (shown : Option Sight) (p : Player) → SoundGame g → AreShown g →
    p.eid ≤ 2147483647 → NotesFit p.notes → SightFits (last_shown shown) → AreClear (due g shown p)
unfolding due
due_clear g shown p sound windows small fit before =
    let C : Down → Type 0 = λ packet. IsClear for_play (of_play packet) in
    let last = last_shown shown in
    let at = spot_told g p sound.told in
    all_joined C (opening_due g shown p ++ delta last (sight_of g p last)) (notes_due g p)
    (all_joined C (opening_due g shown p) (delta last (sight_of g p last))
    (first (is_some shown))
    (delta_clear last (sight_of g p last) before
    (sight_fits g p last sound windows before.chat)))
    (all_joined C (map confirm_packet p.notes.confirms
    ++ noted_packets g.settings.terrain g.edits (sees g p) p.notes.cells)
    (notes_of p.notes (spot_of g p) (pack_of g p) (chest_of g p))
    (all_joined C (map confirm_packet p.notes.confirms)
    (noted_packets g.settings.terrain g.edits (sees g p) p.notes.cells)
    (confirms_clear p.notes.confirms (search fit))
    (noted_packets_clear g.settings.terrain g.edits (sees g p)
    (λ cell sent. sent_fits (column_of_spot (spot_of g p))
    (view_size g.settings.cap p.view_byte) cell
    (column_near (spot_of g p).x at.x) (column_near (spot_of g p).z at.z)
    (size_few g.settings.cap p.view_byte sound.settings.near) sent)
    (λ cell. let small = (cell_told g cell sound.told).small in omega (arith, small))
    p.notes.cells))
    ((notes_owe p.notes (spot_of g p) (pack_of g p) (chest_of g p)).clear fit at
    (named_is_pack g p.name sound.good) (chest_fits g p sound.chests windows)))
  where
    first : (b : Bool) → AreClear (cond b []
        (opening_of g.settings.terrain g.settings.players (pos p.eid) (spot_of g p)))
    first true = tt
    first false = opening_clear g p sound small

-- packets of play that are clear are decoded by who plays
pub clear_decodes : (packets : List Down) → AreClear packets →
    Decodes for_play (map of_play packets) for_play
clear_decodes [] a = refl
clear_decodes (packet ∷ packets) a = (a.0, clear_decodes packets a.1)
