-- What is due to a client at a tick is packets that it decodes.
use Rattle.std.proofs.Common.{◌≤◌, Bool, true, false, cond, [], drop, length, Option, Some}
use Rattle.std.proofs.Common.{None, arith}
use Rattle.std.specs.Int.{w32}
use Rattle.std.specs.List.{AllByRecursion}
use Rattle.std.specs.FinMap.{entries, keys}
use Rattle.std.proofs.lemmas.Bool.Decides.{nat_tests}
use lib.IntN.{ℤ}
use mir.Val.{SFits}
use Rattle.mc_fields.specs.declared.position.Spot.{Spot}
use Rattle.mc_column.specs.Cells.{ColumnValue}
use Rattle.mc_packets.specs.declared.down.Down.{Down}
use Rattle.mc_land.specs.Places.{Place}
use Rattle.mc_view.specs.Forms.{moves_of}
use Rattle.mc_model.specs.Packets.{of_play, for_play}
use Rattle.mc_model.specs.Sight.{Seen, Sight}
use Rattle.mc_model.specs.Delta.{missing, leavers_point, joiners_point, destroys_point, unload}
use Rattle.mc_model.specs.Delta.{unloads_point, load, loads_point, pile_told, cells_point}
use Rattle.mc_model.specs.Delta.{is_same_slot, entity_packets, pile_packets, moves_packets}
use Rattle.mc_model.specs.Delta.{beat_point, time_point, entities_point, window_point, delta}
use Rattle.mc_model.specs.Delta.{chat_packet, chat_point, cursor_point}
use Rattle.mc_model.specs.Opening.{placing}
use Rattle.mc_model.specs.Fitting.{SpotFits}
use Rattle.mc_model.proofs.Decodes.{IsClear}
use Rattle.mc_model.proofs.AllFacts.{all_joined, all_dropped, all_mapped, all_filtered}
use Rattle.mc_model.proofs.AllFacts.{few_filtered, all_flat}
use Rattle.mc_model.proofs.FitsPlay.{place_clear}
use Rattle.mc_model.proofs.FitsChat.{LineFits}
use Rattle.mc_model.proofs.FitsNumbers.{pattern_fits, degrees_fit}
use Rattle.mc_model.proofs.FitsList.{PairFits, AreClear, leavers_clear, joiners_clear}
use Rattle.mc_model.proofs.FitsChunk.{PlaceFits, ColumnFits, near_fits, load_clear, unload_clear}
use Rattle.mc_model.proofs.FitsEntities.{destroying_clear, pile_slot_clear}
use Rattle.mc_model.proofs.FitsDue.{beats_clear, column_clear, cursor_clear, times_clear}
use Rattle.mc_model.proofs.FitsDue.{windows_clear}
use Rattle.mc_laws.proofs.FitsEntities.{spawn_clear}
use Rattle.mc_laws.proofs.FitsMoves.{moves_clear}
use Rattle.mc_laws.proofs.FitsSight.{SeenFits, SightFits}

-- ---- the difference

-- a difference of the list of players is no longer than the list
missing_few : (p q : Sight) → SightFits p → length (missing p.pairs q.pairs) ≤ 50
missing_few p q f = grind (arith, nat_tests, few_filtered)

-- and its pairs fit
missing_fits : (p q : Sight) → SightFits p → AllByRecursion PairFits (missing p.pairs q.pairs)
missing_fits p q f = all_filtered PairFits _ (entries p.pairs) f.pairs

-- the entities that are seen no more
destroys_clear : (p q : Sight) → SightFits p → AreClear (destroys_point p q)
destroys_clear p q f =
    destroying_clear _ (all_filtered (SFits w32) _ (keys p.entities)
    (all_mapped SeenFits (SFits w32) (λ (e : ℤ × Seen). e.0) (λ e fits. fits.eid)
    (entries p.entities) f.entities))

-- the columns that go
unloads_clear : (p q : Sight) → SightFits p → AreClear (unloads_point p q)
unloads_clear p q f =
    all_mapped PlaceFits (λ (packet : Down). IsClear for_play (of_play packet)) unload unload_clear
    _
    (all_filtered PlaceFits _ (keys p.columns)
    (all_mapped ColumnFits PlaceFits (λ (e : Place × ColumnValue). e.0)
    (λ e fits. near_fits e.0 fits.near) (entries p.columns) f.columns))

-- the columns that come
loads_clear : (p q : Sight) → SightFits q → AreClear (loads_point p q)
loads_clear p q f =
    all_mapped ColumnFits (λ (packet : Down). IsClear for_play (of_play packet)) load load_clear _
    (all_filtered ColumnFits _ (entries q.columns) f.columns)

-- of each column
changes_clear : (p q : Sight) → SightFits q → AreClear (cells_point p q)
changes_clear p q f = search (arith, all_flat, column_clear)

-- the entities that come or change
entity_clear : (e : ℤ × Seen) → SeenFits e → (old : Option Seen) →
    AreClear (entity_packets e.0 old e.1)
entity_clear e f None = spawn_clear e.0 e.1.kind e.1.spot e.1.pile f.eid f.kind f.spot f.pile
entity_clear e f (Some old) =
    all_joined (λ (packet : Down). IsClear for_play (of_play packet))
    (moves_packets e.0 e.1.spot (moves_of old.spot e.1.spot))
    (pile_packets e.0 e.1.kind old.pile e.1.pile)
    (moves_clear e.0 old.spot e.1.spot f.eid f.spot) (tells (is_same_slot old.pile e.1.pile))
  where
    tells : (same : Bool) → AreClear (cond same [] (pile_told e.0 e.1.kind e.1.pile))
    tells true = tt
    tells false = pile_slot_clear e.0 e.1.kind e.1.pile f.eid f.pile

-- each of them
entities_clear : (p q : Sight) → SightFits q → AreClear (entities_point p q)
entities_clear p q f = search (arith, all_flat, entity_clear)

-- those of the window and of the pack
window_clear : (p q : Sight) → SightFits p → SightFits q → AreClear (window_point p q)
window_clear p q f g = windows_clear p.window q.window p.pack q.pack f.window g.window
    (omega (arith, g.slots)) g.pack

-- what was said
said_clear : (p q : Sight) → SightFits q → AreClear (chat_point p q)
said_clear p q f =
    all_mapped LineFits (λ (packet : Down). IsClear for_play (of_play packet)) chat_packet
    (λ text fits. fits) (drop (length p.chat) q.chat)
    (all_dropped LineFits (length p.chat) q.chat f.chat)

-- the packets of a difference
pub delta_clear : (p q : Sight) → SightFits p → SightFits q → AreClear (delta p q)
unfolding delta
delta_clear p q f g =
    let P : Down → Type 0 = λ packet. IsClear for_play (of_play packet) in
    all_joined P (beat_point p q) _ (beats_clear p.beat q.beat g.beat) (
    all_joined P (time_point p q) _ (times_clear p.age q.age g.age) (
    all_joined P (leavers_point p q) _
    (leavers_clear (missing p.pairs q.pairs) (missing_few p q f) (missing_fits p q f)) (
    all_joined P (joiners_point p q) _
    (joiners_clear (missing q.pairs p.pairs) (missing_few q p g) (missing_fits q p g)) (
    all_joined P (destroys_point p q) _ (destroys_clear p q f) (
    all_joined P (unloads_point p q) _ (unloads_clear p q f) (
    all_joined P (loads_point p q) _ (loads_clear p q g) (
    all_joined P (cells_point p q) _ (changes_clear p q g) (
    all_joined P (entities_point p q) _ (entities_clear p q g) (
    all_joined P (window_point p q) _ (window_clear p q f g) (
    all_joined P (cursor_point p q) _ (cursor_clear p.cursor q.cursor g.cursor) (
    all_joined P (chat_point p q) [] (said_clear p q g) tt)))))))))))

-- ---- the opening

-- a player's own place
pub placing_clear : (spot : Spot) → SpotFits spot → IsClear for_play (of_play (placing spot))
placing_clear spot at = grind (arith, nat_tests, degrees_fit, pattern_fits, place_clear)
