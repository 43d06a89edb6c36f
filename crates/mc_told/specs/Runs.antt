-- Frames of moves that stand side by side, by rising number, and how they are kept one behind the
-- other.
use Rattle.std.specs.Prelude.{◌≡◌, ℕ, ◌+◌, ◌<◌, ◌≤◌, List, drop, length, refl, slice_index_or}
use Rattle.std.specs.Prelude.{Some, take}
use Rattle.std.specs.Coded.{Coded, code_by, coded×, coded_ℕ, coded_list}
use Rattle.std.specs.List.{flat_map}
use Rattle.std.specs.Ordering.{int_cmp}
use Rattle.std.specs.FinMap.{FinMap, entries}
use lib.IntN.{ℤ}
use Rattle.mc_fields.specs.declared.position.Spot.{Spot}
use Rattle.mc_told.specs.declared.moved.Moved.{Moved}
use Rattle.mc_told.specs.EntityFrames.{EntitiesValue, coded_entities, found_move}

-- those of some moves, one behind the other
abbrev pub frames_in : List (ℤ × Moved) → List ℕ
frames_in rows = flat_map (λ (row : ℤ × Moved). row.1.frames) rows

-- those of the moves from one place on, before another place
abbrev pub frames_between : FinMap int_cmp Moved → ℕ → ℕ → List ℕ
frames_between moves first behind = frames_in (drop first (take behind (entries moves)))

-- two places between which moves stand
pub record IsRun (moves : FinMap int_cmp Moved) (first behind : ℕ) : Type 0 where
  pub rising : first ≤ behind
  pub within : behind ≤ length (entries moves)

-- at a place stands the move of an entity from one spot to another
pub record IsMoveAt (encoded : EntitiesValue) (eid : ℤ) (from to : Spot) (at : ℕ) : Type 0 where
  pub within : at < length (entries encoded.moves)
  pub is : Some (frames_between encoded.moves at (at + 1)) ≡ found_move encoded eid from to

-- The frames of the first moves stand one behind the other. There is a start for each of these moves,
-- and one more: where those of the moves before it end.
pub record AreJoined (rows : List (ℤ × Moved)) (joined starts : List ℕ) : Type 0 where
  pub within : length starts ≤ length rows + 1
  pub ends : (i d : ℕ) → i < length starts →
      slice_index_or starts i d ≡ length (frames_in (take i rows))
  pub fronts : (i : ℕ) → i < length starts →
      take (length (frames_in (take i rows))) joined ≡ frames_in (take i rows)

-- what was encoded, frames that are due to a client, and the place behind the last of their moves
pub record LooksValue : Type 0 where
  pub encoded : EntitiesValue
  pub due : List ℕ
  pub place : ℕ

abbrev pub coded_looks : Coded LooksValue
coded_looks =
    code_by (EntitiesValue × (List ℕ × ℕ))
    (coded× coded_entities (coded× (coded_list coded_ℕ) coded_ℕ))
    (λ looks. (looks.encoded, (looks.due, looks.place)))
    (λ parts. record { encoded = parts.0; due = parts.1.0; place = parts.1.1 })
    (λ looks. refl)
