-- The packets of columns fit.
use Rattle.std.proofs.Common.{ℕ, zero, suc, ◌^◌, ◌<◌, ◌≤◌, Bool, true, List, length, lit<, arith}
use Rattle.std.proofs.Common.{[]}
use Rattle.std.specs.Int.{w32}
use Rattle.std.specs.Prelude.{unsigned_abs}
use Rattle.std.specs.List.{All}
use Rattle.std.proofs.lemmas.Bool.Decides.{nat_tests}
use lib.IntN.{pos}
use mir.Val.{SFits}
use Rattle.mc_column.specs.Sizes.{section_count}
use Rattle.mc_column.specs.SizesLaws.{section_count-is, section_cells-is, light_bytes-is}
use Rattle.mc_column.specs.SizesLaws.{squares-is}
use Rattle.mc_column.specs.Cells.{ColumnValue, HasSizes, rank}
use Rattle.mc_column.specs.Body.{is_named}
use Rattle.mc_column.specs.Sent.{column_mask, column_bytes}
use Rattle.mc_column.proofs.SentFacts.{column_mask_names, body_bytes_spell}
use Rattle.mc_packets.specs.declared.down.Down.TheVariants.{Chunk}
use Rattle.mc_land.specs.declared.places.TheConstants.{COLUMN_BORDER}
use Rattle.mc_land.specs.Places.{Place}
use Rattle.mc_model.specs.Packets.{of_play, for_play}
use Rattle.mc_model.specs.Delta.{load, unload}
use Rattle.mc_model.proofs.Decodes.{IsClear, play_clear}
use Rattle.mc_model.proofs.FitsSize.{AtMost, number_fits, fields}

-- a place whose numbers a packet can carry
pub record PlaceFits (place : Place) : Type 0 where
  pub x : SFits w32 place.0
  pub z : SFits w32 place.1

-- a chunk of a place that fits, a mask of 16 bits and not too many bytes
chunk_clear : (place : Place) (mask : ℕ) (body : List ℕ) → PlaceFits place → mask < 2 ^ 16 →
    AtMost 200000 body
    → IsClear for_play (of_play (Chunk place.0 place.1 true mask body))
chunk_clear place mask body at small few =
    let counted : SFits w32 (pos (length body)) = record { sfits = omega (arith, few) } in
    play_clear (Chunk place.0 place.1 true mask body) (search (fields, at.x, at.z))
    (omega (arith, few))

-- no more numbers below n pass a test than there are
rank_most : (test : ℕ → Bool) (n : ℕ) → rank test n ≤ n
rank_most test zero = omega arith
rank_most test (suc n) = grind (arith, nat_tests, rank_most test n)

-- a body is not long
pub column_few : (column : ColumnValue) → HasSizes column → AtMost 200000 (column_bytes column)
column_few column sizes =
    let size = (body_bytes_spell column (column_mask column) sizes).body.size in
    let plain = rw (section_cells-is, light_bytes-is, squares-is) at size in
    let few = rank_most (is_named (column_mask column)) section_count in
    omega (arith, plain, few, section_count-is)

-- a mask has 16 bits
mask_small : (column : ColumnValue) → HasSizes column → column_mask column < 2 ^ 16
mask_small column sizes = grind (arith, nat_tests, column_mask_names, section_count-is)

-- a place whose cells a position can carry
pub record IsNear (place : Place) : Type 0 where
  pub x : unsigned_abs place.0 ≤ COLUMN_BORDER
  pub z : unsigned_abs place.1 ≤ COLUMN_BORDER

-- a packet can carry its numbers too
pub near_fits : (place : Place) → IsNear place → PlaceFits place
near_fits place near = grind (arith, nat_tests, number_fits)

-- a column that packets can carry, whole and cell by cell
pub record ColumnFits (e : Place × ColumnValue) : Type 0 where
  pub near : IsNear e.0
  pub sizes : HasSizes e.1
  pub states : All (λ state. state < 65536) e.1.states

-- a column that comes into view, of a place that fits
pub whole_clear : (place : Place) (column : ColumnValue) → PlaceFits place → HasSizes column →
    IsClear for_play (of_play (load (place, column)))
whole_clear place column at sizes = search (arith, chunk_clear, column_few, mask_small)

-- and of one that fits
pub load_clear : (e : Place × ColumnValue) → ColumnFits e → IsClear for_play (of_play (load e))
load_clear e f = whole_clear e.0 e.1 (near_fits e.0 f.near) f.sizes

-- one that goes
pub unload_clear : (place : Place) → PlaceFits place → IsClear for_play (of_play (unload place))
unload_clear place f = chunk_clear place 0 [] f (lit< tt) (omega arith)
