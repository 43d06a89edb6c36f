-- The frames of packets of columns.
use Rattle.std.proofs.Common.{◌≡◌, ℕ, ◌+◌, ◌^◌, ◌<◌, true, List, ◌++◌, length, sym, ap, ◌∙◌, arith}
use Rattle.std.proofs.Common.{append_assoc}
use Rattle.std.specs.Int.{w16, w32, cast_unsigned}
use Rattle.std.proofs.lemmas.Int.{ints}
use Rattle.std.proofs.lemmas.List.{length-append}
use lib.IntN.{ℤ, pos, negsuc, neg_ℤ}
use lib.Signed.{◌≤ℤ◌}
use mir.Val.{SFits}
use Rattle.mc_bytes.specs.Numbers.{number_spelling}
use Rattle.mc_fields.specs.Varint.{varint_spelling}
use Rattle.mc_fields.specs.Integers.{boolean_spelling}
use Rattle.mc_frame.specs.Frame.{frame_spelling}
use Rattle.mc_column.specs.Cells.{ColumnValue, HasSizes}
use Rattle.mc_column.specs.Sent.{column_mask, column_bytes}
use Rattle.mc_land.specs.Places.{Place, IsPlace}
use Rattle.mc_land.specs.declared.places.TheConstants.{COLUMN_BORDER}
use Rattle.mc_packets.specs.Down.{spelling_of}
use Rattle.mc_model.specs.Packets.{of_play, frame_of}
use Rattle.mc_model.specs.Delta.{load, unload}
use Rattle.mc_model.proofs.FitsChunk.{PlaceFits, whole_clear, unload_clear}
use Rattle.mc_loads.specs.Heads.{load_head}
use Rattle.mc_sending.specs.Sending.{IsClear}

-- ---- places

number_fits : (z : ℤ) → neg_ℤ (pos COLUMN_BORDER) ≤ℤ z → z ≤ℤ pos COLUMN_BORDER → SFits w32 z
number_fits (pos n) low high = record { sfits = omega (arith, ints, high) }
number_fits (negsuc n) low high = record { sfits = omega (arith, ints, low) }

-- a packet can carry a place of the land
pub place_fits : (place : Place) → IsPlace place → PlaceFits place
place_fits place at = record {
  x = number_fits place.0 at.cx_low at.cx_high;
  z = number_fits place.1
      at.cz_low at.cz_high;
}

pub unload_fits : (place : Place) → IsPlace place → IsClear (unload place)
unload_fits place at = unload_clear place (place_fits place at)

-- ---- a load is its head and the body

regroup : (a b c d e f g : List ℕ) → a ++ (b ++ (c ++ (d ++ (e ++ (f ++ g))))) ≡ (((((a ++ b) ++ c)
    ++ d) ++ e) ++ f) ++ g
regroup a b c d e f g = sym (simp append_assoc)

-- the head of a column's packet
abbrev pub head_of : Place → ColumnValue → List ℕ
head_of place column = load_head place (column_mask column) (length (column_bytes column))

pub load_spelled : (place : Place) (column : ColumnValue) →
    spelling_of (load (place, column)) ≡ head_of place column ++ column_bytes column
load_spelled place column =
    regroup (varint_spelling (pos 33)) (number_spelling w32 (cast_unsigned w32 place.0))
    (number_spelling w32 (cast_unsigned w32 place.1))
    (boolean_spelling true) (number_spelling w16 (column_mask column)) (varint_spelling (pos (length
    (column_bytes column)))) (column_bytes column)

-- both are short enough for a frame
pub load_small : (place : Place) (column : ColumnValue) → IsPlace place → HasSizes column →
    length (head_of place column) + length (column_bytes column) < 2 ^ 21
load_small place column at sizes =
    let clear = whole_clear place column (place_fits place at) sizes in
    let size = ap length (load_spelled place column) in
    let all = length-append (head_of place column) (column_bytes column) in
    omega (arith, clear.1.counted, size, all)

load_framed : (place : Place) (column : ColumnValue) →
    frame_of (of_play (load (place, column))) ≡ varint_spelling (pos (length (head_of place column)
    + length (column_bytes column))) ++ (head_of place column ++ column_bytes column)
unfolding frame_of frame_spelling
load_framed place column =
    ap frame_spelling (load_spelled place column)
    ∙ ap (λ (n : ℕ). varint_spelling (pos n) ++ (head_of place column ++ column_bytes column))
    (length-append (head_of place column) (column_bytes column))

-- ---- what is appended of a load

-- what was worked out of a column before its body
pub record IsBegun (place : Place) (column : ColumnValue) (mask size : ℕ) (head : List ℕ) : Type 0
  where
    pub mask_is : mask ≡ column_mask column
    pub size_is : size ≡ length (column_bytes column)
    pub head_is : head ≡ load_head place mask size

pub begun_small : (place : Place) (column : ColumnValue) (mask size : ℕ) (head : List ℕ) →
    IsPlace place → HasSizes column → IsBegun place column mask size head →
    length head + size < 2 ^ 21
begun_small place column mask size head at sizes begun = rw (
  begun.head_is,
  begun.mask_is,
  begun.size_is,
) (load_small place column at sizes)

pub load_put : (place : Place) (column : ColumnValue) (mask size : ℕ) (head old counted headed new :
    List ℕ) → IsBegun place column mask size head →
    counted ≡ old ++ varint_spelling (pos (length head + size)) → headed ≡ counted ++ head →
    new ≡ headed ++ column_bytes column → new ≡ old ++ frame_of (of_play (load (place, column)))
load_put place column mask size head old counted headed new begun first second third =
    third ∙ rw (
      second,
      first,
      begun.head_is,
      begun.mask_is,
      begun.size_is,
      load_framed place
          column,
    )
    (append_assoc (old ++ varint_spelling (pos (length (head_of place column) + length (column_bytes
    column)))) (head_of place column) (column_bytes column)
    ∙ append_assoc old (varint_spelling (pos (length (head_of place column) + length (column_bytes
    column)))) (head_of place column ++ column_bytes column))
