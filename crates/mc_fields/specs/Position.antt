-- The format of positions of blocks, of the page 'Data types' of wiki.vg for protocol 47.
use Rattle.std.specs.Prelude.{ℕ, List}
use Rattle.std.specs.Int.{w64}
use Rattle.mc_bytes.specs.Format.{Format}
use Rattle.mc_bytes.specs.Combine.{via}
use Rattle.mc_bytes.specs.Numbers.{number}
use Rattle.mc_bytes.specs.NumberLaws.{wide_64}
use Rattle.mc_fields.specs.declared.position.Cell.{Cell}
use Rattle.mc_fields.specs.PositionBits.{FitsCell, pack, unpack}
use Rattle.mc_fields.specs.PositionLaws.{cell_view}
pub use Rattle.mc_fields.specs.PositionBits.{FitsHalf, FitsCell, pack, unpack}

-- a position
abbrev pub position : {Rest : List ℕ → Type 0} → Format Rest Cell
position {Rest} = via (number {Rest = Rest} w64 wide_64) FitsCell unpack pack cell_view
