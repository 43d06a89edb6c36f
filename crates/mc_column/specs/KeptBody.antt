-- How a body is kept: the bytes of its states as they came, and its biomes.
use Rattle.std.specs.Prelude.{◌≡◌, ℕ, ◌<◌, Bool, List, length, slice_index}
use Rattle.mc_column.specs.Body.{BodyValue, block_light_at, biome_count}
use Rattle.mc_column.specs.Cells.{paired}

abbrev pub kept_body : ℕ → Bool → List ℕ → List ℕ → BodyValue
kept_body mask ground_up blocks biomes = record {
  mask = mask;
  ground_up = ground_up;
  states = paired blocks;
  biomes = biomes;
}

pub record IsKeptBody (mask : ℕ) (ground_up : Bool) (blocks biomes : List ℕ) : Type 0 where
  pub blocks_are : length blocks ≡ block_light_at mask
  pub are_bytes : (i : ℕ) → slice_index blocks i < 256
  pub biomes_are : length biomes ≡ biome_count ground_up
