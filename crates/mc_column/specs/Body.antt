-- A chunk body: the states of some sections, their light, and biomes. The layout is that of
-- wiki.vg, 'SMP Map Format' and 'Chunk Format', for protocol 47.
use Rattle.std.specs.Prelude.{◌≡◌, ℕ, ◌+◌, ◌*◌, ◌/◌, ◌%◌, ◌^◌, ◌<◌, Bool, true, List, length, take}
use Rattle.std.specs.Prelude.{drop, replicate, slice_index, nat_lt, ◌==◌, Result, Ok, Err}
use Rattle.std.specs.Prelude.{if◌then◌else◌}
use Rattle.mc_bytes.specs.declared.fault.Kind.TheVariants.{Short, BadLength}
use Rattle.mc_bytes.specs.declared.fault.FieldFault.{FieldFault}
use Rattle.mc_bytes.specs.Placed.{fault_at}
use Rattle.mc_column.specs.Sizes.{section_count, section_cells, squares, light_bytes}
use Rattle.mc_column.specs.Cells.{ColumnValue, section_of, joined, picked, rank, paired}

-- a body as contracts see it
pub record BodyValue : Type 0 where
  pub mask : ℕ
  pub ground_up : Bool
  -- 4,096 of each section in the mask, the lowest section first
  pub states : List ℕ
  -- 256 where it is ground-up, else none
  pub biomes : List ℕ

-- the mask names section i: bit i is set
abbrev pub is_named : ℕ → ℕ → Bool
is_named mask i = mask / 2 ^ i % 2 == 1

-- how many sections it names
abbrev pub named_count : ℕ → ℕ
named_count mask = rank (is_named mask) section_count

-- the block light begins after two bytes for each state
abbrev pub block_light_at : ℕ → ℕ
block_light_at mask = named_count mask * (2 * section_cells)

-- the sky light begins after all block light
abbrev pub sky_light_at : ℕ → ℕ
sky_light_at mask = block_light_at mask + named_count mask * light_bytes

-- the biomes begin after the sky light, where there is any
abbrev pub biomes_at : ℕ → Bool → ℕ
biomes_at mask sky = sky_light_at mask + (if sky then named_count mask * light_bytes else 0)

abbrev pub biome_count : Bool → ℕ
biome_count ground_up = if ground_up then squares else 0

-- how many bytes a body has
abbrev pub body_size : ℕ → Bool → Bool → ℕ
body_size mask sky ground_up = biomes_at mask sky + biome_count ground_up

-- The bytes spell a body for a mask, with or without sky light, ground-up or not. Light may have
-- any value.
pub record SpellsBody (body : BodyValue) (mask : ℕ) (sky ground_up : Bool) (bytes : List ℕ) : Type 0
  where
    pub for_mask : body.mask ≡ mask
    pub for_ground : body.ground_up ≡ ground_up
    pub states_are : length body.states ≡ named_count mask * section_cells
    pub biomes_are : length body.biomes ≡ biome_count ground_up
    -- state i is bytes 2i and 2i + 1, the least significant first
    pub low : (i : ℕ) → i < length body.states → slice_index bytes (2 * i) ≡
        slice_index body.states i % 256
    pub high : (i : ℕ) → i < length body.states → slice_index bytes (2 * i + 1) ≡
        slice_index body.states i / 256
    pub biome : (i : ℕ) → i < length body.biomes → slice_index bytes (biomes_at mask sky + i) ≡
        slice_index body.biomes i
    pub size : length bytes ≡ body_size mask sky ground_up

-- the body in bytes of the right number
abbrev pub body_in : ℕ → Bool → Bool → List ℕ → BodyValue
body_in mask sky ground_up bytes = record {
  mask = mask;
  ground_up = ground_up;
  states = paired (take (block_light_at mask) bytes);
  biomes = drop (biomes_at mask sky) bytes;
}

-- what reading a body gives: its bytes are as many as the mask, the sky and the biomes make
unfoldable pub body_read : ℕ → Bool → Bool → List ℕ → Result BodyValue FieldFault
body_read mask sky ground_up bytes =
    if nat_lt (length bytes) (body_size mask sky ground_up)
    then Err (fault_at Short (length bytes))
    else if nat_lt (body_size mask sky ground_up) (length bytes)
    then Err (fault_at BadLength (body_size mask sky ground_up))
    else Ok (body_in mask sky ground_up bytes)

-- section i of a column after a body with these states: as in the body, or else air where the body
-- is ground-up
abbrev pub put_section : ℕ → Bool → List ℕ → ℕ → List ℕ → List ℕ
put_section mask ground_up states i old =
    if is_named mask i
    then section_of states (rank (is_named mask) i)
    else if ground_up
    then replicate section_cells 0
    else old

-- the column after a body is put into it
unfoldable pub put_body : ColumnValue → BodyValue → ColumnValue
put_body column body = record {
  states = joined (λ i. put_section body.mask body.ground_up body.states i (section_of column.states
      i)) section_count;
  biomes = if body.ground_up then body.biomes else column.biomes;
}

-- the body of a column for a mask, ground-up
abbrev pub column_body : ColumnValue → ℕ → BodyValue
column_body column mask = record {
  mask = mask;
  ground_up = true;
  states = joined (picked (is_named mask) (section_of column.states)) section_count;
  biomes = column.biomes;
}
