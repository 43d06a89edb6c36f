-- The mask and the bytes that a column is sent with.
use Rattle.std.proofs.Common.{◌≡◌, ◌≢◌, ℕ, zero, suc, ◌+◌, ◌*◌, ◌/◌, ◌%◌, ◌^◌, ◌<◌, Bool, true}
use Rattle.std.proofs.Common.{false, cond, List, [], ◌++◌, length, get_or, drop, replicate, Ok}
use Rattle.std.proofs.Common.{refl, sym, ap, ◌∙◌, arith, inl, inr}
use Rattle.std.proofs.lemmas.Bool.Decides.{nat_tests}
use Rattle.std.proofs.lemmas.Bool.{cases_eq, eq-eqb, ne_eqb, false≢true}
use Rattle.std.proofs.lemmas.Grind.{common_steps}
use Rattle.std.proofs.lemmas.Nat.{div_below, mod_below, div-add-mod'}
use Rattle.std.proofs.lemmas.List.{length-replicate, length-take, length-drop}
use Rattle.std.proofs.lemmas.List.{get_or_append_left, get_or-append-add, get_or-take, get_or-drop}
use Rattle.std.proofs.lemmas.List.{get_or_default, take_all}
use Rattle.mc_column.specs.Sizes.{section_count, section_cells, cells, light_bytes}
use Rattle.mc_column.specs.SizesLaws.{section_count-is, section_cells-is, light_bytes-is}
use Rattle.mc_column.specs.SizesLaws.{cells-sections}
use Rattle.mc_column.specs.Cells.{ColumnValue, HasSizes, IsAir, joined, picked, rank, section_of}
use Rattle.mc_column.specs.Cells.{wire}
use Rattle.mc_column.specs.Light.{sky_light, sky_byte, section_sky, half_of}
use Rattle.mc_column.specs.Body.{SpellsBody, is_named, named_count, block_light_at, sky_light_at}
use Rattle.mc_column.specs.Body.{body_read, put_section, put_body, column_body}
use Rattle.mc_column.specs.Sent.{bits, has_block, with_one, column_mask, body_bytes, column_bytes}
use Rattle.mc_column.specs.Sent.{IsColumnMask, SpellsColumn}
use Rattle.mc_column.specs.KeptColumn.{nth_section, kept_column, IsKeptColumn}
use Rattle.mc_column.proofs.Pairs.{wire_low, wire_high, length-wire}
use Rattle.mc_column.proofs.Pieces.{AreSized, length-joined, piece, joined_same, joined_pieces}
use Rattle.mc_column.proofs.KeptFacts.{air_test, get_or-zeros, air_or_zeros}
use Rattle.mc_column.proofs.ColumnFacts.{kept_section}
use Rattle.mc_column.proofs.BodyFacts.{blocks_even, body_read_only}
use Rattle.mc_column.proofs.PutFacts.{piece_within}
use Rattle.mc_column.proofs.MaskFacts.{bits_below, bits_same, bits_named, bits_zero}
use Rattle.mc_column.proofs.LightFacts.{in_section, air_at, half_of_sky, lit_open, dark_closed}
use Rattle.mc_column.proofs.LightFacts.{length-sky_bytes, get_or-sky_bytes}

abbrev column_with : List ℕ → List ℕ → ColumnValue
column_with states biomes = record { states = states; biomes = biomes }

-- ---- the mask

with_one_is : (mask : ℕ) → mask ≢ 0 → with_one mask ≡ mask
with_one_is mask some = rw (ne_eqb mask 0 some) refl

one_named : (i : ℕ) → is_named 1 i ≡ true → i ≡ 0
one_named zero e = refl
one_named (suc k) e = grind (arith, nat_tests)

-- what the mask does not name fails the test
pub mask_left_out : (test : ℕ → Bool) (i n : ℕ) → i < n → is_named (with_one (bits test 0 n)) i ≡
    false → test i ≡ false
mask_left_out test i n lt left_out =
    let at : 0 + i ≡ i = omega arith in
    elim (cases_eq (bits test 0 n) 0) [
      | inl none ↦ rw at at (bits_zero test 0 n i none lt)
      | inr some ↦ ap test (sym at) ∙ sym (bits_named test 0 n i lt) ∙
          rw (← with_one_is (bits test 0 n) some) left_out
    ]

-- what it names passes, unless nothing does, and then it is the lowest
pub mask_named : (test : ℕ → Bool) (i n : ℕ) → i < n → is_named (with_one (bits test 0 n)) i ≡
    true → test i ≡ false → (i ≡ 0) × (bits test 0 n ≡ 0)
mask_named test i n lt named fails =
    grind (arith, nat_tests, cases_eq, eq-eqb, one_named, bits_named, with_one_is, false≢true)

pub mask_below : (test : ℕ → Bool) → with_one (bits test 0 section_count) < 2 ^ section_count
mask_below test =
    grind (arith, nat_tests, cases_eq, eq-eqb, section_count-is, with_one_is, bits_below)

pub mask_some : (test : ℕ → Bool) → with_one (bits test 0 section_count) ≢ 0
mask_some test = grind (arith, nat_tests)

-- a column whose sections are air is air
all_air : (states : List ℕ) → length states ≡ cells → ((i : ℕ) → i < section_count →
    IsAir (section_of states i)) → IsAir states
all_air states len each k d lt =
    let wide : 0 < section_cells = rw section_cells-is (omega arith) in
    let row : k / section_cells < section_count = div_below k section_cells section_count wide
    (omega (arith, len, cells-sections)) in
    let inside : k % section_cells < section_cells = mod_below k section_cells wide in
    get_or_default states k d 0 lt
    ∙ rw (
      ← div-add-mod' k section_cells,
      ← in_section states (k / section_cells)
          (k % section_cells) inside,
    ) (air_at (section_of states (k / section_cells))
    (k % section_cells) (each (k / section_cells) row))

pub column_mask_names : (column : ColumnValue) → HasSizes column →
    IsColumnMask column (column_mask column)
unfolding column_mask
column_mask_names column sizes = record {
  below = mask_below (λ i. has_block (section_of column.states i));
  some = mask_some (λ i. has_block (section_of column.states i));
  left_out = λ i lt left_out. (air_test (section_of column.states i)).0
      (mask_left_out (λ k. has_block (section_of column.states k)) i section_count lt left_out);
  named = λ i lt named air.
      let none = mask_named (λ k. has_block (section_of column.states k)) i section_count lt named
      ((air_test (section_of column.states i)).1 air) in (
        none.0,
        all_air column.states sizes.states_are (λ k below.
            let at : 0 + k ≡ k = omega arith in
            (air_test (section_of column.states k)).0
            (rw at at (bits_zero (λ j. has_block (section_of column.states j)) 0 section_count k
            none.1 below))),
      );
}

-- the mask of the sections as they are kept is that of the column
pub kept_mask : (sections : List (List ℕ)) (biomes : List ℕ) → IsKeptColumn sections biomes →
    column_mask (kept_column sections biomes) ≡
    with_one (bits (λ i. has_block (nth_section sections i)) 0 section_count)
unfolding column_mask
kept_mask sections biomes kept =
    ap with_one (bits_same (λ i. has_block (section_of (kept_column sections biomes).states i))
    (λ i. has_block (nth_section sections i)) 0 section_count (λ k le lt.
    ap has_block (kept_section sections biomes k kept (omega arith))))

-- ---- the bytes

sections_sized : (column : ColumnValue) → HasSizes column →
    AreSized (section_of column.states) section_cells section_count
sections_sized column sizes = grind (arith, nat_tests, length-take, length-drop, cells-sections)

sky_sized : (states : List ℕ) → AreSized (section_sky states) light_bytes section_count
sky_sized states = record { at = λ k lt. length-sky_bytes states (k * section_cells) light_bytes }

-- an element behind a list
after : (xs ys : List ℕ) (n k : ℕ) → length xs ≡ n → get_or (xs ++ ys) (n + k) 0 ≡ get_or ys k 0
after xs ys n k len = rw (← len) (get_or-append-add xs ys k 0)

-- the parts of a body, and how long each is
record Parts (column : ColumnValue) (mask : ℕ) (blocks dark sky : List ℕ) : Type 0 where
  blocks_are : blocks ≡ wire (column_body column mask).states
  dark_is : dark ≡ replicate (named_count mask * light_bytes) 0
  sky_is : sky ≡ joined (picked (is_named mask) (section_sky column.states)) section_count
  blocks_len : length blocks ≡ block_light_at mask
  dark_len : length dark ≡ named_count mask * light_bytes
  sky_len : length sky ≡ named_count mask * light_bytes

parts_of : (column : ColumnValue) (mask : ℕ) → HasSizes column →
    Parts column mask (wire (column_body column mask).states)
    (replicate (named_count mask * light_bytes) 0)
    (joined (picked (is_named mask) (section_sky column.states)) section_count)
parts_of column mask sizes = grind (
  arith,
  length-wire,
  length-joined,
  sections_sized,
  blocks_even,
  length-replicate,
  sky_sized,
)

-- the body in the bytes
body_spelled : (column : ColumnValue) (mask : ℕ) (blocks dark sky : List ℕ) → HasSizes column →
    Parts column mask blocks dark sky → SpellsBody (column_body column mask) mask true true
    (blocks ++ (dark ++ (sky ++ column.biomes)))
body_spelled column mask blocks dark sky sizes parts =
    grind (arith, common_steps, length-joined, sections_sized, blocks_even, wire_low, wire_high)

-- the light of a cell in the bytes
cell_light : (column : ColumnValue) (mask : ℕ) (blocks dark sky : List ℕ) (i k : ℕ) →
    Parts column mask blocks dark sky → i < section_count → is_named mask i ≡ true →
    k < section_cells →
    half_of k (get_or (blocks ++ (dark ++ (sky ++ column.biomes))) (sky_light_at mask +
    (rank (is_named mask) i * light_bytes + k / 2)) 0) ≡
    sky_light column.states (i * section_cells + k)
cell_light column mask blocks dark sky i k parts lt named inside =
    let half : k / 2 < light_bytes = omega (arith, section_cells-is, light_bytes-is) in
    let place : sky_light_at mask + (rank (is_named mask) i * light_bytes + k / 2) ≡
    block_light_at mask + (named_count mask * light_bytes + (rank (is_named mask) i *
    light_bytes + k / 2)) = omega arith in
    let within : rank (is_named mask) i * light_bytes + k / 2 < length sky =
    omega (arith, piece_within mask i light_bytes lt named, parts.sky_len) in
    let byte : get_or (blocks ++ (dark ++ (sky ++ column.biomes))) (sky_light_at mask +
    (rank (is_named mask) i * light_bytes + k / 2)) 0 ≡
    sky_byte column.states (i * section_cells + 2 * (k / 2)) = grind (
      arith,
      after blocks (dark ++ (sky ++ column.biomes)) (block_light_at mask)
          (named_count mask * light_bytes + (rank (is_named mask) i * light_bytes + k / 2))
          parts.blocks_len,
      after dark (sky ++ column.biomes) (named_count mask * light_bytes)
          (rank (is_named mask) i * light_bytes + k / 2) parts.dark_len,
      get_or_append_left sky column.biomes 0 (rank (is_named mask) i * light_bytes + k / 2) within,
      get_or-drop (rank (is_named mask) i * light_bytes) sky (k / 2) 0,
      get_or-take light_bytes (drop (rank (is_named mask) i * light_bytes) sky) (k / 2) 0 half,
      piece (is_named mask) (section_sky column.states) light_bytes i section_count
          (sky_sized column.states) lt named,
      get_or-sky_bytes column.states (i * section_cells) light_bytes (k / 2) half,
    ) in
    rw byte (half_of_sky column.states (i * section_cells) k)

pub body_bytes_spell : (column : ColumnValue) (mask : ℕ) → HasSizes column →
    SpellsColumn column mask (body_bytes column mask)
unfolding body_bytes
body_bytes_spell column mask sizes =
    let parts = parts_of column mask sizes in
    record {
      body = body_spelled column mask _ _ _ sizes parts;
      block_light = λ k lt.
          after _ _ (block_light_at mask) k parts.blocks_len
          ∙ get_or_append_left (replicate (named_count mask * light_bytes) 0) _ 0 k
          (omega (arith, parts.dark_len))
          ∙ get_or-zeros (named_count mask * light_bytes) k;
      lit = λ i k lt named inside open'. cell_light column mask _ _ _ i k parts lt named inside ∙
          lit_open column.states (i * section_cells + k) open';
      dark = λ i k lt named inside closed. cell_light column mask _ _ _ i k parts lt named inside ∙
          dark_closed column.states (i * section_cells + k) closed;
    }

-- ---- the laws

pub column_read : (column : ColumnValue) → HasSizes column →
    body_read (column_mask column) true true (column_bytes column) ≡
    Ok (column_body column (column_mask column))
column_read column sizes = body_read_only (column_body column (column_mask column))
    (column_mask column) true true (column_bytes column)
    (body_bytes_spell column (column_mask column) sizes).body

-- the section that the column's body makes
section_again : (column : ColumnValue) (mask i : ℕ) (old : List ℕ) → HasSizes column →
    i < section_count → (is_named mask i ≡ false → IsAir (section_of column.states i)) →
    put_section mask true (column_body column mask).states i old ≡ section_of column.states i
section_again column mask i old sizes lt air =
    grind (arith, nat_tests, piece, sections_sized, air_or_zeros)

pub column_again : (column old : ColumnValue) → HasSizes column →
    put_body old (column_body column (column_mask column)) ≡ column
unfolding put_body
column_again column old sizes =
    let names = column_mask_names column sizes in
    let each : joined (λ i. put_section (column_mask column) true
    (column_body column (column_mask column)).states i (section_of old.states i)) section_count
    ≡ joined (section_of column.states) section_count =
    joined_same (λ i. put_section (column_mask column) true
    (column_body column (column_mask column)).states i (section_of old.states i))
    (section_of column.states) section_count (λ k lt. section_again column (column_mask column)
    k (section_of old.states k) sizes lt (names.left_out k lt)) in
    let whole : joined (section_of column.states) section_count ≡ column.states =
    joined_pieces column.states section_cells section_count ∙
    take_all (section_count * section_cells) column.states (omega (
      arith,
      sizes.states_are,
      cells-sections,
    )) in
    ap (λ (states : List ℕ). column_with states column.biomes) (each ∙ whole)

-- ---- as the column is kept

-- the states that are sent are those of the sections that are kept
pub kept_states : (sections : List (List ℕ)) (biomes : List ℕ) (mask : ℕ) →
    IsKeptColumn sections biomes → joined (picked (is_named mask) (nth_section sections))
    section_count ≡ (column_body (kept_column sections biomes) mask).states
kept_states sections biomes mask kept =
    joined_same (picked (is_named mask) (nth_section sections))
    (picked (is_named mask) (section_of (kept_column sections biomes).states)) section_count
    (λ k lt. ap (λ (t : List ℕ). cond (is_named mask k) t [])
    (sym (kept_section sections biomes k kept lt)))

-- a section that the mask leaves out is air
pub kept_left_out : (sections : List (List ℕ)) (mask i : ℕ) →
    mask ≡ with_one (bits (λ k. has_block (nth_section sections k)) 0 section_count) →
    i < section_count → is_named mask i ≡ false → IsAir (nth_section sections i)
kept_left_out sections mask i is lt left_out = grind (arith, nat_tests, air_test, mask_left_out)
