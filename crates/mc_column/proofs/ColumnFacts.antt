-- A column that is kept as sections, seen as one list of states.
use Rattle.std.proofs.Common.{◌≡◌, ℕ, ◌+◌, ◌*◌, ◌/◌, ◌%◌, ◌<◌, List, [], length, get_or, set}
use Rattle.std.proofs.Common.{replicate, refl, ap, ◌∙◌, arith}
use Rattle.std.proofs.lemmas.Bool.Decides.{nat_tests}
use Rattle.std.proofs.lemmas.Bool.{cases_eq}
use Rattle.std.proofs.lemmas.List.{get_or-set_same, get_or-set_other, length-set, get_or-replicate}
use Rattle.std.proofs.lemmas.List.{length-replicate}
use Rattle.mc_column.specs.Sizes.{section_count, section_cells, cells, squares}
use Rattle.mc_column.specs.SizesLaws.{section_count-is}
use Rattle.mc_column.specs.SizesLaws.{section_cells-is, cells-sections}
use Rattle.mc_column.specs.Cells.{ColumnValue, HasSizes, section_of, cell_index, with_section}
use Rattle.mc_column.specs.Cells.{with_state}
use Rattle.mc_column.specs.KeptColumn.{nth_section, kept_column, IsKeptColumn}
use Rattle.mc_column.proofs.Pieces.{AreSized, piece_all, length-joined_all, get_or-joined}
use Rattle.mc_column.proofs.Pieces.{joined-put, joined-set, joined_copies}

abbrev pub column_of : List ℕ → List ℕ → ColumnValue
column_of states biomes = record { states = states; biomes = biomes }

are_sized : (sections : List (List ℕ)) (biomes : List ℕ) → IsKeptColumn sections biomes →
    AreSized (nth_section sections) section_cells section_count
are_sized sections biomes kept = record { at = kept.sized }

-- the states of a section are that section
pub kept_section : (sections : List (List ℕ)) (biomes : List ℕ) (i : ℕ) →
    IsKeptColumn sections biomes → i < section_count →
    section_of (kept_column sections biomes).states i ≡ nth_section sections i
kept_section sections biomes i kept lt = grind (arith, nat_tests, piece_all, are_sized)

pub kept_sizes : (sections : List (List ℕ)) (biomes : List ℕ) → IsKeptColumn sections biomes →
    HasSizes (kept_column sections biomes)
kept_sizes sections biomes kept =
    grind (arith, nat_tests, length-joined_all, are_sized, cells-sections)

-- a cell's index is that of its section, and its index in there
cell_place : (x y z : ℕ) → cell_index x y z ≡ y / 16 * section_cells + (y % 16 * 256 + z * 16 + x)
cell_place x y z = rw section_cells-is (omega arith)

pub kept_state : (sections : List (List ℕ)) (biomes : List ℕ) (x y z : ℕ) →
    IsKeptColumn sections biomes → x < 16 → z < 16 → y < 256 →
    get_or (kept_column sections biomes).states (cell_index x y z) 0 ≡
    get_or (nth_section sections (y / 16)) (y % 16 * 256 + z * 16 + x) 0
kept_state sections biomes x y z kept xs zs ys =
    rw (cell_place x y z) (get_or-joined (nth_section sections) section_cells (y / 16)
    (y % 16 * 256 + z * 16 + x) section_count (are_sized sections biomes kept)
    (omega (arith, section_count-is)) (omega (arith, section_cells-is)))

-- one state is put into one section
pub kept_with : (sections : List (List ℕ)) (biomes section : List ℕ) (x y z state : ℕ) →
    IsKeptColumn sections biomes → x < 16 → z < 16 → y < 256 →
    section ≡ set (nth_section sections (y / 16)) (y % 16 * 256 + z * 16 + x) state →
    kept_column (set sections (y / 16) section) biomes ≡ with_state (kept_column sections biomes)
    (cell_index x y z) state
kept_with sections biomes section x y z state kept xs zs ys is =
    let i_in : y / 16 < section_count = omega (arith, section_count-is) in
    let k_in : y % 16 * 256 + z * 16 + x < section_cells = omega (arith, section_cells-is) in
    let there : y / 16 < length sections = omega (arith, kept.all_there) in
    ap (λ (t : List ℕ). record { states = t; biomes = biomes })
    (rw (cell_place x y z) (joined-set (nth_section sections)
    (nth_section (set sections (y / 16) section)) section_cells (y / 16) (y % 16 * 256 + z *
    16 + x) state section_count (are_sized sections biomes kept) i_in k_in
    (get_or-set_same sections (y / 16) section [] there ∙ is) (λ j ne. get_or-set_other sections
    (y / 16) j section [] ne)))

pub kept_with_keeps : (sections : List (List ℕ)) (biomes section : List ℕ) (i : ℕ) →
    IsKeptColumn sections biomes → length section ≡ section_cells →
    IsKeptColumn (set sections i section) biomes
kept_with_keeps sections biomes section i kept len =
    grind (arith, nat_tests, length-set, cases_eq, get_or-set_same, get_or-set_other)

-- sections of air are a column of air
pub kept_air : (sections : List (List ℕ)) (biomes : List ℕ) (n : ℕ) → n ≡ section_count →
    length biomes ≡ squares → sections ≡ replicate n (replicate section_cells 0) →
    IsKeptColumn sections biomes × (kept_column sections biomes ≡ column_of (replicate cells 0)
    biomes)
kept_air sections biomes n all squared air =
    grind (arith, nat_tests, get_or-replicate, length-replicate, joined_copies, cells-sections)

-- a section is put in place of another
pub kept_put_section : (sections : List (List ℕ)) (biomes section : List ℕ) (i : ℕ) →
    IsKeptColumn sections biomes → i < section_count → length section ≡ section_cells →
    kept_column (set sections i section) biomes ≡ with_section (kept_column sections biomes) i
    section
kept_put_section sections biomes section i kept lt len =
    let there : i < length sections = omega (arith, kept.all_there) in
    let here : nth_section (set sections i section) i ≡ section =
    get_or-set_same sections i section [] there in
    let joined' = joined-put (nth_section sections) (nth_section (set sections i section))
    section_cells i section_count (are_sized sections biomes kept) lt (ap length here ∙ len)
    (λ j ne. get_or-set_other sections i j section [] ne) in
    ap (λ (t : List ℕ). column_of t biomes) (joined' ∙ rw here refl)
