-- Sections after a body is put into them.
use Rattle.std.proofs.Common.{◌≡◌, ℕ, ◌+◌, ◌*◌, ◌<◌, ◌≤◌, ◌||◌, Bool, true, cond, List, []}
use Rattle.std.proofs.Common.{length, take, drop, refl, sym, ap, ◌∙◌, arith}
use Rattle.std.proofs.lemmas.Bool.Decides.{nat_tests}
use Rattle.std.proofs.lemmas.List.{length-replicate, length-take, length-drop}
use Rattle.mc_column.specs.Sizes.{section_count, section_cells, squares}
use Rattle.mc_column.specs.Cells.{ColumnValue, joined, section_of, rank, paired}
use Rattle.mc_column.specs.Body.{BodyValue, is_named, named_count, put_section, put_body}
use Rattle.mc_column.specs.KeptColumn.{nth_section, kept_column, IsKeptColumn}
use Rattle.mc_column.proofs.Pairs.{paired-take, paired-drop}
use Rattle.mc_column.proofs.Pieces.{rank_below, joined_same}
use Rattle.mc_column.proofs.ColumnFacts.{kept_section}

abbrev column_of : List ℕ → List ℕ → ColumnValue
column_of states biomes = record { states = states; biomes = biomes }

-- sections that were made for a body, put where the mask names them or the body is ground-up
pub laid : (mask : ℕ) (ground_up : Bool) (states : List ℕ) (old made new : List (List ℕ)) →
    ((k : ℕ) → k < section_count → nth_section made k ≡ put_section mask true states k []) →
    ((k : ℕ) → k < section_count → nth_section new k ≡ cond (ground_up || is_named mask k)
    (nth_section made k) (nth_section old k)) → (k : ℕ) → k < section_count → nth_section new k ≡
    put_section mask ground_up states k (nth_section old k)
laid mask ground_up states old made new makes puts k lt = grind (arith, nat_tests)

-- a piece of the blocks' bytes is a section of their states
pub piece_of_blocks : (blocks : List ℕ) (r n : ℕ) →
    paired (take (2 * n) (drop (r * (2 * n)) blocks)) ≡ take n (drop (r * n) (paired blocks))
piece_of_blocks blocks r n =
    grind (arith, nat_tests, paired-take n (drop (2 * (r * n)) blocks), paired-drop (r * n) blocks)

-- there are bytes for each section that the mask names
pub piece_within : (mask i n : ℕ) → i < section_count → is_named mask i ≡ true →
    rank (is_named mask) i * n + n ≤ named_count mask * n
piece_within mask i n lt named =
    grind (arith, nat_tests, rank_below (is_named mask) i section_count lt named)

-- a section keeps its size
pub length-put_section : (mask : ℕ) (ground_up : Bool) (states : List ℕ) (i : ℕ) (old : List ℕ) →
    i < section_count → length states ≡ named_count mask * section_cells →
    length old ≡ section_cells → length (put_section mask ground_up states i old) ≡ section_cells
length-put_section mask ground_up states i old lt len sized =
    grind (arith, nat_tests, length-take, length-drop, piece_within, length-replicate)

pub kept_put_keeps : (sections new : List (List ℕ)) (biomes biomes' : List ℕ) (mask : ℕ)
    (ground_up : Bool) (states : List ℕ) → IsKeptColumn sections biomes →
    length new ≡ section_count → ((k : ℕ) → k < section_count → nth_section new k ≡
    put_section mask ground_up states k (nth_section sections k)) → length states ≡
    named_count mask * section_cells → length biomes' ≡ squares → IsKeptColumn new biomes'
kept_put_keeps sections new biomes biomes' mask ground_up states kept len each sized squared =
    grind (arith, nat_tests, length-put_section)

-- the column is the one that the body makes
pub kept_put : (sections new : List (List ℕ)) (biomes biomes' : List ℕ) (body : BodyValue) →
    IsKeptColumn sections biomes → ((k : ℕ) → k < section_count → nth_section new k ≡
    put_section body.mask body.ground_up body.states k (nth_section sections k)) →
    biomes' ≡ cond body.ground_up body.biomes biomes → kept_column new biomes' ≡
    put_body (kept_column sections biomes) body
unfolding put_body
kept_put sections new biomes biomes' body kept each is =
    let column = kept_column sections biomes in
    let states : joined (nth_section new) section_count ≡
    joined (λ i. put_section body.mask body.ground_up body.states i
    (section_of (kept_column sections biomes).states i)) section_count = joined_same
    (nth_section new) (λ i. put_section body.mask body.ground_up body.states i
    (section_of (kept_column sections biomes).states i)) section_count (λ k lt. each k lt ∙
    ap (λ (old : List ℕ). put_section body.mask body.ground_up body.states k old)
    (sym (kept_section sections biomes k kept lt))) in
    same_column (joined (nth_section new) section_count)
    (joined (λ i. put_section body.mask body.ground_up body.states i
    (section_of (kept_column sections biomes).states i)) section_count) biomes'
    (cond body.ground_up body.biomes biomes) states is
  where
    same_column : (a b c d : List ℕ) → a ≡ b → c ≡ d → column_of a c ≡ column_of b d
    same_column a b c d e f = rw (e, f) refl
