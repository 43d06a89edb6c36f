-- How many cells of a column are not air, section by section.
use Rattle.std.proofs.Common.{◌≡◌, ℕ, ◌+◌, ◌*◌, ◌<◌, ◌≤◌, List, length, take, drop}
use Rattle.std.proofs.Common.{ap, sym, ◌∙◌, arith, refl}
use Rattle.std.proofs.lemmas.List.{length-take-le, length-drop, take_all}
use Rattle.std.proofs.lemmas.List.Sums.{sum_by-append}
use Rattle.std.proofs.Math.Seq.{take-add}
use Rattle.mc_column.specs.Cells.{IsAir, section_of}
use Rattle.mc_column.specs.Kept.{block_of, blocks_in}
use Rattle.mc_column.specs.Sizes.{cells, section_cells}
use Rattle.mc_column.specs.SizesLaws.{cells-is, section_cells-is}
use Rattle.mc_column.proofs.KeptFacts.{air_counted}

pub section_len : (states : List ℕ) (i : ℕ) → length states ≡ cells → i < 16 →
    length (section_of states i) ≡ section_cells
section_len states i sized lt =
    let below : i * section_cells ≡ i * 4096 = ap (λ (n : ℕ). i * n) section_cells-is in
    let left : section_cells ≤ length (drop (i * section_cells) states) = omega (
      arith,
      length-drop (i * section_cells) states,
      sized,
      cells-is,
      section_cells-is,
      below,
      lt,
    ) in
    length-take-le section_cells (drop (i * section_cells) states) left

pub none_in : (states : List ℕ) (i : ℕ) → IsAir (section_of states i) →
    0 ≡ blocks_in (section_of states i)
none_in states i air =
    sym ((air_counted (section_of states i) (blocks_in (section_of states i)) refl).1 air)

-- those of one section more
pub more_in : (states : List ℕ) (i count more : ℕ) →
    count ≡ blocks_in (take (i * section_cells) states) → more ≡ blocks_in (section_of states i) →
    count + more ≡ blocks_in (take ((i + 1) * section_cells) states)
more_in states i count more a b =
    let next : (i + 1) * section_cells ≡ i * section_cells + section_cells = omega arith in
    ap (λ (n : ℕ). n + more) a ∙ ap (λ (n : ℕ). blocks_in (take (i * section_cells) states) + n) b
    ∙ sym (ap (λ (n : ℕ). blocks_in (take n states)) next
    ∙ ap blocks_in (take-add (i * section_cells) section_cells states)
    ∙ sum_by-append block_of (take (i * section_cells) states) (section_of states i))

-- and of all of them
pub all_in : (states : List ℕ) (i count : ℕ) → length states ≡ cells → 16 ≤ i →
    count ≡ blocks_in (take (i * section_cells) states) → count ≡ blocks_in states
all_in states i count sized le a =
    let below : i * section_cells ≡ i * 4096 = ap (λ (n : ℕ). i * n) section_cells-is in
    let whole : length states ≤ i * section_cells = omega (arith, sized, cells-is, below, le) in
    a ∙ ap blocks_in (take_all (i * section_cells) states whole)
