-- A column that grows layer by layer is the terrain's own.
use Rattle.std.proofs.Common.{◌≡◌, ℕ, zero, suc, ◌+◌, ◌*◌, ◌-◌, ◌/◌, ◌%◌, ◌<◌, ◌≤◌}
use Rattle.std.proofs.Common.{eqb, cond, List, [], ◌∷◌, ◌++◌, length}
use Rattle.std.proofs.Common.{map, get_or, take, drop, replicate, refl, sym, ap, ◌∙◌, arith}
use Rattle.std.proofs.Common.{inl, inr}
use Rattle.std.proofs.lemmas.Bool.Decides.{nat_tests}
use Rattle.std.proofs.lemmas.List.{ext_get_or, map-append, length-append, length-take, length-drop}
use Rattle.std.proofs.lemmas.List.{length-replicate, get_or-take, get_or-drop, get_or_append_left}
use Rattle.std.proofs.lemmas.List.{get_or-append_right, get_or_push, take_all}
use Rattle.std.proofs.lemmas.List.FromFn.{get_or-map-range_with_len, length-map-range_with_len}
use Rattle.std.proofs.lemmas.List.Sums.{sum_by-cons, sum_by-append}
use Rattle.std.proofs.lemmas.Bool.{cases_lt}
use Rattle.std.specs.List.{range_with_len, sum_by}
use Rattle.mc_column.specs.Sizes.{cells, section_cells, section_count, squares}
use Rattle.mc_column.specs.SizesLaws.{squares-is}
use Rattle.mc_column.specs.SizesLaws.{cells-is, section_cells-is, section_count-is}
use Rattle.mc_column.specs.Cells.{ColumnValue, with_section}
use Rattle.mc_column.specs.Kept.{block_of, blocks_in}
use Rattle.mc_column.proofs.KeptFacts.{air_counted, get_or-zeros}
use Rattle.mc_land.specs.declared.terrain.Terrain.{Terrain}
use Rattle.mc_land.specs.declared.terrain.Terrain.TheVariants.{Flat, Hills, Isle}
use Rattle.mc_land.specs.Places.{Place, x_of, y_of, z_of}
use Rattle.mc_land.specs.Terrain.{flat_id, hills_biome, hills_id, height, isle_id, is_within_16}
use Rattle.mc_land.specs.Terrain.{terrain_biome}
use Rattle.mc_land.specs.Land.{terrain_at, biomes_of}
use Rattle.mc_land.specs.Grown.{own_column, x_at, z_at}
use Rattle.mc_land.specs.GrownCode.{AppendsLayer, AreTops, IsGrown, fills, low_of}
use Rattle.mc_land.specs.GrownCode.{own_section, reach_in}
use lib.IntN.{ℤ, pos, ◌+ℤ◌, ◌*ℤ◌}

-- a list that is known at each place
pub listed_by : (f : ℕ → ℕ) (n : ℕ) (xs : List ℕ) → length xs ≡ n →
    ((k : ℕ) → k < n → get_or xs k 0 ≡ f k) → xs ≡ map f (range_with_len 0 n)
listed_by f n xs len each =
    ext_get_or 0 xs (map f (range_with_len 0 n)) (len ∙ sym (length-map-range_with_len f 0 n))
    (λ k lt. each k (omega (arith, len)) ∙
    sym (get_or-map-range_with_len f 0 n k k 0 (omega (arith, len)) (omega arith)))

-- ---- layers

layer_same : (old new : List ℕ) (f g : ℕ → ℕ) → AppendsLayer old new f →
    ((i : ℕ) → i < squares → f i ≡ g i) → AppendsLayer old new g
layer_same old new f g layer same = grind (arith, nat_tests)

layer_y : (place : Place) (y i : ℕ) → i < squares → y_of (place, y * squares + i) ≡ y
layer_y place y i lt = grind (arith, nat_tests, squares-is)

layer_x : (place : Place) (y i : ℕ) → i < squares → x_of (place, y * squares + i) ≡ x_at place i
layer_x place y i lt = grind (arith, nat_tests, squares-is)

layer_z : (place : Place) (y i : ℕ) → i < squares → z_of (place, y * squares + i) ≡ z_at place i
layer_z place y i lt = grind (arith, nat_tests, squares-is)

pub flat_layer : (place : Place) (y : ℕ) (old new : List ℕ) →
    AppendsLayer old new (λ _. flat_id y * 16) →
    AppendsLayer old new (λ i. terrain_at Flat (place, y * squares + i))
flat_layer place y old new layer = grind (arith, nat_tests, layer_same old new, layer_y place y)

pub hills_layer : (seed : ℕ) (place : Place) (y : ℕ) (tops old new : List ℕ) →
    AreTops (Hills seed) place tops → AppendsLayer old new (λ i. hills_id (get_or tops i 0) y * 16)
    → AppendsLayer old new (λ i. terrain_at (Hills seed) (place, y * squares + i))
hills_layer seed place y tops old new are layer =
    layer_same old new (λ i. hills_id (get_or tops i 0) y * 16) (λ i. terrain_at (Hills seed)
    (place, y * squares + i)) layer (λ i lt.
    rw (are.at seed i refl lt, layer_x place y i lt, layer_y place y i lt, layer_z place y i lt)
    refl)

-- ---- a section of layers

pub layers_more : (f : ℕ → ℕ) (y : ℕ) (old new : List ℕ) → length old ≡ y * squares →
    ((k : ℕ) → k < length old → get_or old k 0 ≡ f k) →
    AppendsLayer old new (λ i. f (y * squares + i)) → (length new ≡ (y + 1) * squares) × ((k : ℕ) →
    k < length new → get_or new k 0 ≡ f k)
layers_more f y old new len own layer = (
  more (length new) (length old) y squares layer.len len,
  λ k lt. elim (cases_lt k (length old)) [
    | inl below ↦ layer.kept k below ∙ own k below
    | inr above ↦
        let there : length old + (k - length old) ≡ k = omega arith in
        let index : y * squares + (k - length old) ≡ k = ap (λ (n : ℕ). n + (k - length old))
        (sym len) ∙ there in
        ap (λ (n : ℕ). get_or new n 0) (sym there) ∙
        layer.layer (k - length old) (omega (arith, layer.len)) ∙ ap f index
  ],
)
  where
    more : (a b y n : ℕ) → a ≡ b + n → b ≡ y * n → a ≡ (y + 1) * n
    more a b y n e f = grind arith

-- a layer of the column is one of its section
pub section_layer : (terrain : Terrain) (place : Place) (i y z : ℕ) (old new : List ℕ) →
    z ≡ 16 * i + y → AppendsLayer old new (λ t. terrain_at terrain (place, z * squares + t)) →
    AppendsLayer old new (λ t. terrain_at terrain (place, i * section_cells + (y * squares + t)))
section_layer terrain place i y z old new is layer =
    grind (arith, nat_tests, layer_same, section_cells-is, squares-is)

pub section_all : (terrain : Terrain) (place : Place) (i y : ℕ) (states : List ℕ) → y ≡ 16 →
    length states ≡ y * squares → ((k : ℕ) → k < length states → get_or states k 0 ≡
    terrain_at terrain (place, i * section_cells + k)) → states ≡ own_section terrain place i
section_all terrain place i y states all len own =
    grind (arith, nat_tests, squares-is, section_cells-is, listed_by)

-- ---- how many blocks a section has

-- a range of numbers, from the front
range_more : (a n m : ℕ) → range_with_len a (n + m) ≡ range_with_len a n ++ range_with_len (a + n) m
range_more a zero m = grind (arith, nat_tests)
range_more a (suc n) m =
    let e : suc n + m ≡ suc (n + m) = omega arith in
    let f : a + 1 + n ≡ a + suc n = omega arith in
    rw e (ap (λ (t : List ℕ). a ∷ t) (range_more (a + 1) n m ∙ rw f refl))

-- the blocks of a layer, by the tops of its places
layer_blocks : (g h : ℕ → ℕ) (tops : List ℕ) (a b n : ℕ) → length tops ≡ n →
    ((t : ℕ) → t < n → block_of (g (a + t)) ≡ h (get_or tops t 0)) → b ≡ a →
    sum_by block_of (map g (range_with_len b n)) ≡ sum_by h tops
layer_blocks g h [] a b zero len each e = refl
layer_blocks g h [] a b (suc n) len each e = absurd (omega arith)
layer_blocks g h (x ∷ xs) a b zero len each e = absurd (omega arith)
layer_blocks g h (x ∷ xs) a b (suc n) len each e =
    let first : b ≡ a + 0 = omega arith in
    let here : block_of (g b) ≡ h x = ap (λ (k : ℕ). block_of (g k)) first ∙ each 0 (omega arith) in
    let rest : sum_by block_of (map g (range_with_len (b + 1) n)) ≡ sum_by h xs =
    layer_blocks g h xs (a + 1) (b + 1) n (omega arith) (λ t lt. let next : a + 1 + t ≡
    a + suc t = omega arith in rw next (each (suc t) (omega arith))) (omega arith) in
    sum_by-cons block_of (g b) (map g (range_with_len (b + 1) n)) ∙
    rw (here, rest) (sym (sum_by-cons h x xs))

-- one height more lets each top reach one block further, or not
reach_more : (terrain : Terrain) (i n top : ℕ) → reach_in (low_of terrain i) (16 * i + n + 1) top ≡
    reach_in (low_of terrain i) (16 * i + n) top + fills terrain top (16 * i + n)
reach_more terrain i n top = grind (arith, nat_tests)

-- below the section's first layer none reaches
reach_none : (terrain : Terrain) (i top : ℕ) → reach_in (low_of terrain i) (16 * i + 0) top ≡ 0
reach_none terrain i top = grind (arith, nat_tests)

sum_none : (h : ℕ → ℕ) (xs : List ℕ) → ((x : ℕ) → h x ≡ 0) → sum_by h xs ≡ 0
sum_none h [] none = refl
sum_none h (x ∷ xs) none = sum_by-cons h x xs ∙ rw (none x, sum_none h xs none) refl

sum_both : (f g h : ℕ → ℕ) (xs : List ℕ) → ((x : ℕ) → h x ≡ f x + g x) →
    sum_by h xs ≡ sum_by f xs + sum_by g xs
sum_both f g h [] both = refl
sum_both f g h (x ∷ xs) both = grind (arith, nat_tests, sum_both f g h xs both, sum_by-cons)

-- the blocks of the lowest n layers of a section
pub layers_blocks : (terrain : Terrain) (place : Place) (tops : List ℕ) (i n : ℕ) →
    AreTops terrain place tops →
    sum_by block_of (map (λ k. terrain_at terrain (place, i * section_cells + k))
    (range_with_len 0 (n * squares))) ≡ sum_by (reach_in (low_of terrain i) (16 * i + n)) tops
layers_blocks terrain place tops i zero are = grind (arith, nat_tests, sum_none, reach_none)
layers_blocks terrain place tops i (suc n) are =
    let f = λ (k : ℕ). terrain_at terrain (place, i * section_cells + k) in
    let more : suc n * squares ≡ n * squares + squares = grind arith in
    let next : 16 * i + suc n ≡ 16 * i + n + 1 = omega arith in
    let zero' : 0 + n * squares ≡ n * squares = omega arith in
    let one : sum_by block_of (map (λ k. terrain_at terrain (place, i * section_cells + k))
    (range_with_len (n * squares) squares)) ≡ sum_by (λ top. fills terrain top (16 * i + n))
    tops = layer_blocks (λ k. terrain_at terrain (place, i * section_cells + k))
    (λ top. fills terrain top (16 * i + n)) tops (n * squares) (n * squares) squares are.sized
    (λ t lt. let there : i * section_cells + (n * squares + t) ≡ (16 * i + n) * squares +
    t = rw (section_cells-is, squares-is) (omega arith) in
    ap (λ (k : ℕ). block_of (terrain_at terrain (place, k))) there ∙
    are.reach (16 * i + n) t lt) refl in
    rw (
      more,
      range_more 0 (n * squares) squares,
      zero',
      map-append (λ k. terrain_at terrain (place, i * section_cells + k))
          (range_with_len 0 (n * squares)) (range_with_len (n * squares) squares),
      sum_by-append block_of (map (λ k. terrain_at terrain (place, i * section_cells + k))
          (range_with_len 0 (n * squares)))
          (map (λ k. terrain_at terrain (place, i * section_cells + k))
          (range_with_len (n * squares) squares)),
      layers_blocks terrain place tops i n are,
      one,
      next,
    )
    (sym (sum_both (reach_in (low_of terrain i) (16 * i + n)) (λ top. fills terrain top
    (16 * i + n)) (reach_in (low_of terrain i) (16 * i + n + 1)) tops (reach_more terrain i n)))

-- all blocks of a section
pub section_blocks : (terrain : Terrain) (place : Place) (tops : List ℕ) (i : ℕ) →
    AreTops terrain place tops → sum_by (reach_in (low_of terrain i) (16 * i + 16)) tops ≡
    blocks_in (own_section terrain place i)
section_blocks terrain place tops i are =
    let all : 16 * squares ≡ section_cells = rw (squares-is, section_cells-is) refl in
    sym (ap (λ (n : ℕ). sum_by block_of
    (map (λ k. terrain_at terrain (place, i * section_cells + k)) (range_with_len 0 n)))
    (sym all) ∙ layers_blocks terrain place tops i 16 are)

-- all places of a section are counted
pub filled_all : (terrain : Terrain) (place : Place) (tops : List ℕ) (i low high total k : ℕ) →
    AreTops terrain place tops → low ≡ low_of terrain i → high ≡ 16 * i + 16 → length tops ≤ k →
    total ≡ sum_by (reach_in low high) (take k tops) →
    total ≡ blocks_in (own_section terrain place i)
filled_all terrain place tops i low high total k are l h all is =
    grind (arith, nat_tests, take_all, section_blocks)

-- the tops of the places below i
pub record AreTopsTo (terrain : Terrain) (place : Place) (tops : List ℕ) (i : ℕ) : Type 0 where
  pub sized : length tops ≡ i
  pub at : (seed k : ℕ) → terrain ≡ Hills seed → k < i → get_or tops k 0 ≡
      height seed (x_at place k) (z_at place k)
  pub reach : (y k : ℕ) → k < i → block_of (terrain_at terrain (place, y * squares + k)) ≡
      fills terrain (get_or tops k 0) y
  pub small : (k : ℕ) → k < i → get_or tops k 0 < 256
  pub low : (seed k : ℕ) → terrain ≡ Hills seed → k < i → 40 ≤ get_or tops k 0
  pub high : (seed k : ℕ) → terrain ≡ Hills seed → k < i → get_or tops k 0 ≤ 54

pub tops_none : (terrain : Terrain) (place : Place) (tops : List ℕ) → tops ≡ [] →
    AreTopsTo terrain place tops 0
tops_none terrain place tops none = grind (arith, nat_tests)

pub tops_more : (terrain : Terrain) (place : Place) (tops new : List ℕ) (i top : ℕ) →
    AreTopsTo terrain place tops i → new ≡ tops ++ top ∷ [] → ((seed : ℕ) → terrain ≡ Hills seed →
    top ≡ height seed (x_at place i) (z_at place i)) →
    ((y : ℕ) → block_of (terrain_at terrain (place, y * squares + i)) ≡ fills terrain top y) →
    top < 256 → ((seed : ℕ) → terrain ≡ Hills seed → 40 ≤ top) →
    ((seed : ℕ) → terrain ≡ Hills seed → top ≤ 54) → AreTopsTo terrain place new (i + 1)
tops_more terrain place tops new i top are is at' reach' small' low' high' =
    grind (arith, nat_tests, length-append, cases_lt, get_or_append_left, get_or_push)

pub tops_all : (terrain : Terrain) (place : Place) (tops : List ℕ) (i : ℕ) → i ≡ squares →
    AreTopsTo terrain place tops i → AreTops terrain place tops
tops_all terrain place tops i all are = grind (arith, nat_tests)

-- ---- section upon section

sections_all : (i : ℕ) → i ≡ section_count → i * section_cells ≡ cells
sections_all i e = rw (e, section_count-is, section_cells-is, cells-is) refl

next_section : (i n : ℕ) → (i + 1) * n ≡ i * n + n
next_section i n = grind arith

-- a column of air is grown up to its first section
pub grown_none : (terrain : Terrain) (place : Place) (column : ColumnValue) (biomes : List ℕ) →
    biomes ≡ biomes_of terrain place → column ≡ record {
      states = replicate cells 0;
      biomes = biomes;
    } → IsGrown terrain place column 0
grown_none terrain place column biomes own is =
    grind (arith, nat_tests, length-replicate, length-map-range_with_len, get_or-zeros)

-- a section without a block is air already
pub grown_air : (terrain : Terrain) (place : Place) (column : ColumnValue) (i filled : ℕ) →
    filled ≡ blocks_in (own_section terrain place i) → filled ≡ 0 → IsGrown terrain place column i →
    IsGrown terrain place column (i + 1)
grown_air terrain place column i filled count none grown =
    let next = next_section i section_cells in
    let air = (air_counted (own_section terrain place i) filled count).0 none in
    let len : length (own_section terrain place i) ≡ section_cells =
    length-map-range_with_len (λ k. terrain_at terrain (place, i * section_cells + k)) 0
    section_cells in
    record {
      sizes = grown.sizes;
      biomes = grown.biomes;
      own = λ k lt. elim (cases_lt k (i * section_cells)) [
        | inl below ↦ grown.own k below
        | inr above ↦
            let within : k - i * section_cells < section_cells = omega (arith, next) in
            let there : i * section_cells + (k - i * section_cells) ≡ k = omega arith in
            grown.air k above ∙ sym (ap (λ (n : ℕ). terrain_at terrain (place, n)) (sym there) ∙
            sym (get_or-map-range_with_len (λ n. terrain_at terrain (
              place,
              i * section_cells +
                  n,
            )) 0 section_cells (k - i * section_cells) (k - i * section_cells) 0 within
            (omega arith)) ∙ air (k - i * section_cells) 0 (omega (arith, len)))
      ];
      air = λ k le. grown.air k (omega (arith, next));
    }

-- a section is put upon those below it
pub grown_more : (terrain : Terrain) (place : Place) (column new : ColumnValue) (i : ℕ)
    (states : List ℕ) → i < 16 → states ≡ own_section terrain place i →
    new ≡ with_section column i states → IsGrown terrain place column i →
    IsGrown terrain place new (i + 1)
grown_more terrain place column new i states lt own is grown =
    let next = next_section i section_cells in
    let len : length (own_section terrain place i) ≡ section_cells =
    length-map-range_with_len (λ k. terrain_at terrain (place, i * section_cells + k)) 0
    section_cells in
    let all = grown.sizes.states_are in
    let room : i * section_cells + section_cells ≤ cells =
    rw (section_cells-is, cells-is) (omega arith) in
    let front : length (take (i * section_cells) column.states) ≡ i * section_cells =
    omega (arith, length-take (i * section_cells) column.states, all, room) in
    let rest = length-drop (i * section_cells + section_cells) column.states in
    let both = length-append (own_section terrain place i) (drop (i * section_cells + section_cells)
    column.states) in
    rw (is, own) (record {
      sizes = grind (arith, nat_tests, length-append);
      biomes = grown.biomes;
      own = λ k below. elim (cases_lt k (i * section_cells)) [
        | inl low ↦ grind (arith, nat_tests, get_or_append_left, get_or-take)
        | inr high ↦ grind (
          arith,
          get_or-append_right,
          get_or_append_left,
          get_or-map-range_with_len,
        )
      ];
      air = grind (arith, nat_tests, get_or-append_right, get_or-drop);
    })

-- all sections are the terrain's own column
pub grown_all : (terrain : Terrain) (place : Place) (column : ColumnValue) (i : ℕ) →
    i ≡ section_count → IsGrown terrain place column i → column ≡ own_column terrain place
grown_all terrain place column i all grown = grind (arith, nat_tests, listed_by, sections_all)

-- ---- the isle is one column

-- sixteen places along an axis are all within the first sixteen, or none is
within_all : (c : ℤ) (i j : ℕ) → i < 16 → j < 16 → is_within_16 (c *ℤ pos 16 +ℤ pos i) ≡
    is_within_16 (c *ℤ pos 16 +ℤ pos j)
within_all c i j lt lt' = grind (arith, nat_tests)

isle_same : (x z v w : ℤ) (y : ℕ) → is_within_16 x ≡ is_within_16 v → is_within_16 z ≡
    is_within_16 w → isle_id x y z * 16 ≡ isle_id v y w * 16
isle_same x z v w y e f = rw (e, f) refl

pub isle_layer : (place : Place) (y : ℕ) (old new : List ℕ) →
    AppendsLayer old new (λ _. isle_id (place.0 *ℤ pos 16 +ℤ pos 0) y (place.1 *ℤ pos 16 +ℤ pos 0) *
    16) → AppendsLayer old new (λ i. terrain_at Isle (place, y * squares + i))
isle_layer place y old new layer =
    layer_same old new (λ _. isle_id (place.0 *ℤ pos 16 +ℤ pos 0) y (place.1 *ℤ pos 16 +ℤ pos 0) *
    16) (λ i. terrain_at Isle (place, y * squares + i)) layer (λ i lt.
    let small : i < 256 = omega (arith, squares-is) in
    rw (layer_x place y i lt, layer_y place y i lt, layer_z place y i lt)
    (isle_same (place.0 *ℤ pos 16 +ℤ pos 0) (place.1 *ℤ pos 16 +ℤ pos 0) (x_at place i)
    (z_at place i) y (within_all place.0 0 (i % 16) (omega arith) (omega arith))
    (within_all place.1 0 (i / 16) (omega arith) (omega arith))))

-- ---- how high the blocks of each terrain reach

pub flat_reach : (place : Place) (i y : ℕ) → i < squares →
    block_of (terrain_at Flat (place, y * squares + i)) ≡ fills Flat 3 y
flat_reach place i y lt = grind (arith, layer_y place y i lt)

pub hills_reach : (seed : ℕ) (place : Place) (i y top : ℕ) → i < squares →
    top ≡ height seed (x_at place i) (z_at place i) →
    block_of (terrain_at (Hills seed) (place, y * squares + i)) ≡ fills (Hills seed) top y
hills_reach seed place i y top lt is =
    grind (arith, layer_x place y i lt, layer_y place y i lt, layer_z place y i lt)

pub isle_reach : (place : Place) (i y top : ℕ) → i < squares →
    top ≡ cond (eqb (isle_id (place.0 *ℤ pos 16 +ℤ pos 0) 63 (place.1 *ℤ pos 16 +ℤ pos 0)) 0) 62 63
    → block_of (terrain_at Isle (place, y * squares + i)) ≡ fills Isle top y
isle_reach place i y top lt is = grind (arith, nat_tests, squares-is)

-- ---- biomes

pub biome_top : (terrain : Terrain) (place : Place) (tops : List ℕ) (i biome : ℕ) →
    AreTops terrain place tops → i < squares → ((seed : ℕ) → terrain ≡ Hills seed →
    biome ≡ hills_biome (get_or tops i 0)) → (terrain ≡ Flat → biome ≡ 1) →
    (terrain ≡ Isle → biome ≡ 1) → biome ≡ terrain_biome terrain (x_at place i) (z_at place i)
biome_top terrain place tops i biome are lt hills flat isle = grind (arith, nat_tests)
