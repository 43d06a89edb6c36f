-- Sky light goes down from the top, a layer at a time.
use Rattle.std.proofs.Common.{bit_or, ◌≡◌, ℕ, zero, suc, ◌+◌, ◌*◌, ◌-◌, ◌/◌, ◌%◌, ◌<◌, ◌≤◌, Bool}
use Rattle.std.proofs.Common.{true, false, cond, eqb, ◌&&◌, List, ◌++◌, length, get_or, set, drop}
use Rattle.std.proofs.Common.{replicate, refl, sym, ap, ◌∙◌, arith, inl, inr, ◌⊎◌}
use Rattle.std.proofs.lemmas.Bool.{cases_lt, cases_eq, cases_Bool}
use Rattle.std.proofs.lemmas.List.{get_or_past, get_or-drop, get_or-take, length-append, ext_get_or}
use Rattle.std.proofs.lemmas.List.{get_or-replicate, length-replicate, get_or_append_left}
use Rattle.std.proofs.lemmas.List.{get_or-append_right, drop_all, get_or-set_same, get_or-set_other}
use Rattle.std.proofs.lemmas.Nat.{le_or_l, le_or_r}
use Rattle.std.proofs.lemmas.Bool.Decides.{nat_tests}
use Rattle.std.proofs.lemmas.List.FromFn.{fill_by_all, length-map-range_with_len}
use Rattle.std.proofs.lemmas.List.FromFn.{get_or-map-range_with_len}
use Rattle.mc_column.specs.Sizes.{section_cells, squares, light_bytes, row_bytes, layer_count}
use Rattle.mc_column.specs.SizesLaws.{squares-is, row_bytes-is, section-layers, light-layers}
use Rattle.mc_column.specs.Cells.{section_of, IsAir, paired}
use Rattle.mc_column.proofs.Pairs.{paired-zeros}
use Rattle.mc_column.proofs.KeptFacts.{air_or_zeros, get_or-zeros, zeros_air}
use Rattle.mc_column.specs.Light.{IsOpen, is_open, sky_light, sky_byte, sky_bytes, section_sky}
use Rattle.mc_column.specs.Light.{half_of}
use Rattle.mc_column.specs.LightCode.{dimmed_byte, dimmed}

and_true_right : (a b : Bool) → (a && b) ≡ true → b ≡ true
and_true_right true b e = e
and_true_right false b e = absurd cc

-- a layer past the end changes nothing
open_more : (n : ℕ) (states : List ℕ) (i : ℕ) → length states ≤ i + n → is_open (suc n) states i ≡
    is_open n states i
open_more zero states i past = rw (get_or_past states i 0 (omega arith)) refl
open_more (suc n) states i past = grind (arith, nat_tests, open_more n states (i + squares))

open_above : (n : ℕ) (states : List ℕ) (i : ℕ) → n ≡ length states → is_open n states i ≡
    (eqb (get_or states i 0) 0 && is_open n states (i + squares))
open_above n states i e = grind (arith, nat_tests, get_or_past, open_more, squares-is)

-- a cell is lit as the cell above it, unless there is a block in it
pub sky_light_step : (states : List ℕ) (i : ℕ) → sky_light states i ≡
    (cond (eqb (get_or states i 0) 0) (sky_light states (i + squares)) 0)
sky_light_step states i = grind (arith, nat_tests, open_above)

light_cases : (states : List ℕ) (i : ℕ) → (sky_light states i ≡ 15) ⊎ (sky_light states i ≡ 0)
light_cases states i = grind (arith, nat_tests)

-- the two halves of a byte of light
pub low_of_sky : (states : List ℕ) (i : ℕ) → sky_byte states i % 16 ≡ sky_light states i
low_of_sky states i = elim (light_cases states i) [ inl e ↦ omega arith | inr e ↦ omega arith ]

pub high_of_sky : (states : List ℕ) (i : ℕ) → sky_byte states i / 16 ≡ sky_light states (i + 1)
high_of_sky states i = elim (light_cases states i) [ inl e ↦ omega arith | inr e ↦ omega arith ]

-- a byte of light is that above it, dimmed by its two cells
pub dimmed_byte_is : (states : List ℕ) (i : ℕ) → dimmed_byte (sky_byte states (i + squares))
    (get_or states i 0) (get_or states (i + 1) 0) ≡ sky_byte states i
dimmed_byte_is states i = grind (arith, nat_tests, low_of_sky, high_of_sky, sky_light_step)

pub length-sky_bytes : (states : List ℕ) (c n : ℕ) → length (sky_bytes states c n) ≡ n
length-sky_bytes states c n = length-map-range_with_len (λ j. sky_byte states (c + 2 * j)) 0 n

pub get_or-sky_bytes : (states : List ℕ) (c n j : ℕ) → j < n → get_or (sky_bytes states c n) j 0 ≡
    sky_byte states (c + 2 * j)
get_or-sky_bytes states c n j lt = grind (arith, nat_tests, get_or-map-range_with_len)

-- the light of a layer, from that of the layer above it
pub dimmed_is : (states : List ℕ) (c n : ℕ) (layer : List ℕ) →
    ((t : ℕ) → t < 2 * n → get_or layer t 0 ≡ get_or states (c + t) 0) →
    dimmed (sky_bytes states (c + squares) n) layer ≡ sky_bytes states c n
dimmed_is states c n layer at =
    let above = length-sky_bytes states (c + squares) n in
    let len : length (dimmed (sky_bytes states (c + squares) n) layer) ≡ n = grind (
      arith,
      length-map-range_with_len,
    ) in
    ext_get_or 0 (dimmed (sky_bytes states (c + squares) n) layer) (sky_bytes states c n) (len ∙
    sym (length-sky_bytes states c n)) (λ j lt.
    let below : j < n = omega arith in
    let even : c + squares + 2 * j ≡ c + 2 * j + squares = omega arith in
    let odd : c + (2 * j + 1) ≡ c + 2 * j + 1 = omega arith in
    get_or-map-range_with_len (λ k. dimmed_byte (get_or (sky_bytes states (c + squares) n) k 0)
    (get_or layer (2 * k) 0) (get_or layer (2 * k + 1) 0)) 0
    (length (sky_bytes states (c + squares) n)) j j 0 (omega arith) (omega arith)
    ∙ rw (
      get_or-sky_bytes states (c + squares) n j below,
      at (2 * j) (omega arith),
      at (2 * j + 1) (omega arith),
      even,
      odd,
    ) (dimmed_byte_is states (c + 2 * j))
    ∙ sym (get_or-sky_bytes states c n j below))

-- light one piece after another
pub sky_bytes-append : (states : List ℕ) (c a b d : ℕ) → d ≡ c + 2 * a → sky_bytes states c a ++
    sky_bytes states d b ≡ sky_bytes states c (a + b)
sky_bytes-append states c a b d e = grind (
  arith,
  length-sky_bytes states c a,
  length-sky_bytes states d b,
  length-sky_bytes states c (a + b),
  length-append (sky_bytes states c a) (sky_bytes states d b),
  ext_get_or 0 (sky_bytes states c a ++ sky_bytes states d b) (sky_bytes states c (a + b)),
  get_or_append_left (sky_bytes states c a) (sky_bytes states d b) 0,
  get_or-sky_bytes states c a,
  get_or-sky_bytes states c (a + b),
  get_or-sky_bytes states d b,
  get_or-append_right (sky_bytes states c a) (sky_bytes states d b) a,
)

open_past : (n : ℕ) (states : List ℕ) (i : ℕ) → length states ≤ i → is_open n states i ≡ true
open_past zero states i past = refl
open_past (suc n) states i past =
    grind (arith, nat_tests, open_past n states (i + squares) (omega arith), get_or_past)

-- past the top all is lit
pub sky_bytes_past : (states : List ℕ) (c n : ℕ) → length states ≤ c → sky_bytes states c n ≡
    replicate n 255
sky_bytes_past states c n past =
    ext_get_or 0 (sky_bytes states c n) (replicate n 255) (length-sky_bytes states c n ∙
    sym (length-replicate n 255)) (λ j lt.
    let below : j < n = omega (arith, length-sky_bytes states c n) in
    get_or-sky_bytes states c n j below
    ∙ rw (
      open_past (length states) states (c + 2 * j) (omega arith),
      open_past (length states) states (c + 2 * j + 1) (omega arith),
    )
    (sym (get_or-replicate n j 255 0 below)))

-- light goes down through air
light_through : (states : List ℕ) (c h : ℕ) → ((k : ℕ) → k < h → get_or states (c + k * squares) 0 ≡
    0) → sky_light states c ≡ sky_light states (c + h * squares)
light_through states c zero air = let e : c + 0 * squares ≡ c = omega arith in rw e refl
light_through states c (suc h) air =
    let first : c + 0 * squares ≡ c = omega arith in
    let here : get_or states c 0 ≡ 0 = rw first at (air 0 (omega arith)) in
    let last : c + squares + h * squares ≡ c + suc h * squares = omega (arith, more h squares) in
    let below : sky_light states (c + squares) ≡ sky_light states (c + squares + h * squares) =
    light_through states (c + squares) h (λ k lt. let up : c + squares + k * squares ≡
    c + suc k * squares = omega (arith, more k squares) in rw up (air (suc k) (omega arith))) in
    let step : sky_light states c ≡ sky_light states (c + squares) = sky_light_step states c ∙
    rw here refl in
    step ∙ below ∙ rw last refl
  where
    more : (a b : ℕ) → suc a * b ≡ a * b + b
    more a b = grind arith

pub air_at : (xs : List ℕ) (k : ℕ) → IsAir xs → get_or xs k 0 ≡ 0
air_at xs k air = grind (arith, nat_tests, cases_lt, get_or_past)

pub in_section : (states : List ℕ) (i k : ℕ) → k < section_cells →
    get_or (section_of states i) k 0 ≡ get_or states (i * section_cells + k) 0
in_section states i k lt = grind (arith, nat_tests, get_or-take, get_or-drop)

-- a section of air takes no light away
section_through : (states : List ℕ) (i t : ℕ) → t < squares → IsAir (section_of states i) →
    sky_light states (i * section_cells + t) ≡ sky_light states (i * section_cells + section_cells +
    t)
section_through states i t lt air =
    light_through states (i * section_cells + t) layer_count (λ k below.
    let inside : t + k * squares < section_cells = grind (arith, section-layers) in
    let place : i * section_cells + t + k * squares ≡ i * section_cells + (t + k * squares) =
    omega arith in
    rw (place, ← in_section states i (t + k * squares) inside) (air_at (section_of states i)
    (t + k * squares) air))
    ∙ (let place : i * section_cells + t + layer_count * squares ≡ i * section_cells +
    section_cells + t = omega (arith, section-layers) in rw place refl)

pub row_through : (states : List ℕ) (i : ℕ) → IsAir (section_of states i) →
    sky_bytes states (i * section_cells + section_cells) row_bytes ≡
    sky_bytes states (i * section_cells) row_bytes
row_through states i air =
    ext_get_or 0 (sky_bytes states (i * section_cells + section_cells) row_bytes)
    (sky_bytes states (i * section_cells) row_bytes)
    (length-sky_bytes states (i * section_cells + section_cells) row_bytes ∙
    sym (length-sky_bytes states (i * section_cells) row_bytes)) (λ j lt.
    let below : j < row_bytes =
    omega (arith, length-sky_bytes states (i * section_cells + section_cells) row_bytes) in
    let odd : i * section_cells + section_cells + 2 * j + 1 ≡ i * section_cells + section_cells +
    (2 * j + 1) = omega arith in
    let odd' : i * section_cells + 2 * j + 1 ≡ i * section_cells + (2 * j + 1) = omega arith in
    get_or-sky_bytes states (i * section_cells + section_cells) row_bytes j below
    ∙ rw (
      odd,
      ← section_through states i (2 * j) (omega (arith, row_bytes-is, squares-is)) air,
      ← section_through states i (2 * j + 1) (omega (arith, row_bytes-is, squares-is)) air,
      ← odd',
    ) refl
    ∙ sym (get_or-sky_bytes states (i * section_cells) row_bytes j below))

-- ---- the light of one cell

-- the light of a cell stands in its half of its byte
pub half_of_sky : (states : List ℕ) (c k : ℕ) → half_of k (sky_byte states (c + 2 * (k / 2))) ≡
    sky_light states (c + k)
half_of_sky states c k = grind (arith, nat_tests)

open_each : (n : ℕ) (states : List ℕ) (i : ℕ) → IsOpen states i → is_open n states i ≡ true
open_each zero states i open' = refl
open_each (suc n) states i open' =
    let first : i + 0 * squares ≡ i = omega arith in
    let here : get_or states i 0 ≡ 0 = rw first at (open' 0) in
    rw (
      here,
      open_each n states (i + squares) (λ k. let up : i + squares + k * squares ≡
          i + suc k * squares = omega (arith, more k squares) in rw up (open' (suc k))),
    ) refl
  where
    more : (a b : ℕ) → suc a * b ≡ a * b + b
    more a b = grind arith

each_open : (n : ℕ) (states : List ℕ) (i k : ℕ) → is_open n states i ≡ true → k < n →
    get_or states (i + k * squares) 0 ≡ 0
each_open zero states i k e lt = absurd (omega arith)
each_open (suc n) states i zero e lt = grind (arith, nat_tests)
each_open (suc n) states i (suc k) e lt = grind (
  arith,
  each_open n states (i + squares) k (and_true_right (eqb (get_or states i 0) 0)
      (is_open n states (i + squares)) e),
)
  where
    more : (a b : ℕ) → suc a * b ≡ a * b + b
    more a b = grind arith

pub lit_open : (states : List ℕ) (i : ℕ) → IsOpen states i → sky_light states i ≡ 15
lit_open states i open' = rw (open_each (length states) states i open') refl

pub dark_closed : (states : List ℕ) (i : ℕ) → ¬ (IsOpen states i) → sky_light states i ≡ 0
dark_closed states i closed =
    grind (arith, nat_tests, cases_Bool, cases_lt, each_open, get_or_past, squares-is)

-- ---- a layer's light, a byte at a time

-- the bytes below j are dimmed, those from j on are as they were
pub record AreDimmed (above layer now : List ℕ) (j : ℕ) : Type 0 where
  pub done : (k : ℕ) → k < j → get_or now k 0 ≡ dimmed_byte (get_or above k 0)
      (get_or layer (2 * k) 0) (get_or layer (2 * k + 1) 0)
  pub left : (k : ℕ) → j ≤ k → get_or now k 0 ≡ get_or above k 0

pub dimmed_none : (above layer : List ℕ) → AreDimmed above layer above 0
dimmed_none above layer = record { done = λ k lt. absurd (omega arith); left = λ k le. refl }

pub dimmed_more : (above layer now : List ℕ) (j byte : ℕ) → j < length now →
    AreDimmed above layer now j → byte ≡ dimmed_byte (get_or now j 0) (get_or layer (2 * j) 0)
    (get_or layer (2 * j + 1) 0) → AreDimmed above layer (set now j byte) (j + 1)
dimmed_more above layer now j byte lt dims is =
    grind (arith, nat_tests, cases_eq, get_or-set_same, get_or-set_other)

pub dimmed_all : (above layer now : List ℕ) (j : ℕ) → length now ≡ length above → length above ≤ j →
    AreDimmed above layer now j → now ≡ dimmed above layer
dimmed_all above layer now j len past dims =
    fill_by_all (λ k. dimmed_byte (get_or above k 0) (get_or layer (2 * k) 0)
    (get_or layer (2 * k + 1) 0)) now (length above) 0 len (λ k lt. dims.done k (omega arith))

-- ---- a section's light, a layer at a time

-- the layers from y on are lit, and the light is that of layer y
pub record AreShaded (section above light sky : List ℕ) (y : ℕ) : Type 0 where
  pub sky_is : length sky ≡ light_bytes
  pub light_is : length light ≡ row_bytes
  pub within : y ≤ layer_count
  pub now : (states : List ℕ) (i : ℕ) → section ≡ section_of states i →
      above ≡ sky_bytes states (i * section_cells + section_cells) row_bytes →
      light ≡ sky_bytes states (i * section_cells + y * squares) row_bytes
  pub done : (states : List ℕ) (i : ℕ) → section ≡ section_of states i →
      above ≡ sky_bytes states (i * section_cells + section_cells) row_bytes →
      drop (y * row_bytes) sky ≡ sky_bytes states (i * section_cells + y * squares)
      ((layer_count - y) * row_bytes)

pub shaded_none : (section above sky : List ℕ) (y : ℕ) → y ≡ layer_count → length above ≡
    row_bytes → length sky ≡ light_bytes → AreShaded section above above sky y
shaded_none section above sky y top len sized =
    grind (arith, nat_tests, section-layers, light-layers, drop_all)

pub shaded_more : (section above light sky light' sky' layer : List ℕ) (y z : ℕ) → z ≡ y + 1 →
    AreShaded section above light sky z → ((t : ℕ) → t < squares → get_or layer t 0 ≡
    get_or section (y * squares + t) 0) → light' ≡ dimmed light layer → length sky' ≡ light_bytes →
    drop (y * row_bytes) sky' ≡ light' ++ drop (y * row_bytes + row_bytes) sky →
    AreShaded section above light' sky' y
shaded_more section above light sky light' sky' layer y z step shaded at is len put = grind (
  arith,
  row_bytes-is,
  squares-is,
  sky_bytes-append,
  row,
  next y row_bytes,
  rest_more (layer_count - z) (layer_count - y) row_bytes,
)
  where
    next : (a b : ℕ) → a * b + b ≡ (a + 1) * b
    next a b = grind arith

    turned : (a c : ℕ) → c + a * c ≡ (a + 1) * c
    turned a c = grind arith

    rest_more : (a b c : ℕ) → b ≡ a + 1 → c + a * c ≡ b * c
    rest_more a b c e = turned a c ∙ rw e refl

    row : (states : List ℕ) (i : ℕ) → section ≡ section_of states i →
        above ≡ sky_bytes states (i * section_cells + section_cells) row_bytes →
        light' ≡ sky_bytes states (i * section_cells + y * squares) row_bytes
    row states i same lit =
        let up : i * section_cells + z * squares ≡ i * section_cells + y * squares + squares =
        omega (arith, ap (λ (k : ℕ). k * squares) step, next y squares) in
        is ∙ rw (shaded.now states i same lit, up) (dimmed_is states (i * section_cells + y *
        squares) row_bytes layer (λ t lt.
        let below : t < squares = omega (arith, row_bytes-is, squares-is) in
        let inside : y * squares + t < section_cells = grind (arith, section-layers) in
        let place : i * section_cells + y * squares + t ≡ i * section_cells + (y * squares + t) =
        omega arith in
        at t below ∙ rw (same, place) (in_section states i (y * squares + t) inside)))

-- all layers are lit
pub shaded_all : (section above light sky : List ℕ) (y : ℕ) → AreShaded section above light sky y →
    y ≤ 0 → (states : List ℕ) (i : ℕ) → section ≡ section_of states i →
    above ≡ sky_bytes states (i * section_cells + section_cells) row_bytes →
    sky ≡ section_sky states i
shaded_all section above light sky y shaded least states i same lit =
    grind (arith, nat_tests, light-layers)

-- ---- layers that change nothing

-- any is 0 exactly where the bytes below i are
pub record AreZero (bytes : List ℕ) (any i : ℕ) : Type 0 where
  pub all : any ≡ 0 → (k : ℕ) → k < i → get_or bytes k 0 ≡ 0
  pub none : ((k : ℕ) → k < i → get_or bytes k 0 ≡ 0) → any ≡ 0

pub zero_none : (bytes : List ℕ) → AreZero bytes 0 0
zero_none bytes = record { all = λ e k lt. absurd (omega arith); none = λ each. refl }

pub zero_more : (bytes : List ℕ) (any i : ℕ) → AreZero bytes any i →
    AreZero bytes (bit_or any (get_or bytes i 0)) (i + 1)
zero_more bytes any i zero' = grind (arith, nat_tests, le_or_l, le_or_r, cases_eq)

get_or-dimmed : (above layer : List ℕ) (j : ℕ) → j < length above →
    get_or (dimmed above layer) j 0 ≡ dimmed_byte (get_or above j 0) (get_or layer (2 * j) 0)
    (get_or layer (2 * j + 1) 0)
get_or-dimmed above layer j lt = grind (arith, nat_tests, get_or-map-range_with_len)

length-dimmed : (above layer : List ℕ) → length (dimmed above layer) ≡ length above
length-dimmed above layer = grind (arith, nat_tests, length-map-range_with_len)

-- under darkness all is dark
pub dimmed_dark : (above layer : List ℕ) → IsAir above → above ≡ dimmed above layer
dimmed_dark above layer dark = grind (
  arith,
  ext_get_or 0 (dimmed above layer) above (length-dimmed above layer),
  length-dimmed above layer,
  get_or-dimmed above layer,
)

-- air takes no light away
pub dimmed_air : (above bytes : List ℕ) (n : ℕ) → length bytes ≡ 2 * n → IsAir bytes →
    above ≡ dimmed above (paired bytes)
dimmed_air above bytes n len air = grind (
  arith,
  ext_get_or 0 (dimmed above (paired bytes)) above (length-dimmed above (paired bytes)),
  length-dimmed above (paired bytes),
  get_or-dimmed above (paired bytes),
  air_or_zeros bytes air,
  paired-zeros n,
  get_or-zeros n,
)

-- a layer of air is lit as the one above it
pub shaded_air : (above light sky sky' : List ℕ) (y z : ℕ) → z ≡ y + 1 →
    AreShaded (replicate section_cells 0) above light sky z → length sky' ≡ light_bytes →
    drop (y * row_bytes) sky' ≡ light ++ drop (y * row_bytes + row_bytes) sky →
    AreShaded (replicate section_cells 0) above light sky' y
shaded_air above light sky sky' y z step shaded len put =
    let air : IsAir (replicate (2 * squares) 0) = zeros_air (2 * squares) in
    let stays : light ≡ dimmed light (paired (replicate (2 * squares) 0)) =
    dimmed_air light (replicate (2 * squares) 0) squares (length-replicate {A = ℕ} (2 * squares)
    0) air in
    shaded_more (replicate section_cells 0) above light sky light sky'
    (paired (replicate (2 * squares) 0)) y z step shaded (λ t lt. rw (paired-zeros squares)
    (get_or-zeros squares t ∙ sym (get_or-zeros section_cells (y * squares + t)))) stays len put
