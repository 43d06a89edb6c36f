-- Bodies and the bytes that spell them.
use Rattle.std.proofs.Common.{◌≡◌, ℕ, ◌+◌, ◌*◌, ◌/◌, ◌%◌, ◌<◌, ◌≤◌, Bool, true, false, List, length}
use Rattle.std.proofs.Common.{get_or, take, drop, refl, sym, subst, ◌∙◌, arith, inl, inr, ◌↔◌}
use Rattle.std.proofs.Common.{Result, Ok, Err, IfOk, IsErrOf, nat_lt}
use Rattle.std.proofs.lemmas.Bool.Decides.{nat_tests}
use Rattle.std.proofs.lemmas.Bool.{cases_order, lt-ltb, le-ltb}
use Rattle.std.proofs.lemmas.List.{length-take, length-drop, get_or-take, get_or-drop, ext_get_or}
use Rattle.mc_bytes.specs.declared.fault.Kind.TheVariants.{Short, BadLength}
use Rattle.mc_bytes.specs.declared.fault.ReadFault.{ReadFault}
use Rattle.mc_bytes.specs.declared.fault.ReadFault.TheVariants as faults
use Rattle.mc_bytes.specs.declared.fault.FieldFault.{FieldFault}
use Rattle.mc_column.specs.Sizes.{section_cells, light_bytes}
use Rattle.mc_column.specs.SizesLaws.{section_cells-is, light_bytes-is}
use Rattle.mc_column.specs.Cells.{paired}
use Rattle.mc_column.specs.Body.{BodyValue, SpellsBody, named_count, block_light_at, biomes_at}
use Rattle.mc_column.specs.Body.{body_size, body_in, body_read}
use Rattle.mc_bytes.specs.Placed.{PlacedGives, fault_at}
use Rattle.mc_column.proofs.Pairs.{length-paired, get_or-paired}

pub biomes_with_sky : (count : ℕ) → count * 12288 ≡ count * (2 * section_cells) + count *
    light_bytes + count * light_bytes
biomes_with_sky count = rw (section_cells-is, light_bytes-is) (omega arith)

pub biomes_without : (count : ℕ) → count * 10240 ≡ count * (2 * section_cells) + count *
    light_bytes + 0
biomes_without count = rw (section_cells-is, light_bytes-is) (omega arith)

-- the blocks are two bytes a state
twice : (a b : ℕ) → a * (2 * b) ≡ 2 * (a * b)
twice a b = grind arith

pub blocks_even : (mask : ℕ) → block_light_at mask ≡ 2 * (named_count mask * section_cells)
blocks_even mask = twice (named_count mask) section_cells

pub blocks_within : (mask : ℕ) (sky ground_up : Bool) →
    block_light_at mask ≤ body_size mask sky ground_up
blocks_within mask sky ground_up = omega arith

-- the states in a body's bytes, one after another
states_sized : (mask : ℕ) (bytes : List ℕ) → block_light_at mask ≤ length bytes →
    length (paired (take (block_light_at mask) bytes)) ≡ named_count mask * section_cells
states_sized mask bytes long =
    length-paired (take (block_light_at mask) bytes) (named_count mask * section_cells)
    (omega (arith, length-take (block_light_at mask) bytes, blocks_even mask))

state_in : (mask : ℕ) (bytes : List ℕ) (i : ℕ) → block_light_at mask ≤ length bytes →
    i < named_count mask * section_cells → get_or (paired (take (block_light_at mask) bytes)) i 0 ≡
    get_or bytes (2 * i) 0 + 256 * get_or bytes (2 * i + 1) 0
state_in mask bytes i long lt =
    grind (arith, nat_tests, blocks_even, length-take, get_or-paired, get_or-take)

abbrev body_of : ℕ → Bool → List ℕ → List ℕ → BodyValue
body_of mask ground_up states biomes = record {
  mask = mask;
  ground_up = ground_up;
  states = states;
  biomes = biomes;
}

abbrev ok_body : BodyValue → Result BodyValue FieldFault
ok_body body = Ok body

abbrev err_body : FieldFault → Result BodyValue FieldFault
err_body fault = Err fault

-- what is read is spelled so
pub body_in_spelled : (mask : ℕ) (sky ground_up : Bool) (bytes : List ℕ) →
    ((i : ℕ) → get_or bytes i 0 < 256) → length bytes ≡ body_size mask sky ground_up →
    SpellsBody (body_in mask sky ground_up bytes) mask sky ground_up bytes
body_in_spelled mask sky ground_up bytes fits size =
    grind (arith, nat_tests, blocks_within, states_sized, length-drop, state_in, get_or-drop)

-- what is spelled so is read
pub body_in_only : (body : BodyValue) (mask : ℕ) (sky ground_up : Bool) (bytes : List ℕ) →
    SpellsBody body mask sky ground_up bytes → body_in mask sky ground_up bytes ≡ body
body_in_only body mask sky ground_up bytes spells = grind (
  arith,
  states_sized mask bytes,
  ext_get_or 0 (paired (take (block_light_at mask) bytes)) body.states,
  ext_get_or 0 (drop (biomes_at mask sky) bytes) body.biomes,
  state_in mask bytes,
  length-drop (biomes_at mask sky) bytes,
  get_or-drop (biomes_at mask sky) bytes,
)
  where
    whole : (low high state : ℕ) → low ≡ state % 256 → high ≡ state / 256 → low + 256 * high ≡ state
    whole low high state l h = omega arith

-- ---- reading

pub body_read_only : (body : BodyValue) (mask : ℕ) (sky ground_up : Bool) (bytes : List ℕ) →
    SpellsBody body mask sky ground_up bytes → body_read mask sky ground_up bytes ≡ Ok body
unfolding body_read
body_read_only body mask sky ground_up bytes spells =
    let not_short : nat_lt (length bytes) (body_size mask sky ground_up) ≡ false =
    le-ltb _ _ (omega (arith, spells.size)) in
    let not_long : nat_lt (body_size mask sky ground_up) (length bytes) ≡ false =
    le-ltb _ _ (omega (arith, spells.size)) in
    rw (not_short, not_long, body_in_only body mask sky ground_up bytes spells) refl

-- the three cases of reading: too short, too long, or the body in the bytes
pub body_read_short : (mask : ℕ) (sky ground_up : Bool) (bytes : List ℕ) →
    length bytes < body_size mask sky ground_up → body_read mask sky ground_up bytes ≡
    Err (fault_at Short (length bytes))
unfolding body_read
body_read_short mask sky ground_up bytes short =
    let is_short : nat_lt (length bytes) (body_size mask sky ground_up) ≡ true = lt-ltb _ _ short in
    rw is_short refl

pub body_read_long : (mask : ℕ) (sky ground_up : Bool) (bytes : List ℕ) →
    body_size mask sky ground_up < length bytes → body_read mask sky ground_up bytes ≡
    Err (fault_at BadLength (body_size mask sky ground_up))
unfolding body_read
body_read_long mask sky ground_up bytes long =
    let not_short : nat_lt (length bytes) (body_size mask sky ground_up) ≡ false =
    le-ltb _ _ (omega arith) in
    let is_long : nat_lt (body_size mask sky ground_up) (length bytes) ≡ true = lt-ltb _ _ long in
    rw (not_short, is_long) refl

pub body_read_whole : (mask : ℕ) (sky ground_up : Bool) (bytes : List ℕ) → length bytes ≡
    body_size mask sky ground_up → body_read mask sky ground_up bytes ≡
    Ok (body_in mask sky ground_up bytes)
unfolding body_read
body_read_whole mask sky ground_up bytes size =
    let not_short : nat_lt (length bytes) (body_size mask sky ground_up) ≡ false =
    le-ltb _ _ (omega arith) in
    let not_long : nat_lt (body_size mask sky ground_up) (length bytes) ≡ false =
    le-ltb _ _ (omega arith) in
    rw (not_short, not_long) refl

-- ---- what a function answers that gives what reading gives

pub given_found : (r : Result BodyValue ReadFault) (mask : ℕ) (sky ground_up : Bool)
    (bytes : List ℕ) → ((i : ℕ) → get_or bytes i 0 < 256) →
    PlacedGives (λ body. body) r (body_read mask sky ground_up bytes) →
    IfOk r (λ body. SpellsBody body mask sky ground_up bytes)
given_found (Ok body) mask sky ground_up bytes fits given =
    elim (cases_order (length bytes) (body_size mask sky ground_up)) [
      | inl size ↦
          let P : BodyValue → Type 0 = λ b. SpellsBody b mask sky ground_up bytes in
          subst P (ok_same (body_in mask sky ground_up bytes) body
          (sym (body_read_whole mask sky ground_up bytes size) ∙ given))
          (body_in_spelled mask sky ground_up bytes fits size)
      | inr (inl short) ↦ absurd (not_err body (fault_at Short (length bytes)) (sym given ∙
          body_read_short mask sky ground_up bytes short))
      | inr (inr long) ↦ absurd (not_err body (fault_at BadLength (body_size mask sky ground_up))
          (sym given ∙ body_read_long mask sky ground_up bytes long))
    ]
  where
    ok_same : (a b : BodyValue) → ok_body a ≡ ok_body b → a ≡ b
    ok_same a b e = cc

    not_err : (a : BodyValue) (f : FieldFault) → ok_body a ≡ err_body f → ⊥
    not_err a f e = absurd cc
given_found (Err e) mask sky ground_up bytes fits given = tt

pub given_only : (r : Result BodyValue ReadFault) (mask : ℕ) (sky ground_up : Bool) (bytes : List ℕ)
    → PlacedGives (λ body. body) r (body_read mask sky ground_up bytes) → (body : BodyValue) →
    SpellsBody body mask sky ground_up bytes → PlacedGives (λ body. body) r (Ok body)
given_only r mask sky ground_up bytes given body spells =
    let P : Result BodyValue FieldFault → Type 0 = λ read. PlacedGives (λ body. body) r read in
    subst P (body_read_only body mask sky ground_up bytes spells) given

abbrev fault_of : FieldFault → Result BodyValue ReadFault
fault_of fault = Err (faults.Field fault)

-- where reading gives a fault, the function answers it, unless memory ran out
answer_err : (r : Result BodyValue ReadFault) (read : Result BodyValue FieldFault)
    (fault : FieldFault) → PlacedGives (λ body. body) r read → (IsErrOf r faults.NoMemory → ⊥) →
    read ≡ err_body fault → r ≡ fault_of fault
answer_err r read fault given memory e = grind (arith, nat_tests)

-- a fault that it answers is the one that reading gives
read_err : (r : Result BodyValue ReadFault) (read : Result BodyValue FieldFault)
    (fault : FieldFault) → PlacedGives (λ body. body) r read → r ≡ fault_of fault →
    read ≡ err_body fault
read_err r read fault given e = grind (arith, nat_tests)

short_or_long : (a b : ℕ) → err_body (fault_at Short a) ≡ err_body (fault_at BadLength b) → ⊥
short_or_long a b e = grind (arith, nat_tests)

not_both : (body : BodyValue) (fault : FieldFault) → ok_body body ≡ err_body fault → ⊥
not_both body fault e = absurd cc

pub given_short : (r : Result BodyValue ReadFault) (mask : ℕ) (sky ground_up : Bool)
    (bytes : List ℕ) → PlacedGives (λ body. body) r (body_read mask sky ground_up bytes) →
    (IsErrOf r faults.NoMemory → length bytes ≡ body_size mask sky ground_up) →
    IsErrOf r (faults.Field (fault_at Short (length bytes))) ↔
    (length bytes < body_size mask sky ground_up)
given_short r mask sky ground_up bytes given memory = (
  λ e.
      let read = read_err r (body_read mask sky ground_up bytes) (fault_at Short (length bytes))
      given e in
      elim (cases_order (length bytes) (body_size mask sky ground_up)) [
        | inl size ↦ grind (
          arith,
          not_both (body_in mask sky ground_up bytes) (fault_at Short (length bytes))
              (sym (body_read_whole mask sky ground_up bytes size) ∙ read),
        )
        | inr (inl short) ↦ short
        | inr (inr long) ↦ absurd (short_or_long (length bytes) (body_size mask sky ground_up)
            (sym read ∙ body_read_long mask sky ground_up bytes long))
      ],
  λ short. answer_err r (body_read mask sky ground_up bytes) (fault_at Short (length bytes)) given
      (λ none. let size = memory none in omega arith) (body_read_short mask sky ground_up bytes
      short),
)

pub given_long : (r : Result BodyValue ReadFault) (mask : ℕ) (sky ground_up : Bool) (bytes : List ℕ)
    → PlacedGives (λ body. body) r (body_read mask sky ground_up bytes) →
    (IsErrOf r faults.NoMemory → length bytes ≡ body_size mask sky ground_up) →
    IsErrOf r (faults.Field (fault_at BadLength (body_size mask sky ground_up))) ↔
    (body_size mask sky ground_up < length bytes)
given_long r mask sky ground_up bytes given memory = (
  λ e.
      let read = read_err r (body_read mask sky ground_up bytes)
      (fault_at BadLength (body_size mask sky ground_up)) given e in
      elim (cases_order (length bytes) (body_size mask sky ground_up)) [
        | inl size ↦ absurd (not_both (body_in mask sky ground_up bytes)
            (fault_at BadLength (body_size mask sky ground_up))
            (sym (body_read_whole mask sky ground_up bytes size) ∙ read))
        | inr (inl short) ↦ absurd (short_or_long (length bytes) (body_size mask sky ground_up)
            (sym (body_read_short mask sky ground_up bytes short) ∙ read))
        | inr (inr long) ↦ long
      ],
  λ long. answer_err r (body_read mask sky ground_up bytes)
      (fault_at BadLength (body_size mask sky ground_up)) given (λ none. let size = memory none in
      omega arith) (body_read_long mask sky ground_up bytes long),
)
