-- What reading a frame gives at a part of one, and at what no frame begins with.
use Rattle.std.proofs.Common.{◌≡◌, ℕ, zero, suc, ◌+◌, ◌<◌, ◌≤◌, inl, inr, List, [], ◌∷◌, ◌++◌}
use Rattle.std.proofs.Common.{length, get_or, take, drop, Err, refl, sym, subst, ap, ◌∙◌}
use Rattle.std.proofs.Common.{append_assoc, arith, lt-ltb}
use Rattle.std.specs.Prelude.{Some, None, Ok}
use Rattle.std.proofs.lemmas.Bool.Decides.{nat_tests}
use Rattle.std.proofs.lemmas.Bool.{cases_lt}
use Rattle.std.proofs.lemmas.List.{length-append, append-nil, take-append-drop, take-append-le}
use Rattle.std.proofs.lemmas.List.{take_at, get_or_append_left}
use lib.IntN.{pos}
use Rattle.mc_bytes.specs.declared.fault.Kind.TheVariants.{Short, LongVarInt, BadLength}
use Rattle.mc_bytes.specs.declared.fault.Stop.{Stop}
use Rattle.mc_bytes.specs.Reading.{stop_at}
use Rattle.mc_bytes.specs.Format.{Anything}
use Rattle.mc_bytes.specs.Numbers.{octets_read}
use Rattle.mc_fields.specs.Varint.{IsChain, SpellsVarint, GoesOn}
use Rattle.mc_fields.specs.VarintFormat.{varint_only}
use Rattle.mc_fields.specs.VarintLaws.{IsChain-some}
use Rattle.mc_fields.proofs.VarintFaults.{groups-long, groups-cut}
use Rattle.mc_frame.specs.declared.fault.FrameFault.{FrameFault}
use Rattle.mc_frame.specs.declared.fault.FrameFault.TheVariants.{LongLength, ZeroLength}
use Rattle.mc_frame.specs.Faults.{fault_of}
use Rattle.mc_frame.specs.Frame.{SpellsFrame, frame_read}
use Rattle.mc_frame.specs.Cut.{IsPart, HasLongLength, HasZeroLength, Ends}
use Rattle.mc_frame.proofs.Cuts.{front_reads}

-- reading stops there, and more bytes may make a frame
pub record WaitsAt (bytes : List ℕ) : Type 0 where
  pub stop : Stop
  pub reads : frame_read bytes ≡ Err stop
  pub none : fault_of stop.kind 0 ≡ None

-- at each first part of some bytes
abbrev pub WaitsBefore : List ℕ → Type 0
WaitsBefore all =
    (front back : List ℕ) → all ≡ front ++ back → 0 < length back → WaitsAt front

-- ---- a part that ends inside the length

-- all bytes of a length but the last say that another follows
chain_marked : (size : List ℕ) (k : ℕ) → IsChain size → k + 1 < length size → 128 ≤ get_or size k 0
chain_marked [] k chain lt = absurd chain
chain_marked (b ∷ []) k chain lt = absurd (omega arith)
chain_marked (b ∷ c ∷ size) zero chain lt = chain.0
chain_marked (b ∷ c ∷ size) (suc k) chain lt = chain_marked (c ∷ size) k chain.2 (omega arith)

-- bytes that all say so
marked_reads : (bytes : List ℕ) → length bytes < 3
    → ((k : ℕ) → k < length bytes → 128 ≤ get_or bytes k 0)
    → frame_read bytes ≡ Err (stop_at Short bytes)
unfolding frame_read
marked_reads bytes few marked =
    let on : GoesOn (length bytes) bytes = record { there = omega arith; marked = marked } in
    rw (groups-cut 3 bytes (omega (arith, few), on)) refl

marked_waits : (bytes : List ℕ) → length bytes < 3
    → ((k : ℕ) → k < length bytes → 128 ≤ get_or bytes k 0)
    → WaitsAt bytes
marked_waits bytes few marked =
    record { stop = stop_at Short bytes; reads = marked_reads bytes few marked; none = refl }

-- those of a length, but not all
pub length_waits : (bytes missing size payload : List ℕ) → bytes ++ missing ≡ size ++ payload
    → IsChain size
    → length size ≤ 3
    → length bytes < length size
    → WaitsAt bytes
length_waits bytes missing size payload parts chain few less =
    marked_waits bytes (omega (arith, few, less)) (λ k lt. marked k lt)
  where
    marked : (k : ℕ) → k < length bytes → 128 ≤ get_or bytes k 0
    marked k lt = grind (arith, nat_tests, get_or_append_left, chain_marked)

-- ---- a part that ends inside the payload

payload_reads : (size after payload : List ℕ) → SpellsVarint 3 (pos (length payload)) size →
    0 < length payload → length after < length payload → frame_read (size ++ after) ≡
    Err (stop_at Short after)
unfolding frame_read octets_read
payload_reads size after payload sized some less =
    rw (
      varint_only 3 Anything (pos (length payload)) size after tt sized,
      lt-ltb 0 (length payload)
          some,
      lt-ltb (length after) (length payload) less,
    ) refl

-- what stands behind the length
behind_size : (bytes missing size payload : List ℕ) → bytes ++ missing ≡ size ++ payload →
    length size ≤ length bytes → bytes ≡ size ++ drop (length size) bytes
behind_size bytes missing size payload parts le =
    let front : take (length size) bytes ≡ size =
    sym (take-append-le (length size) bytes missing le) ∙ ap (take (length size)) parts ∙
    take_at size payload (length size) refl in
    sym (take-append-drop (length size) bytes) ∙ ap (λ (t : List ℕ). t ++ drop (length size) bytes)
    front

pub part_waits : (bytes : List ℕ) → IsPart bytes → WaitsAt bytes
part_waits bytes part =
    let s = part.spelled in
    let parts : bytes ++ part.missing ≡ s.size ++ part.payload = s.parts in
    elim (cases_lt (length bytes) (length s.size)) [
      | inl less ↦ length_waits bytes part.missing s.size part.payload parts s.sized.chain
          s.sized.within less
      | inr le ↦
          let split = behind_size bytes part.missing s.size part.payload parts le in
          let all = ap length parts in
          let fewer : length (drop (length s.size) bytes) < length part.payload = grind (
            arith,
            length-append,
          ) in
          record {
            stop = stop_at Short (drop (length s.size) bytes);
            reads = ap frame_read split
                ∙ payload_reads s.size (drop (length s.size) bytes) part.payload s.sized s.some
                fewer;
            none = refl;
          }
    ]

-- ---- the first parts of a frame, and of a part of one

shorter_part : (payload front back all : List ℕ) → SpellsFrame payload all → all ≡ front ++ back
    → 0 < length back → IsPart front
shorter_part payload front back all s parts some =
    let P : List ℕ → Type 0 = λ t. SpellsFrame payload t in
    record { payload = payload; missing = back; some = some; spelled = subst P parts s }

pub frame_waits : (payload all : List ℕ) → SpellsFrame payload all → WaitsBefore all
frame_waits payload all s = λ front back parts some.
    part_waits front (shorter_part payload front back all s parts some)

pub part_waits_before : (bytes : List ℕ) → IsPart bytes → WaitsBefore bytes
part_waits_before bytes part = λ front back parts some.
    let all : bytes ++ part.missing ≡ front ++ (back ++ part.missing) =
    ap (λ (t : List ℕ). t ++ part.missing) parts ∙ append_assoc front back part.missing in
    let more : 0 < length (back ++ part.missing) =
    omega (arith, some, length-append back part.missing) in
    part_waits front (shorter_part part.payload front (back ++ part.missing)
    (bytes ++ part.missing) part.spelled all more)

-- a whole frame is read
pub whole_reads : (payload bytes : List ℕ) → SpellsFrame payload bytes → frame_read bytes ≡
    Ok (payload, [])
whole_reads payload bytes s = sym (ap frame_read (append-nil bytes)) ∙
    front_reads payload bytes [] s

-- ---- bytes that no frame begins with

-- the first of them that show it
pub record Breaks (bytes : List ℕ) : Type 0 where
  pub front : List ℕ
  pub after : List ℕ
  pub parts : bytes ≡ front ++ after
  pub some : 0 < length front
  pub waits : WaitsBefore front
  pub stop : Stop
  pub reads : frame_read front ≡ Err stop
  pub fault : FrameFault
  pub is : fault_of stop.kind 0 ≡ Some fault

long_reads : (bytes : List ℕ) → HasLongLength bytes → frame_read bytes ≡
    Err (stop_at LongVarInt bytes)
unfolding frame_read
long_reads bytes long = rw (groups-long 3 bytes long) refl

zero_reads : (bytes : List ℕ) → HasZeroLength bytes → frame_read bytes ≡
    Err (stop_at BadLength bytes)
unfolding frame_read
zero_reads bytes zero_ = rw (
  zero_.parts,
  varint_only 3 Anything (pos 0) zero_.size zero_.after tt
      zero_.sized,
) refl

-- three bytes that say that another follows
three_break : (a b c : ℕ) (after : List ℕ) → 128 ≤ a → 128 ≤ b → 128 ≤ c
    → Breaks (a ∷ b ∷ c ∷ after)
three_break a b c after first second third = record {
  front = a ∷ b ∷ c ∷ [];
  after = after;
  parts = refl;
  some = omega arith;
  waits = λ front back parts some. marked_waits front
      (let all = ap length parts in omega (arith, all, some, length-append front back))
      (λ k lt. marked front back k parts some lt);
  stop = stop_at LongVarInt (a ∷ b ∷ c ∷ []);
  reads = long_reads (a ∷ b ∷ c ∷ []) (record { there = omega arith; marked = three });
  fault = LongLength 0;
  is = refl;
}
  where
    three : (k : ℕ) → k < 3 → 128 ≤ get_or (a ∷ b ∷ c ∷ []) k 0
    three zero lt = first
    three (suc zero) lt = second
    three (suc (suc zero)) lt = third
    three (suc (suc (suc k))) lt = absurd (omega (arith, lt))

    marked : (front back : List ℕ) (k : ℕ) → a ∷ b ∷ c ∷ [] ≡ front ++ back → 0 < length back
        → k < length front → 128 ≤ get_or front k 0
    marked front back k parts some lt =
        let all = ap length parts in
        let here : get_or front k 0 ≡ get_or (a ∷ b ∷ c ∷ []) k 0 =
        sym (get_or_append_left front back 0 k lt)
        ∙ ap (λ (t : List ℕ). get_or t k 0) (sym parts) in
        rw here (three k (omega (arith, all, some, lt, length-append front back)))

long_breaks : (bytes : List ℕ) → HasLongLength bytes → Breaks bytes
long_breaks [] long = absurd (let there = long.there in omega (arith, there))
long_breaks (a ∷ []) long = absurd (let there = long.there in omega (arith, there))
long_breaks (a ∷ b ∷ []) long = absurd (let there = long.there in omega (arith, there))
long_breaks (a ∷ b ∷ c ∷ after) long =
    three_break a b c after (long.marked 0 (omega arith)) (long.marked 1 (omega arith))
    (long.marked 2 (omega arith))

zero_breaks : (bytes : List ℕ) → HasZeroLength bytes → Breaks bytes
zero_breaks bytes zero_ = record {
  front = zero_.size;
  after = zero_.after;
  parts = zero_.parts;
  some = IsChain-some zero_.size zero_.sized.chain;
  waits = λ front back parts some. length_waits front back zero_.size []
      (sym parts ∙ sym (append-nil zero_.size)) zero_.sized.chain zero_.sized.within
      (let all = ap length parts in omega (arith, all, some, length-append front back));
  stop = stop_at BadLength zero_.size;
  reads = zero_reads zero_.size (record {
    size = zero_.size;
    after = [];
    parts = sym (append-nil zero_.size);
    sized = zero_.sized;
  });
  fault = ZeroLength 0;
  is = refl;
}

pub end_breaks : (count : ℕ) (bytes : List ℕ) (fault : FrameFault) → Ends count bytes (Some fault)
    → Breaks bytes
end_breaks count bytes (LongLength at) ends = long_breaks bytes ends.0
end_breaks count bytes (ZeroLength at) ends = zero_breaks bytes ends.0
