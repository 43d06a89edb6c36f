-- Why reading a frame stops: the bytes are a part of a frame, or begin with a length that no frame
-- has.
use Rattle.std.proofs.Common.{◌≡◌, ℕ, suc, ◌-◌, ◌%◌, ◌^◌, ◌<◌, ◌≤◌, inl, inr, Bool, true, false}
use Rattle.std.proofs.Common.{cond, nat_lt, List, [], ◌∷◌, ◌++◌, length, take, drop, replicate}
use Rattle.std.proofs.Common.{Result, Ok, Err, refl, sym, subst, ap, ◌∙◌, append_assoc, arith}
use Rattle.std.proofs.Common.{ltb-true, ltb-false, w32}
use Rattle.std.specs.Int.{cast_signed, cast_unsigned}
use Rattle.std.proofs.lemmas.List.{length-replicate, length-append}
use Rattle.std.proofs.lemmas.Int.{to_z-of_z}
use Rattle.std.proofs.Math.Nat.{pow-le-pow_right}
use lib.IntN.{ℤ, pos, negsuc}
use mir.Val.{SFits}
use Rattle.mc_bytes.specs.declared.fault.Kind.{Kind}
use Rattle.mc_bytes.specs.declared.fault.Kind.TheVariants.{Short, LongVarInt, BadLength}
use Rattle.mc_bytes.specs.declared.fault.Stop.{Stop}
use Rattle.mc_bytes.specs.Reading.{Field, IsBytes, ◌>>=◌, stop_at}
use Rattle.mc_bytes.specs.NumberBytes.{octets_read}
use Rattle.mc_fields.specs.Varint.{weighed, IsChain, SpellsVarint, GoesOn, IsCut, groups_read}
use Rattle.mc_fields.specs.Varint.{number_of, varint_read}
use Rattle.mc_fields.specs.VarintLaws.{IsChain-cons, weighed-below, varint_found, varint_fit}
use Rattle.mc_fields.proofs.VarintFaults.{groups_explained}
use Rattle.mc_frame.specs.Frame.{payload_read, frame_read}
use Rattle.mc_frame.specs.Cut.{IsPart, HasLongLength, HasZeroLength}

-- what a stop says of the bytes
abbrev pub Stopped : Kind → List ℕ → Type 0
Stopped Short bytes = IsPart bytes
Stopped LongVarInt bytes = HasLongLength bytes
Stopped BadLength bytes = HasZeroLength bytes
Stopped other bytes = ⊥

-- ---- the bytes end inside the length

-- bytes that all say that another follows are closed by one that does not
closed-chain : (bytes : List ℕ) → IsBytes bytes → GoesOn (length bytes) bytes →
    IsChain (bytes ++ 1 ∷ [])
closed-chain [] fits on = omega arith
closed-chain (b ∷ bytes) fits on =
    IsChain-cons b (bytes ++ 1 ∷ []) (on.marked 0 (omega arith)) (fits 0)
    (closed-chain bytes (λ i. fits (suc i)) (record {
      there = omega arith;
      marked = λ k lt. on.marked (suc k) (omega arith);
    }))

-- and the number that they spell then is 1 at least
closed-some : (bytes : List ℕ) → 0 < weighed (bytes ++ 1 ∷ [])
closed-some [] = omega arith
closed-some (b ∷ bytes) = let rest = closed-some bytes in omega (arith, rest)

-- a chain of three bytes at most spells its sum
chain_spells : (size : List ℕ) (n : ℕ) → IsChain size → length size ≤ 3 → weighed size ≡ n →
    (n < 2 ^ 21) × SpellsVarint 3 (pos n) size
chain_spells size n chain few is =
    let below = weighed-below size in
    let most : 128 ^ length size ≤ 128 ^ 3 = pow-le-pow_right (omega arith) few in
    let small : n < 2 ^ 21 = omega (arith, below, most, is) in
    let fits : SFits w32 (pos n) = record { sfits = omega (arith, small) } in
    let unsigned : cast_unsigned w32 (pos n) ≡ weighed size % 2 ^ 32 = omega (arith, small, is) in (
      small,
      record {
        chain = chain;
        within = few;
        sum = sym (to_z-of_z w32 (pos n) fits) ∙
            ap (cast_signed w32) unsigned;
      },
    )

length_part : (bytes : List ℕ) → IsBytes bytes → IsCut 3 bytes → IsPart bytes
length_part bytes fits cut =
    let size : List ℕ = bytes ++ 1 ∷ [] in
    let payload : List ℕ = replicate (weighed (bytes ++ 1 ∷ [])) 0 in
    let many : length payload ≡ weighed (bytes ++ 1 ∷ []) =
    length-replicate (weighed (bytes ++ 1 ∷ [])) 0 in
    let few : length (bytes ++ 1 ∷ []) ≤ 3 = omega (arith, cut.0, length-append bytes (1 ∷ [])) in
    let spelled = chain_spells (bytes ++ 1 ∷ []) (length payload) (closed-chain bytes fits cut.1)
    few (sym many) in
    record {
      payload = payload;
      missing = 1 ∷ payload;
      some = omega arith;
      spelled = record {
        size = bytes ++ 1 ∷ [];
        sized = spelled.1;
        some = omega (arith, many, closed-some bytes);
        parts =
            sym (append_assoc bytes (1 ∷ []) payload);
      };
    }

-- nothing is a part of every frame
pub nothing_part : IsPart []
nothing_part = length_part [] (λ i. omega arith) (
  omega arith,
  record {
    there = omega arith;
    marked = λ k less. absurd (omega (arith, less));
  },
)

-- ---- the bytes end inside the payload, or the length is 0

payload_part : (start size after : List ℕ) (len : ℕ) → start ≡ size ++ after →
    SpellsVarint 3 (pos len) size → 0 < len → length after < len → IsPart start
payload_part start size after len parts sized some less =
    let missing : List ℕ = replicate (len - length after) 0 in
    let many : length missing ≡ len - length after = length-replicate (len - length after) 0 in
    let whole : length (after ++ missing) ≡ len = omega (arith, length-append after missing, many)
    in
    let P : ℕ → Type 0 = λ n. SpellsVarint 3 (pos n) size in
    record {
      payload = after ++ missing;
      missing = missing;
      some = omega (arith, many);
      spelled = record {
        size = size;
        sized = subst P (sym whole) sized;
        some = omega (arith, whole);
        parts = ap (λ (t : List ℕ). t ++ missing) parts ∙ append_assoc size after missing;
      };
    }

payload_stopped : (start size : List ℕ) (value : ℤ) (after : List ℕ) (stop : Stop) → start ≡ size ++
    after → SpellsVarint 3 value size → payload_read start value after ≡ Err stop →
    Stopped stop.kind start
unfolding octets_read
payload_stopped start size (negsuc n) after stop parts sized e =
    let fit = varint_fit 3 (negsuc n) size sized in
    absurd (omega (arith, fit.0.sfits, fit.1))
payload_stopped start size (pos len) after stop parts sized e = some_or_none (nat_lt 0 len) refl e
  where
    short : (t : Bool) → 0 < len → nat_lt (length after) len ≡ t →
        cond {A = Field (List ℕ)} t (Err (stop_at Short after))
        (Ok (take len after, drop len after)) ≡ Err stop → Stopped stop.kind start
    short true some t e =
        let is : stop_at Short after ≡ stop = cc in
        let P : Stop → Type 0 = λ s. Stopped s.kind start in
        subst P is (payload_part start size after len parts sized some (ltb-true _ _ t))
    short false some t e = absurd cc

    some_or_none : (t : Bool) → nat_lt 0 len ≡ t →
        cond {A = Field (List ℕ)} t (octets_read len after) (Err (stop_at BadLength start)) ≡
        Err stop → Stopped stop.kind start
    some_or_none true t e = short (nat_lt (length after) len) (ltb-true _ _ t) refl e
    some_or_none false t e =
        let is : stop_at BadLength start ≡ stop = cc in
        let none : len ≡ 0 = (let le = ltb-false _ _ t in omega (arith, le)) in
        let Q : ℕ → Type 0 = λ n. SpellsVarint 3 (pos n) size in
        let P : Stop → Type 0 = λ s. Stopped s.kind start in
        subst P is (record {
          size = size;
          after = after;
          parts = parts;
          sized = subst Q none sized;
        })

-- ---- both

length_stopped : (bytes : List ℕ) (stop : Stop) (r : Result (ℕ × List ℕ) Kind) → IsBytes bytes →
    groups_read 3 bytes ≡ r → number_of bytes r ≡ Err stop → Stopped stop.kind bytes
length_stopped bytes stop (Ok sum) fits is e = absurd cc
length_stopped bytes stop (Err kind) fits is e =
    let P : Stop → Type 0 = λ s. Stopped s.kind bytes in
    let Q : Kind → Type 0 = λ k. Stopped k bytes in
    let same : stop_at kind bytes ≡ stop = cc in
    subst P same (elim (groups_explained 3 bytes kind is) [
      | inl long ↦ subst Q (sym long.0) long.1
      | inr short ↦ subst Q (sym short.0) (length_part bytes fits short.1)
    ])

read_stopped : (bytes : List ℕ) (stop : Stop) (r : Field ℤ) → IsBytes bytes → varint_read 3 bytes ≡
    r → ◌>>=◌ {B = List ℕ × List ℕ} r (λ size. payload_read bytes size.0 size.1) ≡ Err stop →
    Stopped stop.kind bytes
read_stopped bytes stop (Ok size) fits is e =
    let found = varint_found 3 bytes size fits is in
    payload_stopped bytes found.front size.0 size.1 stop found.parts found.spelled e
read_stopped bytes stop (Err early) fits is e =
    let same : early ≡ stop = cc in
    let P : Stop → Type 0 = λ s. Stopped s.kind bytes in
    subst P same (length_stopped bytes early (groups_read 3 bytes) fits refl is)

pub frame_stopped : (bytes : List ℕ) (stop : Stop) → IsBytes bytes → frame_read bytes ≡ Err stop →
    Stopped stop.kind bytes
unfolding frame_read
frame_stopped bytes stop fits e = read_stopped bytes stop (varint_read 3 bytes) fits refl e
