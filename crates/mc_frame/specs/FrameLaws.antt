-- Laws of frames: what is read is a spelling, each spelling is read, and what is written is the
-- shortest one.
use Rattle.std.specs.Prelude.{◌≡◌, ℕ, ◌+◌, ◌^◌, ◌<◌, ◌≤◌, Bool, true, false, cond, List, ◌++◌}
use Rattle.std.specs.Prelude.{length, nat_lt, Ok, Err, refl}
use Rattle.std.proofs.Common.{sym, subst, ap, ◌∙◌, arith, append_assoc, lt-ltb, ltb-true}
use Rattle.std.proofs.lemmas.List.{length-append}
use lib.IntN.{ℤ, pos, negsuc}
use Rattle.mc_bytes.specs.declared.fault.Kind.TheVariants.{BadLength}
use Rattle.mc_bytes.specs.Reading.{IsBytes, stop_at}
use Rattle.mc_bytes.specs.Format.{IsFound, IsOnly, IsBounded, Anything}
use Rattle.mc_bytes.specs.CombineLaws.{bind_ok, joined, joined_length}
use Rattle.mc_bytes.specs.NumberBytes.{octets_read}
use Rattle.mc_bytes.specs.NumberLaws.{octets_found, octets_only}
use Rattle.mc_fields.specs.Varint.{SpellsVarint, varint_read, varint_spelling}
use Rattle.mc_fields.specs.VarintLaws.{varint_found, varint_only, varint_fit, varint_spelled}
use Rattle.mc_fields.specs.VarintLaws.{varint-shortest, IsChain-some, three}
use Rattle.mc_fields.specs.Row.{Entry, Fits, spelling, most}
use Rattle.mc_fields.specs.RowLaws.{fits_spelled, spells_bounded}
use Rattle.mc_frame.specs.Frame.{IsPayload, SpellsFrame, payload_read, frame_read, frame_spelling}

-- the payload that was read
pub record Held (size : ℤ) (bytes : List ℕ) (x : List ℕ × List ℕ) : Type 0 where
  pub sized : size ≡ pos (length x.0)
  pub some : 0 < length x.0
  pub parts : bytes ≡ x.0 ++ x.1
  pub rest_fits : IsBytes x.1

payload_found : (start : List ℕ) (size : ℤ) (bytes : List ℕ) (x : List ℕ × List ℕ) → IsBytes bytes →
    payload_read start size bytes ≡ Ok x → Held size bytes x
payload_found start (negsuc n) bytes x fits e = absurd cc
payload_found start (pos len) bytes x fits e = step (nat_lt 0 len) refl e
  where
    step : (t : Bool) → nat_lt 0 len ≡ t →
        cond t (octets_read len bytes) (Err (stop_at BadLength start)) ≡ Ok x →
        Held (pos len) bytes x
    step true t e =
        let f = octets_found len bytes x fits e in
        let same : f.front ≡ x.0 = f.spelled.0 in
        record {
          sized = ap pos (sym f.spelled.1);
          some = rw f.spelled.1 (ltb-true _ _ t);
          parts = f.parts ∙ ap (λ (t : List ℕ). t ++ x.1) same;
          rest_fits = f.rest_fits;
        }
    step false t e = absurd cc

pub frame_found : IsFound SpellsFrame frame_read
unfolding frame_read
frame_found bytes x fits e =
    let p = bind_ok (varint_read 3 bytes) (λ (size : ℤ × List ℕ). payload_read bytes size.0 size.1)
    x e in
    let s = varint_found 3 bytes p.0 fits p.1 in
    let h = payload_found bytes p.0.0 p.0.1 x s.rest_fits p.2 in
    let P : ℤ → Type 0 = λ z. SpellsVarint 3 z s.front in
    record {
      front = s.front ++ x.0;
      parts = joined bytes s.front p.0.1 x.0 x.1 s.parts h.parts;
      spelled = record {
        size = s.front;
        sized = subst P h.sized s.spelled;
        some = h.some;
        parts = refl;
      };
      rest_fits = h.rest_fits;
    }

pub frame_only : (Rest : List ℕ → Type 0) → IsOnly Rest SpellsFrame frame_read
unfolding frame_read
frame_only Rest payload front rest ends s =
    let parts : front ++ rest ≡ s.size ++ (payload ++ rest) = ap (λ (t : List ℕ). t ++ rest) s.parts
    ∙ append_assoc s.size payload rest in
    rw (
      parts,
      varint_only 3 Anything (pos (length payload)) s.size (payload ++ rest) tt s.sized,
      lt-ltb 0 (length payload) s.some,
      octets_only (length payload) Anything payload payload rest
          tt (refl, refl),
    ) refl

pub frame_fit : (payload bytes : List ℕ) → SpellsFrame payload bytes → IsPayload payload
frame_fit payload bytes s =
    record { some = s.some; counted = (varint_fit 3 (pos (length payload)) s.size s.sized).1 }

pub frame_spelled : (payload : List ℕ) → IsPayload payload →
    SpellsFrame payload (frame_spelling payload)
unfolding frame_spelling
frame_spelled payload fits = record {
  size = varint_spelling (pos (length payload));
  sized = varint_spelled 3 three (pos (length payload))
      (record { sfits = omega (arith, fits.counted) }, omega (arith, fits.counted));
  some = fits.some;
  parts = refl;
}

pub frame_bounded : IsBounded SpellsFrame (λ payload. 3 + length payload)
frame_bounded payload bytes s =
    joined_length bytes s.size payload 3 (length payload) s.parts s.sized.within (omega arith)

-- a packet that has a spelling, and by its format none of too many bytes, is what a frame can hold
pub packet_payload : {P : Type 0} (entry : Entry P) → Fits entry → most entry < 2 ^ 21 →
    IsPayload (spelling entry)
packet_payload entry fits few =
    let s = fits_spelled entry fits in
    let id = IsChain-some s.id_bytes s.id_spelled.chain in
    let all : length (spelling entry) ≡ length s.id_bytes + length s.field_bytes =
    ap length s.parts ∙ length-append s.id_bytes s.field_bytes in
    let le = spells_bounded entry (spelling entry) s in
    record { some = omega (arith, id, all); counted = omega (arith, few, le) }

-- what is written of a frame is read as its payload again, whatever follows
pub frame_again : (payload : List ℕ) → IsPayload payload → (rest : List ℕ) →
    frame_read (frame_spelling payload ++ rest) ≡ Ok (payload, rest)
frame_again payload fits rest = frame_only Anything payload (frame_spelling payload) rest tt
    (frame_spelled payload fits)

-- no spelling is shorter than the one that is written
pub frame_shortest : (payload bytes : List ℕ) → SpellsFrame payload bytes →
    length (frame_spelling payload) ≤ length bytes
unfolding frame_spelling
frame_shortest payload bytes s =
    let size = varint-shortest 3 (pos (length payload)) s.size s.sized in
    let all = ap length s.parts in
    omega (
      arith,
      size,
      all,
      length-append s.size payload,
      length-append (varint_spelling (pos (length payload))) payload,
    )
