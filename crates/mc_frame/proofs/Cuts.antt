-- There is one cut of every stream, and no frame where a cut ends.
use Rattle.std.proofs.Common.{◌≡◌, ℕ, zero, suc, ◌+◌, ◌<◌, List, [], ◌∷◌, ◌++◌, length, Ok, Err}
use Rattle.std.proofs.Common.{refl, sym, subst, ap, ◌∙◌, append_assoc, arith}
use Rattle.std.specs.Prelude.{Option, Some, None}
use Rattle.std.proofs.lemmas.List.{length-append, append-nil, get_or_append_left}
use lib.IntN.{pos}
use Rattle.mc_bytes.specs.declared.fault.Kind.{Kind}
use Rattle.mc_bytes.specs.declared.fault.Kind.TheVariants.{Short, LongVarInt, BadLength}
use Rattle.mc_bytes.specs.declared.fault.Stop.{Stop}
use Rattle.mc_bytes.specs.Reading.{Field, IsBytes, stop_at}
use Rattle.mc_bytes.specs.Format.{Anything}
use Rattle.mc_bytes.specs.CombineLaws.{ok_is}
use Rattle.mc_fields.specs.VarintLaws.{varint_only}
use Rattle.mc_fields.proofs.VarintFaults.{groups-long}
use Rattle.mc_frame.specs.declared.fault.FrameFault.{FrameFault}
use Rattle.mc_frame.specs.declared.fault.FrameFault.TheVariants.{LongLength, ZeroLength}
use Rattle.mc_frame.specs.Faults.{fault_of}
use Rattle.mc_frame.specs.Frame.{SpellsFrame, frame_read}
use Rattle.mc_frame.specs.FrameLaws.{frame_found, frame_only}
use Rattle.mc_frame.proofs.Stops.{Stopped, frame_stopped}
use Rattle.mc_frame.specs.Cut.{IsPart, HasLongLength, HasZeroLength, kept_count, Ends, Cut, IsCutAt}

-- ---- what reading gives at each

pub front_reads : (payload front rest : List ℕ) → SpellsFrame payload front →
    frame_read (front ++ rest) ≡ Ok (payload, rest)
front_reads payload front rest s = frame_only Anything payload front rest tt s

whole_reads : (payload bytes : List ℕ) → SpellsFrame payload bytes → frame_read bytes ≡
    Ok (payload, [])
whole_reads payload bytes s = sym (ap frame_read (append-nil bytes)) ∙
    front_reads payload bytes [] s

long_reads : (bytes : List ℕ) → HasLongLength bytes → frame_read bytes ≡
    Err (stop_at LongVarInt bytes)
unfolding frame_read
long_reads bytes long = rw (groups-long 3 bytes long) refl

zero_reads : (bytes : List ℕ) → HasZeroLength bytes → frame_read bytes ≡
    Err (stop_at BadLength bytes)
unfolding frame_read
zero_reads bytes zero_ = rw (
  zero_.parts,
  varint_only 3 Anything (pos 0) zero_.size zero_.after tt
      zero_.sized,
) refl

-- ---- a cut ends where no frame stands

pub HasLongLength-more : (bytes more : List ℕ) → HasLongLength bytes → HasLongLength (bytes ++ more)
HasLongLength-more bytes more long = record {
  there = omega (arith, long.there, length-append bytes more);
  marked = λ k lt. rw (get_or_append_left bytes more 0 k (omega (arith, long.there)))
      (long.marked k lt);
}

pub HasZeroLength-more : (bytes more : List ℕ) → HasZeroLength bytes → HasZeroLength (bytes ++ more)
HasZeroLength-more bytes more zero_ = record {
  size = zero_.size;
  after = zero_.after ++ more;
  parts = ap (λ (t : List ℕ). t ++ more) zero_.parts ∙ append_assoc zero_.size zero_.after more;
  sized = zero_.sized;
}

-- a frame that is read is no fault
read_or_not : (x : List ℕ × List ℕ) (stop : Stop) (read : Field (List ℕ)) → read ≡ Ok x →
    read ≡ Err stop → ⊥
read_or_not x stop read ok err = let clash : ◌≡◌ {A = Field (List ℕ)} (Ok x) (Err stop) = sym ok ∙
    err in cc

nothing_more : (rest missing : List ℕ) → rest ++ missing ≡ [] → 0 < length missing → ⊥
nothing_more rest missing e some = let len = ap length e in
    omega (arith, some, length-append rest missing, len)

part_not_whole : (payload front rest : List ℕ) → SpellsFrame payload front →
    IsPart (front ++ rest) → ⊥
part_not_whole payload front rest s part =
    let whole = whole_reads part.payload ((front ++ rest) ++ part.missing) part.spelled in
    let first = front_reads payload front (rest ++ part.missing) s in
    let same : (payload, rest ++ part.missing) ≡ (part.payload, []) =
    ok_is Stop _ _ (sym first ∙ sym (ap frame_read (append_assoc front rest part.missing)) ∙
    whole) in
    nothing_more rest part.missing (ap (λ (x : List ℕ × List ℕ). x.1) same) part.some

part_not_long : (bytes : List ℕ) → IsPart bytes → HasLongLength bytes → ⊥
part_not_long bytes part long = read_or_not _ _ _ (whole_reads part.payload (bytes ++ part.missing)
    part.spelled) (long_reads (bytes ++ part.missing) (HasLongLength-more bytes part.missing long))

part_not_zero : (bytes : List ℕ) → IsPart bytes → HasZeroLength bytes → ⊥
part_not_zero bytes part zero_ = read_or_not _ _ _ (whole_reads part.payload (bytes ++ part.missing)
    part.spelled) (zero_reads (bytes ++ part.missing) (HasZeroLength-more bytes part.missing zero_))

other_kind : LongVarInt ≡ BadLength → ⊥
other_kind e = cc

long_not_zero : (bytes : List ℕ) → HasLongLength bytes → HasZeroLength bytes → ⊥
long_not_zero bytes long zero_ =
    let clash : ◌≡◌ {A = Field (List ℕ)} (Err (stop_at LongVarInt bytes))
    (Err (stop_at BadLength bytes)) = sym (long_reads bytes long) ∙ zero_reads bytes zero_ in
    let stops : stop_at LongVarInt bytes ≡ stop_at BadLength bytes = cc in
    other_kind (ap (λ (s : Stop). s.kind) stops)

pub ends_no_frame : (count : ℕ) (fault : Option FrameFault) (payload front rest : List ℕ) →
    SpellsFrame payload front → Ends count (front ++ rest) fault → ⊥
ends_no_frame count None payload front rest s ends = part_not_whole payload front rest s ends
ends_no_frame count (Some (LongLength at)) payload front rest s ends =
    read_or_not _ _ _ (front_reads payload front rest s) (long_reads (front ++ rest) ends.0)
ends_no_frame count (Some (ZeroLength at)) payload front rest s ends =
    read_or_not _ _ _ (front_reads payload front rest s) (zero_reads (front ++ rest) ends.0)

-- and for one reason
pub ends_once : (count : ℕ) (rest : List ℕ) (a b : Option FrameFault) → Ends count rest a →
    Ends count rest b → a ≡ b
ends_once count rest None None e f = refl
ends_once count rest None (Some (LongLength at)) e f = absurd (part_not_long rest e f.0)
ends_once count rest None (Some (ZeroLength at)) e f = absurd (part_not_zero rest e f.0)
ends_once count rest (Some (LongLength at)) None e f = absurd (part_not_long rest f e.0)
ends_once count rest (Some (ZeroLength at)) None e f = absurd (part_not_zero rest f e.0)
ends_once count rest (Some (LongLength at)) (Some (LongLength at')) e f =
    ap (λ (n : ℕ). Some (LongLength n)) (e.1 ∙ sym f.1)
ends_once count rest (Some (ZeroLength at)) (Some (ZeroLength at')) e f =
    ap (λ (n : ℕ). Some (ZeroLength n)) (e.1 ∙ sym f.1)
ends_once count rest (Some (LongLength at)) (Some (ZeroLength at')) e f =
    absurd (long_not_zero rest e.0 f.0)
ends_once count rest (Some (ZeroLength at)) (Some (LongLength at')) e f =
    absurd (long_not_zero rest f.0 e.0)

no_first : (payload : List ℕ) (later : List (List ℕ)) → ◌≡◌ {A = List (List ℕ)} [] (payload ∷ later)
    → ⊥
no_first payload later e = cc

-- ---- the frames of a cut, one by one

fronts_long : (front rest front' rest' : List ℕ) → length (front ++ rest) ≡
    length (front' ++ rest') → length rest ≡ length rest' → length front ≡ length front'
fronts_long front rest front' rest' all left = omega (
  arith,
  all,
  left,
  length-append front rest,
  length-append front' rest',
)

-- there is one frame at the front of some bytes
pub one_frame : (payload front rest payload' front' rest' : List ℕ) → SpellsFrame payload front →
    SpellsFrame payload' front' → front ++ rest ≡ front' ++ rest' → (payload ≡ payload') ×
    (rest ≡ rest') × (length front ≡ length front')
one_frame payload front rest payload' front' rest' s s' e =
    let same : (payload, rest) ≡ (payload', rest') =
    ok_is Stop _ _ (sym (front_reads payload front rest s) ∙ ap frame_read e ∙
    front_reads payload' front' rest' s') in
    let after : rest ≡ rest' = ap (λ (x : List ℕ × List ℕ). x.1) same in (
      ap (λ (x : List ℕ × List ℕ). x.0) same,
      after,
      fronts_long front rest front' rest'
          (ap length e) (ap length after),
    )

-- the first frame of the bytes is the first of their cut
pub record First (count : ℕ) (payload front back : List ℕ) (cut : Cut) : Type 0 where
  pub later : List (List ℕ)
  pub frames : cut.frames ≡ payload ∷ later
  pub cut_after : IsCutAt (count + length front) back (record cut { frames = later })

pub first_of_cut : (count : ℕ) (payload front back : List ℕ) (frames : List (List ℕ))
    (rest : List ℕ) (fault : Option FrameFault) → SpellsFrame payload front →
    IsCutAt count (front ++ back) (record { frames = frames; rest = rest; fault = fault }) →
    First count payload front back (record { frames = frames; rest = rest; fault = fault })
first_of_cut count payload front back [] rest fault s cut =
    let none : cut.front ≡ [] = cut.framed in
    let same : front ++ back ≡ rest = cut.parts ∙ ap (λ (t : List ℕ). t ++ rest) none in
    let P : List ℕ → Type 0 = λ t. Ends (count + length cut.front) t fault in
    absurd (ends_no_frame (count + length cut.front) fault payload front back s
    (subst P (sym same) cut.ends))
first_of_cut count payload front back (next ∷ frames) rest fault s cut =
    let f = cut.framed in
    let split : front ++ back ≡ f.0 ++ (f.1 ++ rest) = cut.parts ∙ ap (λ (t : List ℕ). t ++ rest)
    f.2 ∙ append_assoc f.0 f.1 rest in
    let one = one_frame payload front back next f.0 (f.1 ++ rest) s f.3 split in
    let all = ap length f.2 in
    let counted : count + length cut.front ≡ count + length front + length f.1 =
    omega (arith, one.2, all, length-append f.0 f.1) in
    let P : ℕ → Type 0 = λ n. Ends n rest fault in
    record {
      later = frames;
      frames = ap (λ (x : List ℕ). x ∷ frames) (sym one.0);
      cut_after = record {
        front = f.1;
        parts = one.1;
        framed = f.4;
        ends = subst P counted cut.ends;
      };
    }

pub unique : (count : ℕ) (bytes : List ℕ) (frames : List (List ℕ)) (rest : List ℕ)
    (fault : Option FrameFault) (frames' : List (List ℕ)) (rest' : List ℕ)
    (fault' : Option FrameFault) → IsCutAt count bytes (record {
      frames = frames;
      rest = rest;
      fault = fault;
    }) → IsCutAt count bytes (record {
      frames = frames';
      rest = rest';
      fault =
          fault';
    }) → ◌≡◌ {A = Cut} (record { frames = frames; rest = rest; fault = fault })
    (record { frames = frames'; rest = rest'; fault = fault' })
unique count bytes [] rest fault [] rest' fault' cut cut' =
    let none : cut.front ≡ [] = cut.framed in
    let none' : cut'.front ≡ [] = cut'.framed in
    let same : rest ≡ rest' = sym (cut.parts ∙ ap (λ (t : List ℕ). t ++ rest) none) ∙ cut'.parts ∙
    ap (λ (t : List ℕ). t ++ rest') none' in
    let P : List ℕ → Type 0 = λ t. Ends (count + length t) rest fault in
    let P' : List ℕ → Type 0 = λ t. Ends (count + length t) rest' fault' in
    let Q : List ℕ → Type 0 = λ t. Ends (count + 0) t fault in
    let once : fault ≡ fault' = ends_once (count + 0) rest' fault fault'
    (subst Q same (subst P none cut.ends)) (subst P' none' cut'.ends) in
    ap (λ (t : List ℕ). record { frames = []; rest = t; fault = fault }) same ∙
    ap (λ (f : Option FrameFault). record { frames = []; rest = rest'; fault = f }) once
unique count bytes [] rest fault (payload ∷ frames') rest' fault' cut cut' =
    let f = cut'.framed in
    let P : List ℕ → Type 0 = λ t. IsCutAt count t (record {
      frames = [];
      rest = rest;
      fault = fault;
    }) in
    let split : bytes ≡ f.0 ++ (f.1 ++ rest') = cut'.parts ∙ ap (λ (t : List ℕ). t ++ rest') f.2 ∙
    append_assoc f.0 f.1 rest' in
    let first = first_of_cut count payload f.0 (f.1 ++ rest') [] rest fault f.3 (subst P split cut)
    in
    absurd (no_first payload first.later first.frames)
unique count bytes (payload ∷ frames) rest fault frames' rest' fault' cut cut' =
    let f = cut.framed in
    let P : List ℕ → Type 0 = λ t. IsCutAt count t (record {
      frames = frames';
      rest = rest';
      fault = fault';
    }) in
    let split : bytes ≡ f.0 ++ (f.1 ++ rest) = cut.parts ∙ ap (λ (t : List ℕ). t ++ rest) f.2 ∙
    append_assoc f.0 f.1 rest in
    let first = first_of_cut count payload f.0 (f.1 ++ rest) frames' rest' fault' f.3
    (subst P split cut') in
    let all = ap length f.2 in
    let counted : count + length cut.front ≡ count + length f.0 + length f.1 =
    omega (arith, all, length-append f.0 f.1) in
    let Q : ℕ → Type 0 = λ n. Ends n rest fault in
    let mine : IsCutAt (count + length f.0) (f.1 ++ rest) (record {
      frames = frames;
      rest = rest;
      fault = fault;
    }) = record {
      front = f.1;
      parts = refl;
      framed = f.4;
      ends = subst Q counted cut.ends;
    } in
    let again = unique (count + length f.0) (f.1 ++ rest) frames rest fault first.later rest' fault'
    mine first.cut_after in
    ap (λ (c : Cut). record c { frames = payload ∷ c.frames }) again ∙
    ap (λ (t : List (List ℕ)). record { frames = t; rest = rest'; fault = fault' })
    (sym first.frames)

-- ---- and there is one

-- the fault at which reading stops is what the bytes end with
pub stopped_ends : (kind : Kind) (count at : ℕ) (bytes : List ℕ) → at ≡ kept_count count →
    Stopped kind bytes → Ends count bytes (fault_of kind at)
stopped_ends Short count at bytes is s = s
stopped_ends LongVarInt count at bytes is s = (s, is)
stopped_ends BadLength count at bytes is s = (s, is)
stopped_ends other count at bytes is s = absurd s

pub frame_some : (payload bytes : List ℕ) → SpellsFrame payload bytes → 0 < length bytes
frame_some payload bytes s = let len = ap length s.parts in
    omega (arith, len, s.some, length-append s.size payload)

-- a frame before a cut is a cut
pub framed_cut : (count : ℕ) (bytes payload front after : List ℕ) (cut : Cut) → bytes ≡ front ++
    after → SpellsFrame payload front → IsCutAt (count + length front) after cut →
    IsCutAt count bytes (record cut { frames = payload ∷ cut.frames })
framed_cut count bytes payload front after cut parts s c =
    let counted : count + length front + length c.front ≡ count + length (front ++ c.front) =
    omega (arith, length-append front c.front) in
    let P : ℕ → Type 0 = λ n. Ends n cut.rest cut.fault in
    record {
      front = front ++ c.front;
      parts = parts ∙ ap (λ (t : List ℕ). front ++ t) c.parts ∙
          sym (append_assoc front c.front cut.rest);
      framed = (front, c.front, refl, s, c.framed);
      ends = subst P counted c.ends;
    }

-- where no frame stands the cut has none
stopped_cut : (count : ℕ) (bytes : List ℕ) (stop : Stop) → Stopped stop.kind bytes →
    (cut : Cut) × IsCutAt count bytes cut
stopped_cut count bytes stop s = (
  record { frames = []; rest = bytes; fault = fault_of stop.kind (kept_count count) },
  record {
    front = [];
    parts = refl;
    framed = refl;
    ends = stopped_ends stop.kind (count + 0)
        (kept_count count) bytes (ap kept_count (omega arith)) s;
  },
)

pub cut_exists : (fuel count : ℕ) (bytes : List ℕ) → length bytes < fuel → IsBytes bytes →
    (cut : Cut) × IsCutAt count bytes cut
cut_exists zero count bytes less fits = absurd (omega arith)
cut_exists (suc fuel) count bytes less fits =
    step (frame_read bytes) refl (λ n after. cut_exists fuel n after)
  where
    step : (read : Field (List ℕ)) → frame_read bytes ≡ read → ((n : ℕ) (after : List ℕ) →
        length after < fuel → IsBytes after → (cut : Cut) × IsCutAt n after cut) →
        (cut : Cut) × IsCutAt count bytes cut
    step (Ok x) is rest =
        let f = frame_found bytes x fits is in
        let all = ap length f.parts in
        let shorter : length x.1 < fuel = omega (
          arith,
          less,
          all,
          length-append f.front x.1,
          frame_some x.0 f.front f.spelled,
        ) in
        let after = rest (count + length f.front) x.1 shorter f.rest_fits in (
          record after.0 { frames = x.0 ∷ after.0.frames },
          framed_cut count bytes x.0 f.front x.1
              after.0 f.parts f.spelled after.1,
        )
    step (Err stop) is rest = stopped_cut count bytes stop (frame_stopped bytes stop fits is)
