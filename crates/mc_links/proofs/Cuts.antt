-- Bytes that a splitter cuts, piece by piece, are cut as the definitions cut them.
use Rattle.std.proofs.Common.{◌≡◌, ℕ, zero, suc, ◌+◌, ◌-◌, ◌<◌, ◌≤◌, inl, inr, List, [], ◌∷◌, ◌++◌}
use Rattle.std.proofs.Common.{length, get_or, take, drop, Err, refl, sym, subst, ap, ◌∙◌}
use Rattle.std.proofs.Common.{append_assoc, arith, lt-ltb}
use Rattle.std.proofs.lemmas.Bool.Decides.{nat_tests}
use Rattle.std.specs.Prelude.{Option, Some, None}
use Rattle.std.proofs.lemmas.Bool.{cases_lt}
use Rattle.std.proofs.lemmas.List.{length-append, append-nil, take-append-drop, take-append-le}
use Rattle.std.proofs.lemmas.List.{take_at, get_or_append_left}
use lib.IntN.{pos}
use Rattle.mc_bytes.specs.declared.fault.Kind.TheVariants.{Short, LongVarInt, BadLength}
use Rattle.mc_bytes.specs.declared.fault.Stop.{Stop}
use Rattle.mc_bytes.specs.Reading.{Field, stop_at}
use Rattle.mc_bytes.specs.Format.{Anything}
use Rattle.mc_bytes.specs.Numbers.{octets_read}
use Rattle.mc_fields.specs.Varint.{IsChain, SpellsVarint, GoesOn}
use Rattle.mc_fields.specs.VarintFormat.{varint_only}
use Rattle.mc_fields.proofs.VarintFaults.{groups-long, groups-cut}
use Rattle.mc_frame.specs.declared.fault.FrameFault.{FrameFault}
use Rattle.mc_frame.specs.declared.fault.FrameFault.TheVariants.{LongLength, ZeroLength}
use Rattle.mc_frame.specs.Faults.{fault_of}
use Rattle.mc_frame.specs.Frame.{frame_read}
use Rattle.mc_frame.specs.Cut.{SpellsFrames, IsPart, HasLongLength, HasZeroLength, kept_count, Ends}
use Rattle.mc_frame.specs.Cut.{Cut, IsCutAt}
use Rattle.mc_frame.specs.Held.{Splitting}
use Rattle.mc_frame.specs.Splitting.{Feeds, TakesFrame}
use Rattle.mc_frame.proofs.Cuts.{front_reads, frame_some, HasLongLength-more, HasZeroLength-more}
use Rattle.mc_frame.proofs.AnyPieces.{framed_more}
use Rattle.mc_model.specs.Cutting.{cut_by, cut_from, cut_of}
use Rattle.mc_links.specs.Sitting.{Holds, IsUnderway, unread_after}

-- frames and a fault are those of a cut; where there is no fault, the splitter holds its rest
pub record IsCutInto (count : ℕ) (all : List ℕ) (payloads : List (List ℕ))
    (end_ : Option FrameFault) (now : Splitting) : Type 0 where
  pub frames : payloads ≡ (cut_of count all).frames
  pub fault : end_ ≡ (cut_of count all).fault
  pub holds : end_ ≡ None → Holds now (unread_after count all)

-- ---- what reading gives where a cut ends

-- all bytes of a length but the last say that another follows
chain_marked : (size : List ℕ) (k : ℕ) → IsChain size → k + 1 < length size → 128 ≤ get_or size k 0
chain_marked [] k chain lt = absurd chain
chain_marked (b ∷ []) k chain lt = absurd (omega arith)
chain_marked (b ∷ c ∷ size) zero chain lt = chain.0
chain_marked (b ∷ c ∷ size) (suc k) chain lt = chain_marked (c ∷ size) k chain.2 (omega arith)

-- and so do those of its first ones
part_marked : (bytes missing size payload : List ℕ) (k : ℕ) → bytes ++ missing ≡ size ++ payload →
    IsChain size → length bytes < length size → k < length bytes → 128 ≤ get_or bytes k 0
part_marked bytes missing size payload k parts chain less lt =
    grind (arith, nat_tests, get_or_append_left, chain_marked)

-- a part that ends inside the length
length_reads : (bytes missing size payload : List ℕ) → bytes ++ missing ≡ size ++ payload →
    IsChain size → length size ≤ 3 → length bytes < length size → frame_read bytes ≡
    Err (stop_at Short bytes)
unfolding frame_read
length_reads bytes missing size payload parts chain few less =
    let on : GoesOn (length bytes) bytes =
    record {
      there = omega arith;
      marked =
          λ k lt. part_marked bytes missing size payload k parts chain less lt;
    } in
    rw (groups-cut 3 bytes (omega (arith, few, less), on)) refl

-- a part that ends inside the payload
payload_reads : (size after payload : List ℕ) → SpellsVarint 3 (pos (length payload)) size →
    0 < length payload → length after < length payload → frame_read (size ++ after) ≡
    Err (stop_at Short after)
unfolding frame_read octets_read
payload_reads size after payload sized some less =
    rw (
      varint_only 3 Anything (pos (length payload)) size after tt sized,
      lt-ltb 0 (length payload)
          some,
      lt-ltb (length after) (length payload) less,
    ) refl

-- what stands behind the length
behind_size : (bytes missing size payload : List ℕ) → bytes ++ missing ≡ size ++ payload →
    length size ≤ length bytes → bytes ≡ size ++ drop (length size) bytes
behind_size bytes missing size payload parts le =
    let front : take (length size) bytes ≡ size =
    sym (take-append-le (length size) bytes missing le) ∙ ap (take (length size)) parts ∙
    take_at size payload (length size) refl in
    sym (take-append-drop (length size) bytes) ∙ ap (λ (t : List ℕ). t ++ drop (length size) bytes)
    front

part_reads : (bytes : List ℕ) → IsPart bytes → (after : List ℕ) ×
    (frame_read bytes ≡ Err (stop_at Short after))
part_reads bytes part =
    let s = part.spelled in
    let parts : bytes ++ part.missing ≡ s.size ++ part.payload = s.parts in
    elim (cases_lt (length bytes) (length s.size)) [
      | inl less ↦ (
        bytes,
        length_reads bytes part.missing s.size part.payload parts s.sized.chain
            s.sized.within less,
      )
      | inr le ↦
          let split = behind_size bytes part.missing s.size part.payload parts le in
          let all = ap length parts in
          let fewer : length (drop (length s.size) bytes) < length part.payload = grind (
            arith,
            length-append,
          ) in (
            drop (length s.size) bytes,
            ap frame_read split ∙
                payload_reads s.size (drop (length s.size) bytes) part.payload s.sized s.some fewer,
          )
    ]

long_reads : (bytes : List ℕ) → HasLongLength bytes → frame_read bytes ≡
    Err (stop_at LongVarInt bytes)
unfolding frame_read
long_reads bytes long = rw (groups-long 3 bytes long) refl

zero_reads : (bytes : List ℕ) → HasZeroLength bytes → frame_read bytes ≡
    Err (stop_at BadLength bytes)
unfolding frame_read
zero_reads bytes zero_ = rw (
  zero_.parts,
  varint_only 3 Anything (pos 0)
      zero_.size zero_.after tt zero_.sized,
) refl

-- reading stops there, for the fault
pub record Stops (count : ℕ) (rest : List ℕ) (fault : Option FrameFault) : Type 0 where
  pub stop : Stop
  pub reads : frame_read rest ≡ Err stop
  pub is : fault_of stop.kind (kept_count count) ≡ fault

end_stops : (count : ℕ) (rest : List ℕ) (fault : Option FrameFault) → Ends count rest fault →
    Stops count rest fault
end_stops count rest None ends = let p = part_reads rest ends in
    record { stop = stop_at Short p.0; reads = p.1; is = refl }
end_stops count rest (Some (LongLength at)) ends =
    record {
      stop = stop_at LongVarInt rest;
      reads = long_reads rest ends.0;
      is =
          ap (λ (n : ℕ). Some (LongLength n)) (sym ends.1);
    }
end_stops count rest (Some (ZeroLength at)) ends =
    record {
      stop = stop_at BadLength rest;
      reads = zero_reads rest ends.0;
      is =
          ap (λ (n : ℕ). Some (ZeroLength n)) (sym ends.1);
    }

-- ---- any cut is the one that is worked out

cut_worked : (frames : List (List ℕ)) (fuel count : ℕ) (front rest : List ℕ)
    (fault : Option FrameFault) → SpellsFrames frames front → Ends (count + length front)
    rest fault → length (front ++ rest) < fuel →
    cut_from fuel count (front ++ rest) ≡ record { frames = frames; rest = rest; fault = fault }
cut_worked frames zero count front rest fault framed ends less = absurd (omega (arith, less))
cut_worked [] (suc fuel) count front rest fault none ends less =
    grind (arith, nat_tests, end_stops count rest fault)
cut_worked (payload ∷ frames) (suc fuel) count front rest fault f ends less =
    let later : ℕ → List ℕ → Cut = λ n after. cut_from fuel n after in
    let split : front ++ rest ≡ f.0 ++ (f.1 ++ rest) = ap (λ (t : List ℕ). t ++ rest) f.2 ∙
    append_assoc f.0 f.1 rest in
    let all = ap length split in
    let fronts = ap length f.2 in
    let counted : count + (length (f.0 ++ (f.1 ++ rest)) - length (f.1 ++ rest)) ≡
    count + length f.0 = omega (arith, length-append f.0 (f.1 ++ rest)) in
    let here : count + length front ≡ count + length f.0 + length f.1 =
    omega (arith, fronts, length-append f.0 f.1) in
    let P : ℕ → Type 0 = λ n. Ends n rest fault in
    let shorter : length (f.1 ++ rest) < fuel =
    omega (arith, less, all, length-append f.0 (f.1 ++ rest), frame_some payload f.0 f.3) in
    let more = cut_worked frames fuel (count + length f.0) f.1 rest fault f.4 (subst P here ends)
    shorter in
    ap (λ (t : List ℕ). cut_by count t (frame_read t) later) split
    ∙ ap (λ (r : Field (List ℕ)). cut_by count (f.0 ++ (f.1 ++ rest)) r later)
    (front_reads payload f.0 (f.1 ++ rest) f.3)
    ∙ ap (λ (n : ℕ). let cut = cut_from fuel n (f.1 ++ rest) in
    record cut { frames = payload ∷ cut.frames }) counted
    ∙ ap (λ (cut : Cut). record cut { frames = payload ∷ cut.frames }) more

pub cut_is : (count : ℕ) (bytes : List ℕ) (cut : Cut) → IsCutAt count bytes cut →
    cut_of count bytes ≡ cut
unfolding cut_of
cut_is count bytes cut is =
    ap (λ (t : List ℕ). cut_from (suc (length t)) count t) is.parts
    ∙ cut_worked cut.frames (suc (length (is.front ++ cut.rest)))
    count is.front cut.rest cut.fault is.framed is.ends (omega arith)

-- ---- a splitter on its way

pub underway_first : (count : ℕ) (now : Splitting) (bytes : List ℕ) → now.before ≡
    kept_count count → now.fault ≡ None → IsUnderway count (now.held ++ bytes) [] now bytes
underway_first count now bytes before fine =
    let alone : count ≡ count + 0 = omega arith in
    record {
      front = [];
      parts = refl;
      framed = refl;
      before = before ∙ ap kept_count alone;
      fine =
          fine;
    }

pub underway_fed : (count : ℕ) (all : List ℕ) (frames : List (List ℕ)) (old new : Splitting)
    (left : List ℕ) (n : ℕ) → Feeds old left n new → IsUnderway count all frames old left →
    IsUnderway count all frames new (drop n left)
underway_fed count all frames old new left n fed u =
    let P : Splitting → Type 0 = λ t. IsUnderway count all frames t (drop n left) in
    let same : old.held ++ left ≡ (old.held ++ take n left) ++ drop n left =
    ap (λ (t : List ℕ). old.held ++ t) (sym (take-append-drop n left)) ∙
    sym (append_assoc old.held (take n left) (drop n left)) in
    subst P (sym fed.held) (record {
      front = u.front;
      parts = u.parts ∙
          ap (λ (t : List ℕ). u.front ++ t) same;
      framed = u.framed;
      before = u.before;
      fine =
          u.fine;
    })

pub underway_frame : (count : ℕ) (all : List ℕ) (frames : List (List ℕ)) (payload : List ℕ)
    (old new : Splitting) (left : List ℕ) → TakesFrame old payload new →
    IsUnderway count all frames old left → IsUnderway count all (frames ++ payload ∷ []) new left
underway_frame count all frames payload old new left t u = record {
  front = u.front ++ t.front;
  parts = u.parts ∙ ap (λ (s : List ℕ). u.front ++ (s ++ left)) t.held ∙
      ap (λ (s : List ℕ). u.front ++ s) (append_assoc t.front new.held left) ∙
      sym (append_assoc u.front t.front (new.held ++ left));
  framed = framed_more frames u.front payload t.front u.framed t.spelled;
  before = (let was = u.before in let now = t.before in
      omega (arith, was, now, length-append u.front t.front));
  fine = t.fault ∙ u.fine;
}

-- a frame that is taken has a byte
pub frame_shortens : (old : Splitting) (payload : List ℕ) (new : Splitting) →
    TakesFrame old payload new → length new.held < length old.held
frame_shortens old payload new t = grind (arith, nat_tests, length-append, frame_some)

-- ---- where it ends

cut_into : (count : ℕ) (all : List ℕ) (frames : List (List ℕ)) (rest : List ℕ)
    (fault : Option FrameFault) (now : Splitting) →
    IsCutAt count all (record { frames = frames; rest = rest; fault = fault }) →
    (fault ≡ None →
    Holds now (record { rest = rest; before = count + (length all - length rest) })) →
    IsCutInto count all frames fault now
cut_into count all frames rest fault now is holds =
    let same = cut_is count all (record { frames = frames; rest = rest; fault = fault }) is in
    let P : Cut → Type 0 = λ cut. Holds now
    (record { rest = cut.rest; before = count + (length all - length cut.rest) }) in
    record {
      frames = sym (ap (λ (cut : Cut). cut.frames) same);
      fault = sym (ap (λ (cut : Cut). cut.fault) same);
      holds = λ none. subst P (sym same) (holds none);
    }

-- all bytes were fed, and what is held is a part
pub underway_done : (count : ℕ) (all : List ℕ) (frames : List (List ℕ)) (now : Splitting) →
    IsPart now.held → IsUnderway count all frames now [] → IsCutInto count all frames None now
underway_done count all frames now part u = grind (
  arith,
  append-nil now.held,
  length-append u.front now.held,
  cut_into count all frames now.held None now,
)

-- a length that no frame has stays one, whatever is left
fault_more : (count before : ℕ) (held left : List ℕ) (fault : FrameFault) → before ≡
    kept_count count → Ends before held (Some fault) → Ends count (held ++ left) (Some fault)
fault_more count before held left fault is ends =
    grind (arith, nat_tests, HasLongLength-more, HasZeroLength-more)

pub underway_bad : (count : ℕ) (all : List ℕ) (frames : List (List ℕ)) (old new : Splitting)
    (left : List ℕ) (fault : FrameFault) → Ends old.before old.held (Some fault) →
    IsUnderway count all frames old left → IsCutInto count all frames (Some fault) new
underway_bad count all frames old new left fault ends u = grind (
  arith,
  cut_into count all frames (old.held ++ left) (Some fault) new,
  fault_more (count + length u.front) old.before old.held left fault u.before ends,
)

-- ---- all bytes were fed

pub underway_over : (count : ℕ) (all : List ℕ) (frames : List (List ℕ)) (now : Splitting)
    (left : List ℕ) → length left ≡ 0 → IsUnderway count all frames now left × IsPart now.held →
    IsCutInto count all frames None now
underway_over count all frames now [] none u = underway_done count all frames now u.1 u.0
underway_over count all frames now (x ∷ left) none u = absurd (omega (arith, none))

-- ---- frames that were taken are the first ones of the cut

front_from : (frames : List (List ℕ)) (fuel count : ℕ) (front rest : List ℕ) →
    SpellsFrames frames front → length (front ++ rest) < fuel → (more : List (List ℕ)) ×
    ((cut_from fuel count (front ++ rest)).frames ≡ frames ++ more)
front_from frames zero count front rest framed less = absurd (omega (arith, less))
front_from [] (suc fuel) count front rest none less =
    ((cut_from (suc fuel) count (front ++ rest)).frames, refl)
front_from (payload ∷ frames) (suc fuel) count front rest f less =
    let later : ℕ → List ℕ → Cut = λ n after. cut_from fuel n after in
    let split : front ++ rest ≡ f.0 ++ (f.1 ++ rest) = ap (λ (t : List ℕ). t ++ rest) f.2 ∙
    append_assoc f.0 f.1 rest in
    let all = ap length split in
    let counted : count + (length (f.0 ++ (f.1 ++ rest)) - length (f.1 ++ rest)) ≡
    count + length f.0 = omega (arith, length-append f.0 (f.1 ++ rest)) in
    let shorter : length (f.1 ++ rest) < fuel =
    omega (arith, less, all, length-append f.0 (f.1 ++ rest), frame_some payload f.0 f.3) in
    let more = front_from frames fuel (count + length f.0) f.1 rest f.4 shorter in (
      more.0,
      ap (λ (t : List ℕ). (cut_by count t (frame_read t) later).frames) split
          ∙ ap (λ (r : Field (List ℕ)). (cut_by count (f.0 ++ (f.1 ++ rest)) r later).frames)
          (front_reads payload f.0 (f.1 ++ rest) f.3)
          ∙ ap (λ (n : ℕ). payload ∷ (cut_from fuel n (f.1 ++ rest)).frames) counted
          ∙ ap (λ (ps : List (List ℕ)). payload ∷ ps) more.1,
    )

pub cut_begins : (count : ℕ) (all : List ℕ) (frames : List (List ℕ)) (now : Splitting)
    (left : List ℕ) → IsUnderway count all frames now left → (more : List (List ℕ)) ×
    ((cut_of count all).frames ≡ frames ++ more)
unfolding cut_of
cut_begins count all frames now left u =
    let more = front_from frames (suc (length all)) count u.front (now.held ++ left)
    u.framed (let len = ap length u.parts in omega (arith, len)) in
    (more.0, ap (λ (t : List ℕ). (cut_from (suc (length all)) count t).frames) u.parts ∙ more.1)
