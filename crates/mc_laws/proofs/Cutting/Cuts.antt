-- The cut of bytes that come in two pieces: that of the first, and behind it that of what it left
-- and the second. And how many frames a piece makes whole.
use Rattle.std.proofs.Common.{◌≡◌, ℕ, ◌+◌, ◌-◌, ◌≤◌, List, [], ◌∷◌, ◌++◌, length, refl, sym}
use Rattle.std.proofs.Common.{subst, ap, ◌∙◌, inl, inr, append_assoc, arith}
use Rattle.std.specs.Prelude.{◌⊎◌, Option, Some, None}
use Rattle.std.proofs.lemmas.List.{append-nil, length-append}
use Rattle.mc_bytes.specs.Reading.{IsBytes}
use Rattle.mc_frame.specs.declared.fault.FrameFault.{FrameFault}
use Rattle.mc_frame.specs.declared.fault.FrameFault.TheVariants.{LongLength, ZeroLength}
use Rattle.mc_frame.specs.Frame.{SpellsFrame}
use Rattle.mc_frame.specs.Cut.{Cut, Ends, IsCutAt, IsPart, SpellsFrames}
use Rattle.mc_frame.proofs.Cuts.{HasLongLength-more, HasZeroLength-more, frame_some}
use Rattle.mc_model.specs.Cutting.{cut_of}
use Rattle.mc_model.proofs.CutFacts.{cut_of_bytes}
use Rattle.mc_model.proofs.FitsBytes.{bytes_joined, cut_bytes}
use Rattle.mc_laws.proofs.Apart.Befores.{cut_again, part_no_frame, parted}

-- ---- two pieces

-- frames and then frames
spells_both : (frames more : List (List ℕ)) (front back : List ℕ) → SpellsFrames frames front →
    SpellsFrames more back → SpellsFrames (frames ++ more) (front ++ back)
spells_both [] more front back none s =
    subst (λ (t : List ℕ). SpellsFrames more t) (ap (λ (t : List ℕ). t ++ back) (sym none)) s
spells_both (frame ∷ frames) more front back f s = (
  f.0,
  f.1 ++ back,
  ap (λ (t : List ℕ). t ++ back) f.2 ∙ append_assoc f.0 f.1 back,
  f.3,
  spells_both frames more f.1 back f.4 s,
)

-- how many bytes stand before what a cut left
abbrev pub count_after : ℕ → List ℕ → Cut → ℕ
count_after count all cut = count + (length all - length cut.rest)

counted : (count : ℕ) (all : List ℕ) (cut : Cut) → (c : IsCutAt count all cut) →
    count_after count all cut ≡ count + length c.front
counted count all cut c = let parts = ap length c.parts in
    omega (arith, parts, length-append c.front cut.rest)

-- one cut behind another
abbrev pub both : Cut → Cut → Cut
both first second = record {
  frames = first.frames ++ second.frames;
  rest = second.rest;
  fault = second.fault;
}

both_cut : (count : ℕ) (all more : List ℕ) (first second : Cut) → IsCutAt count all first →
    IsCutAt (count_after count all first) (first.rest ++ more) second →
    IsCutAt count (all ++ more) (both first second)
both_cut count all more first second a b =
    let here = counted count all first a in
    let P : ℕ → Type 0 = λ n. Ends n second.rest second.fault in
    record {
      front = a.front ++ b.front;
      parts = ap (λ (t : List ℕ). t ++ more) a.parts ∙ append_assoc a.front first.rest more
          ∙ ap (λ (t : List ℕ). a.front ++ t) b.parts
          ∙ sym (append_assoc a.front b.front second.rest);
      framed = spells_both first.frames second.frames a.front b.front a.framed b.framed;
      ends = subst P (omega (arith, here, length-append a.front b.front)) b.ends;
    }

-- the cut of what the cut of some bytes left, and of more behind it
abbrev pub cut_on : ℕ → List ℕ → List ℕ → Cut
cut_on count all more =
    cut_of (count_after count all (cut_of count all)) ((cut_of count all).rest ++ more)

left_bytes : (count : ℕ) (all more : List ℕ) → IsBytes all → IsBytes more →
    IsBytes ((cut_of count all).rest ++ more)
left_bytes count all more fits fit_too =
    bytes_joined (cut_of count all).rest more (cut_bytes count all fits).1 fit_too

-- the cut of both is that of the first, and behind it that of what it left and the second
pub cut_in_two : (count : ℕ) (all more : List ℕ) → IsBytes all → IsBytes more →
    cut_of count (all ++ more) ≡ both (cut_of count all) (cut_on count all more)
cut_in_two count all more fits fit_too =
    let first = cut_of count all in
    cut_again count (all ++ more) (both first (cut_on count all more))
    (bytes_joined all more fits fit_too)
    (both_cut count all more first (cut_on count all more) (cut_of_bytes count all fits)
    (cut_of_bytes (count_after count all first) (first.rest ++ more)
    (left_bytes count all more fits fit_too)))

-- behind a fault there are no frames, and there is that fault
abbrev pub IsBehind : Option FrameFault → Cut → Type 0
IsBehind None cut = Unit {0}
IsBehind (Some fault) cut = (cut.frames ≡ []) × (cut.fault ≡ Some fault)

ends_more : (count : ℕ) (rest more : List ℕ) (fault : FrameFault) → Ends count rest (Some fault) →
    Ends count (rest ++ more) (Some fault)
ends_more count rest more (LongLength at) e = (HasLongLength-more rest more e.0, e.1)
ends_more count rest more (ZeroLength at) e = (HasZeroLength-more rest more e.0, e.1)

still_bad : (count : ℕ) (rest more : List ℕ) (fault : Option FrameFault) →
    IsBytes (rest ++ more) → Ends count rest fault → IsBehind fault (cut_of count (rest ++ more))
still_bad count rest more None fits e = tt
still_bad count rest more (Some fault) fits e =
    let P : ℕ → Type 0 = λ n. Ends n (rest ++ more) (Some fault) in
    let same = cut_again count (rest ++ more)
    (record { frames = []; rest = rest ++ more; fault = Some fault }) fits (record {
      front = [];
      parts = refl;
      framed = refl;
      ends = subst P (omega arith) (ends_more count rest more fault e);
    }) in
    (ap (λ (c : Cut). c.frames) same, ap (λ (c : Cut). c.fault) same)

pub behind_fault : (count : ℕ) (all more : List ℕ) → IsBytes all → IsBytes more →
    IsBehind (cut_of count all).fault (cut_on count all more)
behind_fault count all more fits fit_too =
    let first = cut_of count all in
    let c = cut_of_bytes count all fits in
    let P : ℕ → Type 0 = λ n. Ends n first.rest first.fault in
    still_bad (count_after count all first) first.rest more first.fault
    (left_bytes count all more fits fit_too)
    (subst P (sym (counted count all first c)) c.ends)

-- what a cut leaves is no longer than the bytes
pub left_few : (count : ℕ) (all : List ℕ) → IsBytes all →
    length (cut_of count all).rest ≤ length all
left_few count all fits =
    let c = cut_of_bytes count all fits in
    let parts = ap length c.parts in
    omega (arith, parts, length-append c.front (cut_of count all).rest)

-- so as many bytes stand before what is left at the end, however they are counted
pub same_count : (count : ℕ) (all more : List ℕ) → IsBytes all → IsBytes more →
    count_after (count_after count all (cut_of count all)) ((cut_of count all).rest ++ more)
    (cut_on count all more)
    ≡ count + (length (all ++ more) - length (cut_on count all more).rest)
same_count count all more fits fit_too =
    let first = left_few count all fits in
    let second = left_few (count_after count all (cut_of count all))
    ((cut_of count all).rest ++ more) (left_bytes count all more fits fit_too) in
    omega (
      arith,
      first,
      second,
      length-append all more,
      length-append (cut_of count all).rest more,
    )

-- ---- how many frames

frames_few : (frames : List (List ℕ)) (bytes : List ℕ) → SpellsFrames frames bytes →
    length frames ≤ length bytes
frames_few [] bytes none = omega arith
frames_few (frame ∷ frames) bytes s =
    let some = frame_some frame s.0 s.3 in
    let rest = frames_few frames s.1 s.4 in
    let all = ap length s.2 in
    omega (arith, some, rest, all, length-append s.0 s.1)

-- so many frames, and so much behind them, or there is no frame
abbrev pub AreFew : List (List ℕ) → List ℕ → List ℕ → Type 0
AreFew frames rest bytes = (frames ≡ []) ⊎ (length frames + length rest ≤ length bytes)

few_in : (count : ℕ) (part bytes : List ℕ) (frames : List (List ℕ)) (rest : List ℕ)
    (fault : Option FrameFault) → IsPart part →
    IsCutAt count (part ++ bytes) (record { frames = frames; rest = rest; fault = fault }) →
    AreFew frames rest bytes
few_in count part bytes [] rest fault is c = inl refl
few_in count part bytes (frame ∷ frames) rest fault is c =
    let f = c.framed in
    let split : part ++ bytes ≡ f.0 ++ (f.1 ++ rest) =
    c.parts ∙ ap (λ (t : List ℕ). t ++ rest) f.2 ∙ append_assoc f.0 f.1 rest in
    elim (parted part bytes f.0 (f.1 ++ rest) split) [
      | inl longer ↦ inr (behind f.0 f.1 f.3 longer.0 longer.1 longer.2 (frames_few frames f.1 f.4))
      | inr shorter ↦ absurd (part_no_frame frame f.0 shorter.0 f.3 (subst IsPart shorter.1 is))
    ]
  where
    behind : (front back : List ℕ) → SpellsFrame frame front → (d : List ℕ) → front ≡ part ++ d →
        bytes ≡ d ++ (back ++ rest) → length frames ≤ length back →
        length (frame ∷ frames) + length rest ≤ length bytes
    behind front back s [] is_part all few = absurd (part_no_frame frame part [] (subst
        (λ (t : List ℕ). SpellsFrame frame t) (is_part ∙ append-nil part) s)
        (subst IsPart (sym (append-nil part)) is))
    behind front back s (b ∷ d) is_part all few = let len = ap length all in
        omega (arith, few, len, length-append d (back ++ rest), length-append back rest)

-- what a piece behind a part of a frame makes of it
pub frames_in_piece : (count : ℕ) (part bytes : List ℕ) → IsPart part → IsBytes (part ++ bytes) →
    AreFew (cut_of count (part ++ bytes)).frames (cut_of count (part ++ bytes)).rest bytes
frames_in_piece count part bytes is fits =
    let cut = cut_of count (part ++ bytes) in
    few_in count part bytes cut.frames cut.rest cut.fault is
    (cut_of_bytes count (part ++ bytes) fits)
