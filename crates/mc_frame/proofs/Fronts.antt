-- What stands at the front of the held bytes, from what reading a frame there gave.
use Rattle.std.proofs.Common.{◌≡◌, ℕ, ◌+◌, ◌-◌, ◌^◌, ◌<◌, ◌≤◌, List, ◌++◌, length, take, drop, Ok}
use Rattle.std.proofs.Common.{Err, refl, sym, subst, ap, ◌∙◌, arith}
use Rattle.std.specs.Prelude.{Option, Some, None, min}
use Rattle.std.proofs.lemmas.List.{length-append, length-take-le, take_at, take-append-drop}
use Rattle.std.proofs.lemmas.List.{drop-drop}
use Rattle.mc_bytes.specs.declared.fault.Stop.{Stop}
use Rattle.mc_bytes.specs.Reading.{IsBytes}
use Rattle.mc_frame.specs.declared.fault.FrameFault.{FrameFault}
use Rattle.mc_frame.specs.Faults.{fault_of}
use Rattle.mc_frame.specs.Frame.{SpellsFrame, frame_read}
use Rattle.mc_frame.specs.FrameLaws.{frame_found, frame_fit}
use Rattle.mc_frame.specs.Cut.{IsPart, kept_count, Ends}
use Rattle.mc_frame.specs.Held.{Splitting}
use Rattle.mc_frame.specs.Splitting.{PeeksFrame, TakesFrame, held_max, room_for, shortened}
use Rattle.mc_frame.specs.Kept.{IsMet}
use Rattle.mc_frame.proofs.Stops.{frame_stopped}
use Rattle.mc_frame.proofs.Cuts.{stopped_ends, ends_no_frame, ends_once, one_frame}

-- the frame that was read is the bytes that are gone
pub read_front : (bytes payload rest : List ℕ) → IsBytes bytes → frame_read bytes ≡
    Ok (payload, rest) → (length rest ≤ length bytes) ×
    SpellsFrame payload (take (length bytes - length rest) bytes)
read_front bytes payload rest fits is =
    let f = frame_found bytes (payload, rest) fits is in
    let all = ap length f.parts in
    let len : length f.front ≡ length bytes - length rest =
    omega (arith, all, length-append f.front rest) in
    let front : f.front ≡ take (length bytes - length rest) bytes =
    sym (take_at f.front rest (length bytes - length rest) len) ∙
    ap (take (length bytes - length rest)) (sym f.parts) in
    (omega (arith, all, length-append f.front rest), subst (SpellsFrame payload) front f.spelled)

-- where reading stopped, the bytes end so
pub read_ends : (bytes : List ℕ) (stop : Stop) (count : ℕ) → count < 2 ^ 64 → IsBytes bytes →
    frame_read bytes ≡ Err stop → Ends count bytes (fault_of stop.kind count)
read_ends bytes stop count small fits is = stopped_ends stop.kind count count bytes
    (omega (arith, small)) (frame_stopped bytes stop fits is)

-- the held bytes, from those of the buffer
pub held_is : (now : Splitting) (held : List ℕ) (before : ℕ) (fault : Option FrameFault) (P : ℕ →
    List ℕ → Type 0) → ◌≡◌ {A = Splitting} (record { held = held; before = before; fault = fault })
    now → P before held → P now.before now.held
held_is now held before fault P is p = let Q : Splitting → Type 0 = λ s. P s.before s.held in
    subst Q is p

-- the fault that was met is still that of the held bytes
pub still_met : (held : List ℕ) (before : ℕ) (met : Option FrameFault) (fault : FrameFault) →
    met ≡ Some fault → IsMet before held met → Ends before held (Some fault)
still_met held before met fault is m = let P : Option FrameFault → Type 0 =
    λ f. IsMet before held f in subst P is m

-- where the held bytes end so, no frame stands at their front
pub no_frame_where : (count : ℕ) (held payload front rest : List ℕ) (fault : Option FrameFault) →
    Ends count held fault → SpellsFrame payload front → held ≡ front ++ rest → ⊥
no_frame_where count held payload front rest fault ends s is =
    let P : List ℕ → Type 0 = λ t. Ends count t fault in
    ends_no_frame count fault payload front rest s (subst P is ends)

-- where a frame of so many bytes does, they don't end so
pub no_end_where : (count : ℕ) (held payload : List ℕ) (len : ℕ) (fault : Option FrameFault) →
    SpellsFrame payload (take len held) → Ends count held fault → ⊥
no_end_where count held payload len fault s ends = no_frame_where count held payload (take len held)
    (drop len held) fault ends s (sym (take-append-drop len held))

-- and there is one such frame
pub same_payload : (held payload : List ℕ) (len : ℕ) (payload' front rest : List ℕ) →
    SpellsFrame payload (take len held) → SpellsFrame payload' front → held ≡ front ++ rest →
    payload ≡ payload'
same_payload held payload len payload' front rest s s' is =
    (one_frame payload (take len held) (drop len held) payload' front rest s s'
    (take-append-drop len held ∙ is)).0

-- the first bytes go: the place rises by them
pub pass_is : (now : Splitting) (buffer : List ℕ) (start len before after : ℕ)
    (fault : Option FrameFault) →
    ◌≡◌ {A = Splitting} (record { held = drop start buffer; before = before; fault = fault }) now →
    after ≡ kept_count (before + len) →
    ◌≡◌ {A = Splitting}
    (record { held = drop (start + len) buffer; before = after; fault = fault })
    (shortened len now)
pass_is now buffer start len before after fault is counted =
    let goes : ◌≡◌ {A = Splitting}
    (record { held = drop (start + len) buffer; before = after; fault = fault })
    (record {
      held = drop len (drop start buffer);
      before = kept_count (before + len);
      fault = fault;
    }) = (λ i. record {
      held = sym (drop-drop len start buffer) i;
      before = counted i;
      fault = fault;
    }) in
    goes ∙ ap (shortened len) is

-- which are those of a frame
pub pass_takes : (now : Splitting) (payload : List ℕ) (len : ℕ) → len ≤ length now.held →
    SpellsFrame payload (take len now.held) → TakesFrame now payload (shortened len now)
pass_takes now payload len within s = record {
  front = take len now.held;
  spelled = s;
  held = sym (take-append-drop len now.held);
  before = ap (λ (n : ℕ). kept_count (now.before + n)) (sym (length-take-le len now.held within));
  fault = refl;
}

-- ---- what the splitter shows

-- what the code holds is what is shown
pub record Shown (now : Splitting) (buffer deref held : List ℕ) (start before : ℕ)
    (fault : Option FrameFault) : Type 0 where
  pub view : ◌≡◌ {A = Splitting} (record {
    held = drop start buffer;
    before = before;
    fault = fault;
  }) now
  pub borrowed : deref ≡ buffer
  pub split : held ≡ drop start deref

shown_held : (now : Splitting) (buffer deref held : List ℕ) (start before : ℕ)
    (fault : Option FrameFault) → Shown now buffer deref held start before fault → held ≡ now.held
shown_held now buffer deref held start before fault s = s.split ∙ ap (λ (t : List ℕ). drop start t)
    s.borrowed ∙ ap (λ (t : Splitting). t.held) s.view

pub met_ends : (now : Splitting) (held : List ℕ) (before : ℕ) (met : Option FrameFault)
    (fault : FrameFault) → ◌≡◌ {A = Splitting} (record {
      held = held;
      before = before;
      fault = met;
    }) now → IsMet before held met → met ≡ Some fault →
    Ends now.before now.held (Some fault)
met_ends now held before met fault view m is =
    held_is now held before met (λ b h. Ends b h (Some fault)) view (still_met held before met fault
    is m)

pub shown_ends : (now : Splitting) (buffer deref held : List ℕ) (start before : ℕ)
    (fault ends : Option FrameFault) → Shown now buffer deref held start before fault →
    Ends before held ends → Ends now.before now.held ends
shown_ends now buffer deref held start before fault ends s e =
    let P : List ℕ → Type 0 = λ t. Ends before t ends in
    let Q : ℕ → Type 0 = λ n. Ends n now.held ends in
    subst Q (ap (λ (t : Splitting). t.before) s.view)
    (subst P (shown_held now buffer deref held start before fault s) e)

pub shown_frame : (now : Splitting) (buffer deref held : List ℕ) (start before : ℕ)
    (fault : Option FrameFault) (payload : List ℕ) (len : ℕ) →
    Shown now buffer deref held start before fault → fault ≡ None → len ≤ length held →
    SpellsFrame payload (take len held) → PeeksFrame now payload len
shown_frame now buffer deref held start before fault payload len s none within f =
    let same = shown_held now buffer deref held start before fault s in
    let P : List ℕ → Type 0 = λ t. SpellsFrame payload (take len t) in
    let Q : List ℕ → Type 0 = λ t. len ≤ length t in
    record {
      fine = sym (ap (λ (t : Splitting). t.fault) s.view) ∙ none;
      within = subst Q same within;
      spelled = subst P same f;
    }

pub shown_part : (now : Splitting) (buffer deref held : List ℕ) (start before : ℕ)
    (fault : Option FrameFault) → Shown now buffer deref held start before fault →
    fault ≡ None → IsPart held → IsPart now.held × (now.fault ≡ None)
shown_part now buffer deref held start before fault s none part = (
  subst IsPart (shown_held now buffer deref held start before fault s) part,
  sym (ap (λ (t : Splitting). t.fault) s.view) ∙ none,
)

-- ---- an end has one reason

some_is : (a b : FrameFault) → ◌≡◌ {A = Option FrameFault} (Some a) (Some b) → a ≡ b
some_is a b e = cc

none_is_not : (a : FrameFault) → ◌≡◌ {A = Option FrameFault} None (Some a) → ⊥
none_is_not a e = cc

pub one_fault : (count : ℕ) (held : List ℕ) (a b : FrameFault) → Ends count held (Some a) →
    Ends count held (Some b) → a ≡ b
one_fault count held a b e f = some_is a b (ends_once count held (Some a) (Some b) e f)

pub more_or_fault : (count : ℕ) (held : List ℕ) (a : FrameFault) → Ends count held None →
    Ends count held (Some a) → ⊥
more_or_fault count held a e f = none_is_not a (ends_once count held None (Some a) e f)

-- ---- a part of a frame leaves room

pub part_few : (held : List ℕ) → IsPart held → length held < held_max
part_few held part =
    let size = part.spelled.sized.within in
    let payload = (frame_fit part.payload (held ++ part.missing) part.spelled).counted in
    let all = ap length part.spelled.parts in
    omega (
      arith,
      size,
      payload,
      all,
      part.some,
      length-append held part.missing,
      length-append part.spelled.size part.payload,
    )

pub part_is_fed : (held piece : List ℕ) (fault : Option FrameFault) (room count : ℕ) →
    room ≡ room_for fault held → count ≡ min (length piece) room → IsPart held → fault ≡ None →
    0 < length piece → 0 < count
part_is_fed held piece (Some fault) room count has is part none some =
    absurd (none_is_not fault (sym none))
part_is_fed held piece None room count has is part none some =
    omega (arith, has, is, some, part_few held part)
