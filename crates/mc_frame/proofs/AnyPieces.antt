-- What any list of feeds and takes comes to, by the cut of all that was fed.
use Rattle.std.proofs.Common.{◌≡◌, ℕ, ◌+◌, List, [], ◌∷◌, ◌++◌, length, take, refl, sym, subst, ap}
use Rattle.std.proofs.Common.{◌∙◌, append_assoc, arith}
use Rattle.std.specs.Prelude.{Option, Some, None}
use Rattle.std.proofs.lemmas.List.{length-append, append-nil}
use Rattle.mc_frame.specs.declared.fault.FrameFault.{FrameFault}
use Rattle.mc_frame.specs.declared.fault.FrameFault.TheVariants.{LongLength, ZeroLength}
use Rattle.mc_frame.specs.declared.fault.Take.{Take}
use Rattle.mc_frame.specs.declared.fault.Take.TheVariants.{Frame, More, Bad}
use Rattle.mc_frame.specs.Frame.{SpellsFrame}
use Rattle.mc_frame.specs.Cut.{SpellsFrames, kept_count, Ends, Cut, IsCutAt}
use Rattle.mc_frame.specs.Held.{Splitting, nothing_held}
use Rattle.mc_frame.specs.Splitting.{Event, fed, took, refused, Takes, Runs, Answers, fed_bytes}
use Rattle.mc_frame.specs.Splitting.{taken_frames}
use Rattle.mc_frame.proofs.Cuts.{first_of_cut, unique}

-- what was fed is the frames that were taken and what is held
pub record Reached (joined : List ℕ) (frames : List (List ℕ)) (now : Splitting) : Type 0 where
  pub front : List ℕ
  pub parts : joined ≡ front ++ now.held
  pub framed : SpellsFrames frames front
  pub before : now.before ≡ kept_count (length front)

-- one frame more
pub framed_more : (frames : List (List ℕ)) (front payload next : List ℕ) →
    SpellsFrames frames front → SpellsFrame payload next →
    SpellsFrames (frames ++ payload ∷ []) (front ++ next)
framed_more [] front payload next none s = (
  next,
  [],
  ap (λ (t : List ℕ). t ++ next) none ∙
      sym (append-nil next),
  s,
  refl,
)
framed_more (first ∷ frames) front payload next f s = (
  f.0,
  f.1 ++ next,
  ap (λ (t : List ℕ). t ++ next) f.2 ∙ append_assoc f.0 f.1 next,
  f.3,
  framed_more frames f.1 payload next f.4 s,
)

reached_fed : (joined more : List ℕ) (frames : List (List ℕ)) (old new : Splitting) →
    new ≡ record old { held = old.held ++ more } → Reached joined frames old →
    Reached (joined ++ more) frames new
reached_fed joined more frames old new is r = record {
  front = r.front;
  parts = ap (λ (t : List ℕ). t ++ more) r.parts ∙ append_assoc r.front old.held more ∙
      sym (ap (λ (s : Splitting). r.front ++ s.held) is);
  framed = r.framed;
  before = ap (λ (s : Splitting). s.before) is ∙ r.before;
}

reached_frame : (joined : List ℕ) (frames : List (List ℕ)) (payload : List ℕ) (old new : Splitting)
    → Takes old (Frame payload) new → Reached joined frames old →
    Reached joined (frames ++ payload ∷ []) new
reached_frame joined frames payload old new t r = record {
  front = r.front ++ t.front;
  parts = r.parts ∙ ap (λ (s : List ℕ). r.front ++ s) t.held ∙
      sym (append_assoc r.front t.front new.held);
  framed = framed_more frames r.front payload t.front r.framed t.spelled;
  before = (let was = r.before in let now = t.before in
      omega (arith, was, now, length-append r.front t.front));
}

reached_same : (joined : List ℕ) (frames : List (List ℕ)) (old new : Splitting) →
    new.held ≡ old.held → new.before ≡ old.before → Reached joined frames old →
    Reached joined frames new
reached_same joined frames old new held before r = record {
  front = r.front;
  parts = r.parts ∙ ap (λ (s : List ℕ). r.front ++ s) (sym held);
  framed = r.framed;
  before = before ∙ r.before;
}

-- from where some calls have come to, where more of them come to
pub reached : (events : List Event) (joined : List ℕ) (frames : List (List ℕ)) (old now : Splitting)
    → Runs old events now → Reached joined frames old →
    Reached (joined ++ fed_bytes events) (frames ++ taken_frames events) now
reached [] joined frames old now is r =
    let P : Splitting → Type 0 = λ s. Reached (joined ++ []) (frames ++ []) s in
    subst P (sym is) (rw (append-nil joined, append-nil frames) r)
reached (fed piece count ∷ events) joined frames old now run r =
    let after = reached events (joined ++ take count piece) frames run.0 now run.2
    (reached_fed joined (take count piece) frames old run.0 run.1.held r) in
    let P : List ℕ → Type 0 = λ t. Reached t (frames ++ taken_frames events) now in
    subst P (append_assoc joined (take count piece) (fed_bytes events)) after
reached (took (Frame payload) ∷ events) joined frames old now run r =
    let after = reached events joined (frames ++ payload ∷ []) run.0 now run.2
    (reached_frame joined frames payload old run.0 run.1 r) in
    let P : List (List ℕ) → Type 0 = λ t. Reached (joined ++ fed_bytes events) t now in
    subst P (append_assoc frames (payload ∷ []) (taken_frames events)) after
reached (took More ∷ events) joined frames old now run r =
    let same = run.1.2 in
    reached events joined frames run.0 now run.2 (reached_same joined frames old run.0
    (ap (λ (s : Splitting). s.held) same) (ap (λ (s : Splitting). s.before) same) r)
reached (took (Bad fault) ∷ events) joined frames old now run r =
    let same = run.1.1 in
    reached events joined frames run.0 now run.2 (reached_same joined frames old run.0
    (ap (λ (s : Splitting). s.held) same) (ap (λ (s : Splitting). s.before) same) r)
reached (refused ∷ events) joined frames old now run r =
    let same = run.1 in
    reached events joined frames run.0 now run.2 (reached_same joined frames old run.0
    (ap (λ (s : Splitting). s.held) same) (ap (λ (s : Splitting). s.before) same) r)

reached_from_nothing : (events : List Event) (now : Splitting) → Runs nothing_held events now →
    Reached (fed_bytes events) (taken_frames events) now
reached_from_nothing events now run = reached events [] [] nothing_held now run
    (record { front = []; parts = refl; framed = refl; before = refl })

-- ---- the cut of what was fed, behind the frames that were taken

pub record Behind (count : ℕ) (frames : List (List ℕ)) (held : List ℕ) (all : List (List ℕ))
    (rest : List ℕ) (fault : Option FrameFault) : Type 0 where
  pub later : List (List ℕ)
  pub parts : all ≡ frames ++ later
  pub cut_after : IsCutAt count held (record { frames = later; rest = rest; fault = fault })

pub behind : (count : ℕ) (frames : List (List ℕ)) (front held : List ℕ) (all : List (List ℕ))
    (rest : List ℕ) (fault : Option FrameFault) → SpellsFrames frames front →
    IsCutAt count (front ++ held) (record { frames = all; rest = rest; fault = fault }) →
    Behind (count + length front) frames held all rest fault
behind count [] front held all rest fault none cut =
    let P : List ℕ → Type 0 = λ t. IsCutAt count (t ++ held) (record {
      frames = all;
      rest = rest;
      fault = fault;
    }) in
    let here : IsCutAt count held (record { frames = all; rest = rest; fault = fault }) =
    subst P none cut in
    let len : count ≡ count + length front = (let e = ap length none in omega (arith, e)) in
    let Q : ℕ → Type 0 = λ n. IsCutAt n held (record { frames = all; rest = rest; fault = fault })
    in
    record { later = all; parts = refl; cut_after = subst Q len here }
behind count (payload ∷ frames) front held all rest fault f cut =
    let P : List ℕ → Type 0 = λ t. IsCutAt count t (record {
      frames = all;
      rest = rest;
      fault = fault;
    }) in
    let split : front ++ held ≡ f.0 ++ (f.1 ++ held) = ap (λ (t : List ℕ). t ++ held) f.2 ∙
    append_assoc f.0 f.1 held in
    let first = first_of_cut count payload f.0 (f.1 ++ held) all rest fault f.3 (subst P split cut)
    in
    let more = behind (count + length f.0) frames f.1 held first.later rest fault f.4
    first.cut_after in
    let len : count + length f.0 + length f.1 ≡ count + length front = (let e = ap length f.2 in
    omega (arith, e, length-append f.0 f.1)) in
    let Q : ℕ → Type 0 = λ n. IsCutAt n held (record {
      frames = more.later;
      rest = rest;
      fault = fault;
    }) in
    record {
      later = more.later;
      parts = first.frames ∙ ap (λ (t : List (List ℕ)). payload ∷ t) more.parts;
      cut_after = subst Q len more.cut_after;
    }

-- ---- the two laws

-- the cut behind what any calls have taken
pub behind_taken : (events : List Event) (now : Splitting) (cut : Cut) →
    Runs nothing_held events now → IsCutAt 0 (fed_bytes events) cut →
    (count : ℕ) × (now.before ≡ kept_count count) × Behind count (taken_frames events) now.held
    cut.frames cut.rest cut.fault
behind_taken events now cut run is =
    let r = reached_from_nothing events now run in
    let P : List ℕ → Type 0 = λ t. IsCutAt 0 t cut in
    let len : length r.front ≡ 0 + length r.front = omega arith in (
      0 + length r.front,
      r.before ∙ ap kept_count len,
      behind 0 (taken_frames events) r.front
          now.held cut.frames cut.rest cut.fault r.framed (subst P r.parts is),
    )

pub frames_first : (events : List Event) (now : Splitting) (cut : Cut) →
    Runs nothing_held events now → IsCutAt 0 (fed_bytes events) cut → (later : List (List ℕ)) ×
    (cut.frames ≡ taken_frames events ++ later)
frames_first events now cut run is = let b = behind_taken events now cut run is in
    (b.2.later, b.2.parts)

-- a count that was kept is kept again
ends_kept : (count before : ℕ) (rest : List ℕ) (fault : Option FrameFault) →
    before ≡ kept_count count → Ends before rest fault → Ends count rest fault
ends_kept count before rest None is e = e
ends_kept count before rest (Some (LongLength at)) is e =
    (e.0, (let at_is = e.1 in omega (arith, is, at_is)))
ends_kept count before rest (Some (ZeroLength at)) is e =
    (e.0, (let at_is = e.1 in omega (arith, is, at_is)))

-- where no whole frame is held, the cut ends so
ended : (count : ℕ) (frames : List (List ℕ)) (held : List ℕ) (all : List (List ℕ)) (rest : List ℕ)
    (fault now : Option FrameFault) → Behind count frames held all rest fault →
    Ends count held now → (all ≡ frames) × (fault ≡ now)
ended count frames held all rest fault now b ends =
    let Q : ℕ → Type 0 = λ n. Ends n held now in
    let here : IsCutAt count held (record { frames = []; rest = held; fault = now }) =
    record { front = []; parts = refl; framed = refl; ends = subst Q (omega arith) ends } in
    let same = unique count held b.later rest fault [] held now b.cut_after here in (
      b.parts ∙ ap (λ (c : Cut). frames ++ c.frames) same ∙ append-nil frames,
      ap (λ (c : Cut). c.fault) same,
    )

answered : (answer : Take) (now next : Splitting) (cut : Cut) (frames : List (List ℕ)) (count : ℕ) →
    now.before ≡ kept_count count → Takes now answer next →
    Behind count frames now.held cut.frames cut.rest cut.fault → Answers cut frames answer
answered (Frame payload) now next cut frames count before t b =
    let P : List ℕ → Type 0 = λ s. IsCutAt count s (record {
      frames = b.later;
      rest = cut.rest;
      fault = cut.fault;
    }) in
    let first = first_of_cut count payload t.front next.held b.later cut.rest cut.fault t.spelled
    (subst P t.held b.cut_after) in
    (first.later, b.parts ∙ ap (λ (s : List (List ℕ)). frames ++ s) first.frames)
answered More now next cut frames count before t b = ended count frames now.held cut.frames cut.rest
    cut.fault None b t.0
answered (Bad fault) now next cut frames count before t b = ended count frames now.held cut.frames
    cut.rest cut.fault (Some fault) b (ends_kept count now.before now.held (Some fault) before t.0)

pub answers : (events : List Event) (now next : Splitting) (answer : Take) (cut : Cut) →
    Runs nothing_held events now → Takes now answer next → IsCutAt 0 (fed_bytes events) cut →
    Answers cut (taken_frames events) answer
answers events now next answer cut run t is =
    let b = behind_taken events now cut run is in
    answered answer now next cut (taken_frames events) b.0 b.1 t b.2
