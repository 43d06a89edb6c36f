-- What loops keep that put lines behind others: what was put, and what is left to be; each with
-- what there is beside the lines.
use Rattle.std.proofs.Common.{◌≡◌, ℕ, List, [], ◌++◌, refl}
use Rattle.std.proofs.Common.{sym, subst, ap, ◌∙◌, append_assoc, Option}
use Rattle.std.proofs.lemmas.List.{append-nil}
use Rattle.mc_capture.specs.Gathering.{Gathers, WritesPart}
use Rattle.mc_capture.proofs.Gatherings.{gathers_same, gathers_two, part_early, part_here, part_two}

-- of all lines some were put behind those that waited, and these are left
pub record IsShowing {B : Type 0} (held held' : Option (List ℕ)) (waited waits : List ℕ)
    (all left : List ℕ × B) : Type 0 where
  pub text : List ℕ
  pub is : all ≡ (text ++ left.0, left.1)
  pub gathers : Gathers held held' (waited ++ text) waits

-- none yet
pub showing_first : {B : Type 0} (held : Option (List ℕ)) (waits : List ℕ) (all : List ℕ × B)
    → IsShowing held held waits waits all all
showing_first {B} held waits all =
    let P : List ℕ → Type 0 = λ t. Gathers held held t waits in
    record {
      text = [];
      is = refl;
      gathers = subst P (sym (append-nil waits)) (gathers_same held waits);
    }

pub showing_next : {B : Type 0} (held middle held' : Option (List ℕ))
    (waited half waits line : List ℕ)
    (all left later : List ℕ × B)
    → IsShowing held middle waited half all left
    → Gathers middle held' (half ++ line) waits
    → left ≡ (line ++ later.0, later.1)
    → IsShowing held held' waited waits all later
showing_next {B} held middle held' waited half waits line all left later s g is = record {
  text = s.text ++ line;
  is = s.is ∙ ap (λ (t : List ℕ × B). (s.text ++ t.0, t.1)) is
      ∙ ap (λ (t : List ℕ). (t, later.1)) (sym (append_assoc s.text line later.0));
  gathers = gathers_two held middle held' waited s.text half line waits s.gathers g;
}

-- all were
pub showing_done : {B : Type 0} (held held' : Option (List ℕ)) (waited waits : List ℕ)
    (all left : List ℕ × B) (now : B)
    → IsShowing held held' waited waits all left
    → left ≡ ([], now)
    → Gathers held held' (waited ++ all.0) waits
showing_done {B} held held' waited waits all left now s none =
    let P : List ℕ → Type 0 = λ t. Gathers held held' (waited ++ t) waits in
    subst P (sym (ap (λ (t : List ℕ × B). t.0) s.is
    ∙ ap (λ (t : List ℕ × B). s.text ++ t.0) none
    ∙ append-nil s.text)) s.gathers

pub showing_ends : {B : Type 0} (held held' : Option (List ℕ)) (waited waits : List ℕ)
    (all left : List ℕ × B) (now : B)
    → IsShowing held held' waited waits all left
    → left ≡ ([], now)
    → all.1 ≡ now
showing_ends {B} held held' waited waits all left now s none =
    ap (λ (t : List ℕ × B). t.1) s.is ∙ ap (λ (t : List ℕ × B). t.1) none

-- it broke in the next line
pub showing_breaks : {B : Type 0} (held middle held' : Option (List ℕ)) (waited half line : List ℕ)
    (all left later : List ℕ × B)
    → IsShowing held middle waited half all left
    → WritesPart middle held' (half ++ line)
    → left ≡ (line ++ later.0, later.1)
    → WritesPart held held' (waited ++ all.0)
showing_breaks {B} held middle held' waited half line all left later s g is =
    let two = part_two held middle held' waited s.text half line s.gathers g in
    let P : List ℕ → Type 0 = λ t. WritesPart held held' (waited ++ t) in
    let same : all.0 ≡ (s.text ++ line) ++ later.0 =
    ap (λ (t : List ℕ × B). t.0) s.is
    ∙ ap (λ (t : List ℕ × B). s.text ++ t.0) is
    ∙ sym (append_assoc s.text line later.0) in
    subst P (sym same) (part_early held held' waited (s.text ++ line) later.0 two)

-- it broke before it
pub showing_stops : {B : Type 0} (held held' : Option (List ℕ)) (waited waits : List ℕ)
    (all left : List ℕ × B)
    → IsShowing held held' waited waits all left
    → WritesPart held held' (waited ++ all.0)
showing_stops {B} held held' waited waits all left s =
    let P : List ℕ → Type 0 = λ t. WritesPart held held' t in
    let same : (waited ++ s.text) ++ left.0 ≡ waited ++ all.0 =
    append_assoc waited s.text left.0
    ∙ ap (λ (t : List ℕ). waited ++ t) (sym (ap (λ (t : List ℕ × B). t.0) s.is)) in
    subst P same (part_here held held' (waited ++ s.text) waits left.0 s.gathers)
