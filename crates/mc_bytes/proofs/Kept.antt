-- What stood in a list before a failed write stands there after it.
use Rattle.std.proofs.Common.{◌≡◌, List, ℕ, ◌++◌, length, take, drop, sym, ap, ◌∙◌, append_assoc}
use Rattle.std.proofs.Common.{subst}
use Rattle.std.proofs.lemmas.List.{take-append-drop}
use Rattle.std.proofs.Math.Seq.{take-append_seam, take-length}

-- the bytes before the last part that was written are kept if all before the fault are
pub kept_before : (old more new : List ℕ) → take (length (old ++ more)) new ≡ old ++ more →
    take (length old) new ≡ old
kept_before old more new h =
    let rest = drop (length (old ++ more)) new in
    let whole : new ≡ old ++ (more ++ rest) = sym (take-append-drop (length (old ++ more)) new) ∙
    ap (λ (t : List ℕ). t ++ rest) h ∙ append_assoc old more rest in
    ap (take (length old)) whole ∙ take-append_seam old (more ++ rest)

pub kept_past : (old now new : List ℕ) → take (length old) now ≡ old → take (length now) new ≡ now →
    take (length old) new ≡ old
kept_past old now new h k =
    let parts : now ≡ old ++ drop (length old) now = sym (take-append-drop (length old) now) ∙
    ap (λ (t : List ℕ). t ++ drop (length old) now) h in
    let all : take (length (old ++ drop (length old) now)) new ≡ old ++ drop (length old) now =
    subst (λ (t : List ℕ). take (length t) new ≡ t) parts k in
    kept_before old (drop (length old) now) new all

pub kept_more : (old now more : List ℕ) → take (length old) now ≡ old →
    take (length old) (now ++ more) ≡ old
kept_more old now more h =
    let parts : now ≡ old ++ drop (length old) now = sym (take-append-drop (length old) now) ∙
    ap (λ (t : List ℕ). t ++ drop (length old) now) h in
    let whole : now ++ more ≡ old ++ (drop (length old) now ++ more) =
    ap (λ (t : List ℕ). t ++ more) parts ∙ append_assoc old (drop (length old) now) more in
    ap (take (length old)) whole ∙ take-append_seam old (drop (length old) now ++ more)

-- where nothing was written yet
pub kept_whole : (old : List ℕ) → take (length old) old ≡ old
kept_whole old = take-length old

-- where the last part was not written, and where one more was
pub kept_same : (start now new : List ℕ) → new ≡ now → take (length start) now ≡ start →
    take (length start) new ≡ start
kept_same start now new e h = ap (take (length start)) e ∙ h

pub kept_by : (start now new more : List ℕ) → new ≡ now ++ more → take (length start) now ≡ start →
    take (length start) new ≡ start
kept_by start now new more e h = ap (take (length start)) e ∙ kept_more start now more h
