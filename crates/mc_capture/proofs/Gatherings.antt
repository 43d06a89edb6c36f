-- How lines go to a sink in pieces, one call after another.
use Rattle.std.proofs.Common.{◌≡◌, ℕ, ◌+◌, List, [], ◌++◌, length}
use Rattle.std.proofs.Common.{take, Option, sym, subst, ap, ◌∙◌}
use Rattle.std.proofs.Common.{append_assoc}
use Rattle.std.proofs.lemmas.List.{append-nil}
use Rattle.std.proofs.Math.Seq.{take-append-add, take-append_seam}
use Rattle.mc_wire.specs.Stream.{Grows}
use Rattle.mc_wire.proofs.Streams.{Grows-refl, Grows-trans}
use Rattle.mc_capture.specs.Gathering.{Gathers, WritesPart}
use Rattle.mc_capture.proofs.Lists.{part_of_first}

-- nothing was written
pub gathers_same : (held : Option (List ℕ)) (text : List ℕ) → Gathers held held text text
gathers_same held text = record { out = []; wrote = Grows-refl held; parts = λ i. text }

-- all was written
pub gathers_all : (held held' : Option (List ℕ)) (text waits : List ℕ)
    → Grows held held' text
    → waits ≡ []
    → Gathers held held' text waits
gathers_all held held' text waits grown none = record {
  out = text;
  wrote = grown;
  parts = sym (ap (λ (t : List ℕ). text ++ t) none ∙ append-nil text);
}

-- more waits behind
pub gathers_into : (held held' : Option (List ℕ)) (old half text waits : List ℕ)
    → Gathers held held' old half
    → waits ≡ half ++ text
    → Gathers held held' (old ++ text) waits
gathers_into held held' old half text waits a is = record {
  out = a.out;
  wrote = a.wrote;
  parts = ap (λ (t : List ℕ). t ++ text) a.parts
      ∙ append_assoc a.out half text
      ∙ ap (λ (t : List ℕ). a.out ++ t) (sym is);
}

-- two texts, one after the other
joined : (a b : List ℕ) (old first second half waits : List ℕ)
    → old ++ first ≡ a ++ half
    → half ++ second ≡ b ++ waits
    → old ++ (first ++ second) ≡ (a ++ b) ++ waits
joined a b old first second half waits one two =
    sym (append_assoc old first second)
    ∙ ap (λ (t : List ℕ). t ++ second) one
    ∙ append_assoc a half second
    ∙ ap (λ (t : List ℕ). a ++ t) two
    ∙ sym (append_assoc a b waits)

pub gathers_two : (held middle held' : Option (List ℕ)) (old first half second waits : List ℕ)
    → Gathers held middle (old ++ first) half
    → Gathers middle held' (half ++ second) waits
    → Gathers held held' (old ++ (first ++ second)) waits
gathers_two held middle held' old first half second waits a b = record {
  out = a.out ++ b.out;
  wrote = Grows-trans held middle held' a.out b.out a.wrote b.wrote;
  parts = joined a.out b.out old first second half waits a.parts b.parts;
}

-- a text, and then a part of the next
pub part_two : (held middle held' : Option (List ℕ)) (old first half second : List ℕ)
    → Gathers held middle (old ++ first) half
    → WritesPart middle held' (half ++ second)
    → WritesPart held held' (old ++ (first ++ second))
part_two held middle held' old first half second a b =
    let P : List ℕ → Type 0 = λ t. Grows held held' t in (
      length a.out + b.0,
      subst P (sym (
          ap (take (length a.out + b.0)) (sym (append_assoc old first second)
          ∙ ap (λ (t : List ℕ). t ++ second) a.parts
          ∙ append_assoc a.out half second)
          ∙ take-append-add a.out (half ++ second) b.0))
          (Grows-trans held middle held' a.out (take b.0 (half ++ second)) a.wrote b.1),
    )

-- a part of a first text is one of both
pub part_early : (held held' : Option (List ℕ)) (old first second : List ℕ)
    → WritesPart held held' (old ++ first)
    → WritesPart held held' (old ++ (first ++ second))
part_early held held' old first second a =
    let p = part_of_first a.0 (old ++ first) second held held' a.1 in
    let P : List ℕ → Type 0 = λ t. Grows held held' (take p.0 t) in
    (p.0, subst P (append_assoc old first second) p.1)

-- what was gathered is a part of what was to follow, too
pub part_here : (held held' : Option (List ℕ)) (old half text : List ℕ)
    → Gathers held held' old half
    → WritesPart held held' (old ++ text)
part_here held held' old half text a =
    let P : List ℕ → Type 0 = λ t. Grows held held' t in (
      length a.out,
      subst P (sym (
          ap (take (length a.out)) (ap (λ (t : List ℕ). t ++ text) a.parts
          ∙ append_assoc a.out half text)
          ∙ take-append_seam a.out (half ++ text))) a.wrote,
    )

-- a part of what waited already
pub part_old : (held held' : Option (List ℕ)) (old text : List ℕ)
    → WritesPart held held' old
    → WritesPart held held' (old ++ text)
part_old held held' old text a = part_of_first a.0 old text held held' a.1

-- ---- three texts

pub gathers_three : (held middle later held' : Option (List ℕ))
    (old first second third half more waits : List ℕ)
    → Gathers held middle (old ++ first) half
    → Gathers middle later (half ++ second) more
    → Gathers later held' (more ++ third) waits
    → Gathers held held' (old ++ (first ++ (second ++ third))) waits
gathers_three held middle later held' old first second third half more waits a b c =
    let P : List ℕ → Type 0 = λ t. Gathers held held' (old ++ t) waits in
    subst P (append_assoc first second third)
    (gathers_two held later held' old (first ++ second) more third waits
    (gathers_two held middle later old first half second more a b) c)

pub part_second : (held middle held' : Option (List ℕ)) (old first second third half : List ℕ)
    → Gathers held middle (old ++ first) half
    → WritesPart middle held' (half ++ second)
    → WritesPart held held' (old ++ (first ++ (second ++ third)))
part_second held middle held' old first second third half a b =
    let P : List ℕ → Type 0 = λ t. WritesPart held held' (old ++ t) in
    subst P (append_assoc first second third)
    (part_early held held' old (first ++ second) third
    (part_two held middle held' old first half second a b))

pub part_third : (held middle later held' : Option (List ℕ))
    (old first second third half more : List ℕ)
    → Gathers held middle (old ++ first) half
    → Gathers middle later (half ++ second) more
    → WritesPart later held' (more ++ third)
    → WritesPart held held' (old ++ (first ++ (second ++ third)))
part_third held middle later held' old first second third half more a b c =
    let P : List ℕ → Type 0 = λ t. WritesPart held held' (old ++ t) in
    subst P (append_assoc first second third)
    (part_two held later held' old (first ++ second) more third
    (gathers_two held middle later old first half second more a b) c)

-- nothing more waits
pub gathers_empty : (held : Option (List ℕ)) (waits text : List ℕ) → text ≡ []
    → Gathers held held (waits ++ text) waits
gathers_empty held waits text none =
    let P : List ℕ → Type 0 = λ t. Gathers held held t waits in
    subst P (sym (ap (λ (t : List ℕ). waits ++ t) none ∙ append-nil waits))
    (gathers_same held waits)

-- what was gathered is a part of itself
pub part_all : (held held' : Option (List ℕ)) (text waits : List ℕ)
    → Gathers held held' text waits
    → WritesPart held held' text
part_all held held' text waits a =
    let P : List ℕ → Type 0 = λ t. WritesPart held held' t in
    subst P (append-nil text) (part_here held held' text waits [] a)
