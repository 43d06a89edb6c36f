-- How lines go to a sink in pieces, one call after another.
use Rattle.std.proofs.Common.{ℕ, ◌+◌, List, [], ◌++◌, length, take, Option, sym, subst, ap, ◌∙◌}
use Rattle.std.proofs.Common.{append_assoc, refl, arith}
use Rattle.std.proofs.lemmas.List.{append-nil}
use Rattle.std.proofs.Math.Seq.{take-append-add, take-append_seam}
use Rattle.std.proofs.lemmas.Bool.Decides.{nat_tests}
use Rattle.mc_wire.specs.Stream.{Grows}
use Rattle.mc_text.specs.Passes.{Passes, Breaks}
use Rattle.mc_text.proofs.Growing.{grows_two}
use Rattle.mc_text.proofs.Growing.{grows_none, part_of}

-- nothing was written yet
pub passes_none : (held : Option (List ℕ)) (old all : List ℕ) → Passes held held old all old all
passes_none held old all = record { out = []; wrote = grows_none held; rest = refl }

-- one text and then another
pub passes_next : (held middle held' : Option (List ℕ)) (old all half text new left : List ℕ) →
    Passes held middle old all half (text ++ left) → Passes middle held' half text new [] →
    Passes held held' old all new left
passes_next held middle held' old all half text new left a b =
    grind (arith, nat_tests, grows_two, append_assoc, append-nil)

-- all was passed on, and nothing waits
pub passes_all : (held held' : Option (List ℕ)) (text : List ℕ) → Passes held held' [] text [] [] →
    Grows held held' text
passes_all held held' text p = grind (arith, nat_tests, append-nil)

-- it broke in the next text
pub breaks_next : (held middle held' : Option (List ℕ)) (old all half text left : List ℕ) →
    Passes held middle old all half (text ++ left) → Breaks middle held' half text →
    Breaks held held' old all
breaks_next held middle held' old all half text left a b =
    let part = part_of b.len (half ++ text) left in
    let P : List ℕ → Type 0 = λ t. Grows held held' t in
    record {
      len = length a.out + part.0;
      wrote = subst P (sym (
          ap (take (length a.out + part.0)) (a.rest
          ∙ ap (λ (t : List ℕ). a.out ++ t) (sym (append_assoc half text left)))
          ∙ take-append-add a.out ((half ++ text) ++ left) part.0
          ∙ ap (λ (t : List ℕ). a.out ++ t) part.1
          )) (grows_two held middle held' a.out (take b.len (half ++ text)) a.wrote b.wrote);
    }

-- what waits is not written
pub breaks_here : (held held' : Option (List ℕ)) (old all half left : List ℕ) →
    Passes held held' old all half left → Breaks held held' old all
breaks_here held held' old all half left a =
    let P : List ℕ → Type 0 = λ t. Grows held held' t in
    record {
      len = length a.out;
      wrote = subst P
          (sym (ap (take (length a.out)) a.rest ∙ take-append_seam a.out (half ++ left))) a.wrote;
    }

-- it broke in a first part of a text
pub breaks_early : (held held' : Option (List ℕ)) (old text more : List ℕ) →
    Breaks held held' old text → Breaks held held' old (text ++ more)
breaks_early held held' old text more b =
    let part = part_of b.len (old ++ text) more in
    let P : List ℕ → Type 0 = λ t. Grows held held' t in
    record {
      len = part.0;
      wrote = subst P (sym (ap (take part.0) (sym (append_assoc old text more)) ∙ part.1)) b.wrote;
    }

-- what is to come behind a text that was passed on
pub passes_left : (held held' : Option (List ℕ)) (old text new left : List ℕ) →
    Passes held held' old text new [] → Passes held held' old (text ++ left) new left
passes_left held held' old text new left p = grind (arith, nat_tests, append_assoc, append-nil)

pub passes_two : (held middle held' : Option (List ℕ)) (old first half second new : List ℕ) →
    Passes held middle old first half [] → Passes middle held' half second new [] →
    Passes held held' old (first ++ second) new []
passes_two held middle held' old first half second new a b =
    let P : List ℕ → Type 0 = λ t. Passes held middle old (first ++ second) half t in
    passes_next held middle held' old (first ++ second) half second new []
    (subst P (sym (append-nil second)) (passes_left held middle old first half second a)) b

pub breaks_two : (held middle held' : Option (List ℕ)) (old first half second more : List ℕ) →
    Passes held middle old first half [] → Breaks middle held' half second →
    Breaks held held' old (first ++ (second ++ more))
breaks_two held middle held' old first half second more a b =
    breaks_next held middle held' old (first ++ (second ++ more)) half second more
    (passes_left held middle old first half (second ++ more) a) b

-- there was room made for a text, and it does not wait
pub breaks_room : (held held' : Option (List ℕ)) (old half text : List ℕ) →
    Passes held held' old [] half [] → Breaks held held' old text
breaks_room held held' old half text p =
    breaks_here held held' old text half text (passes_left held held' old [] half text p)
