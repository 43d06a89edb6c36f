-- The numbers that one tracker knows and another does not, gone through one by one.
use Rattle.std.proofs.Common.{◌≡◌, ℕ, suc, ◌<◌, List, [], ◌∷◌, ◌++◌, cond, true, false, not}
use Rattle.std.proofs.Common.{map as listed, length, get_or, refl, sym, ap, ◌∙◌, append_assoc, arith}
use Rattle.std.proofs.lemmas.Bool.Decides.{nat_tests}
use Rattle.std.specs.List.{filter, list_any}
use Rattle.std.specs.Ordering.{int_cmp, eq_by_cmp}
use Rattle.std.specs.Cmp.{int_cmp_total, tied_itself}
use Rattle.std.specs.FinMap as map
use Rattle.std.specs.FinMap.{entries-from_sorted}
use lib.IntN.{ℤ}
use Rattle.mc_view.specs.declared.tracker.Entry.{Entry}
use Rattle.mc_view.specs.KeptTold.{IsRising, numbers_of, pairs_of, told_of}
use Rattle.mc_view.specs.Told.{Told}
use Rattle.mc_view.proofs.EntryFacts.{Pair}

-- those of some numbers that are not known
abbrev pub unknown : Told → List ℤ → List ℤ
unknown m ks = filter (λ (k : ℤ). not (map.contains_key m k)) ks

pub told_numbers : (es : List Entry) → IsRising es → map.keys (told_of es) ≡ numbers_of es
told_numbers es r =
    ap (listed (λ (p : Pair). p.0)) (entries-from_sorted int_cmp (pairs_of es) r)

-- those up to the next, and those of what is left, are all
pub lost_next : (m looks : Told) (e : Entry) (left rest : List Entry)
    (before after total : List ℤ) → looks ≡ m →
    left ≡ e ∷ rest → after ≡ before ++ unknown looks (e.eid ∷ []) →
    before ++ unknown m (numbers_of left) ≡ total → after ++ unknown m (numbers_of rest) ≡ total
lost_next m looks e left rest before after total same is put all =
    ap (λ (ks : List ℤ). ks ++ unknown m (numbers_of rest)) put
    ∙ ap (λ (t : Told). (before ++ unknown t (e.eid ∷ [])) ++ unknown m (numbers_of rest)) same
    ∙ append_assoc before (unknown m (e.eid ∷ [])) (unknown m (numbers_of rest))
    ∙ ap (λ (ks : List ℤ). before ++ ks)
    (sym one ∙ ap (λ (es : List Entry). unknown m (numbers_of es)) (sym is))
    ∙ all
  where
    one : unknown m (numbers_of (e ∷ rest)) ≡ unknown m (e.eid ∷ []) ++ unknown m (numbers_of rest)
    one = elim (not (map.contains_key m e.eid)) as (λ b.
        cond b (e.eid ∷ unknown m (numbers_of rest)) (unknown m (numbers_of rest))
        ≡ cond b (e.eid ∷ []) [] ++ unknown m (numbers_of rest)) [ true ↦ refl | false ↦ refl ]

-- ---- where nobody is lost

-- numbers that are the same place by place
pub numbers_alike : (es fs : List Entry) → length es ≡ length fs → ((j : ℕ) (d : Entry) →
    j < length es → (get_or es j d).eid ≡ (get_or fs j d).eid) → numbers_of es ≡ numbers_of fs
numbers_alike [] [] same at = refl
numbers_alike [] (f ∷ fs) same at = absurd (omega (arith, same))
numbers_alike (e ∷ es) [] same at = absurd (omega (arith, same))
numbers_alike (e ∷ es) (f ∷ fs) same at =
    let rest = numbers_alike es fs (omega (arith, same))
    (λ j d lt. at (suc j) d (omega (arith, lt))) in
    λ i. at 0 e (omega arith) i ∷ rest i

-- none of a map's own keys is unknown to it
all_listed : (all ks : List ℤ) → ((k : ℤ) → list_any (eq_by_cmp int_cmp k) ks ≡ true →
    list_any (eq_by_cmp int_cmp k) all ≡ true) →
    filter (λ (k : ℤ). not (list_any (eq_by_cmp int_cmp k) all)) ks ≡ []
all_listed all [] within = refl
all_listed all (k ∷ ks) within =
    rw (within k (grind (arith, nat_tests, tied_itself int_cmp_total k)))
    (all_listed all ks (λ q there. within q (grind (arith, nat_tests))))

pub own_known : (m : Told) → unknown m (map.keys m) ≡ []
own_known m =
    (λ i. filter (λ (k : ℤ). not (map.contains_key-keys m k i)) (map.keys m))
    ∙ all_listed (map.keys m) (map.keys m) (λ k there. there)

-- nobody is lost where the same numbers are known
pub none_lost : (es fs : List Entry) → IsRising es → IsRising fs → numbers_of es ≡ numbers_of fs →
    unknown (told_of fs) (map.keys (told_of es)) ≡ []
none_lost es fs r s same =
    ap (unknown (told_of fs)) (told_numbers es r ∙ same ∙ sym (told_numbers fs s))
    ∙ own_known (told_of fs)
