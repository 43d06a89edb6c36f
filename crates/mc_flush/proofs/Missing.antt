-- The players of a list that another has not are found, whatever the order in which they are looked
-- at.
use Rattle.std.proofs.Common.{◌≡◌, ℕ, Bool, not, List, [], ◌∷◌, Option, Some}
use Rattle.std.proofs.Common.{None, refl, sym, ap, ◌∙◌, arith}
use Rattle.std.proofs.lemmas.Bool.Decides.{nat_tests}
use Rattle.std.specs.Prelude.{nat_eq}
use Rattle.std.specs.List.{IsDistinct}
use Rattle.std.specs.Map.{keys_of}
use Rattle.std.specs.List.Sorted.{IsStrictlySortedBy}
use Rattle.std.specs.Ordering.{nat_cmp}
use Rattle.std.specs.Cmp.{nat_cmp_total}
use Rattle.std.specs.FinMap.{find, get, entries, entries_sorted, from_entries, get-entries}
use Rattle.std.specs.FinMap.{get-from_entries, nat_cmp-IsAntisymmetric}
use Rattle.std.specs.FinMap.Entries.{same_entries}
use Rattle.std.proofs.lemmas.Map.Entries.{option_filter}
use Rattle.mc_model.specs.Delta.{is_named, missing}
use Rattle.mc_flush.specs.Players.{is_other, with_other}
use Rattle.mc_flush.proofs.Lookups.{same_key, not_again}
use Rattle.mc_told.proofs.Ordered.{sorted_from, sorted_filter, find_filter}

abbrev pub Players : Type 0
Players = List (ℕ × List ℕ)

-- of what is found, left and there under an identifier: where something is left, that is there and
-- nothing is found; else what is there is found, if it passes a test
abbrev pub IsFoundOf : (List ℕ → Bool) → Option (List ℕ) → Option (List ℕ) → Option (List ℕ) →
    Type 0
IsFoundOf passes found (Some name) there = (found ≡ None) × (there ≡ Some name)
IsFoundOf passes found None there = found ≡ option_filter passes there

-- what was found so far of the players that others have not
abbrev pub IsFinding : Players → Players → Players → Players → Type 0
IsFinding others found left all = (q : ℕ) → IsFoundOf (is_other others q) (find nat_cmp q found)
    (find nat_cmp q left) (find nat_cmp q all)

begun_at : (passes : List ℕ → Bool) (there : Option (List ℕ)) → IsFoundOf passes None there there
begun_at passes None = refl
begun_at passes (Some name) = (refl, refl)

pub finding_begins : (others all : Players) → IsFinding others [] all all
finding_begins others all q = begun_at (is_other others q) (find nat_cmp q all)

pub finding_goes_on : (others found new left rest all : Players) (k : ℕ) (v : List ℕ) →
    left ≡ (k, v) ∷ rest → IsDistinct nat_eq (keys_of left) →
    ((q : ℕ) → find nat_cmp q new ≡ with_other others k v (find nat_cmp q found) q) →
    IsFinding others found left all → IsFinding others new rest all
finding_goes_on others found new left rest all k v next apart put so_far q =
    grind (arith, nat_tests, same_key q k, not_again k v rest, option_filter (is_other others q))

pub finding_ends : (others found all : Players) → IsStrictlySortedBy nat_cmp (keys_of found) →
    IsFinding others found [] all → found ≡ missing (from_entries all) (from_entries others)
finding_ends others found all sorted done =
    same_entries nat_cmp nat_cmp_total nat_cmp-IsAntisymmetric found (missing (from_entries all)
    (from_entries others))
    (sorted_from nat_cmp found sorted) (sorted_filter nat_cmp (λ (e : ℕ × List ℕ). not (is_named
    (get (from_entries {R = nat_cmp} others) e.0) e.1)) (entries (from_entries all))
    (entries_sorted (from_entries all)))
    (λ q. done q
    ∙ ap (λ (o : Option (List ℕ)). option_filter (λ name. not (is_named o name)) (find nat_cmp q
    all)) (sym (get-from_entries nat_cmp_total others q))
    ∙ ap (option_filter (λ name. not (is_named (get (from_entries {R = nat_cmp} others) q) name)))
    (sym (get-from_entries nat_cmp_total all q) ∙ get-entries (from_entries all) q)
    ∙ sym (find_filter nat_cmp nat_cmp_total nat_cmp-IsAntisymmetric (λ (e : ℕ × List ℕ). not
    (is_named (get (from_entries {R = nat_cmp} others) e.0) e.1)) q (entries (from_entries all))
    (entries_sorted (from_entries all))))
