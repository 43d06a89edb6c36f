-- The connections that are pending: their numbers rise, and who is not one of them is open and owed
-- nothing.
use Rattle.std.proofs.Common.{◌≡◌, inl, inr, ◌+◌, ◌≤◌, ℕ, List, [], ◌∷◌, T, map, Option, Some, None}
use Rattle.std.proofs.Common.{Bool, true, false, cond, length, refl, sym, subst, ap, ◌∙◌, arith}
use Rattle.std.proofs.lemmas.Bool.{cases_Bool}
use Rattle.std.proofs.lemmas.List.{nil_from_length}
use Rattle.std.proofs.lemmas.Bool.Decides.{nat_tests}
use Rattle.std.specs.List.{AllByRecursion, filter}
use Rattle.std.specs.Ordering.{eq_by_cmp, nat_cmp}
use Rattle.std.specs.Cmp.{nat_cmp_total}
use Rattle.std.specs.FinMap.{FinMap, entries, entries_sorted, find, get, get-entries, is_sorted}
use Rattle.std.specs.FinMap.{keys}
use Rattle.std.specs.FinMap.Entries.{below_all}
use Rattle.mc_model.specs.Link.{Link}
use Rattle.mc_model.specs.World.{World}
use Rattle.mc_model.specs.Run.{owed_in, owed_of}
use Rattle.mc_model.proofs.Maps.Lookups.{tied_number}
use Rattle.mc_model.proofs.Maps.Options.{none_some}
use Rattle.mc_model.proofs.Maps.Sorted.{find_again}
use Rattle.mc_told.proofs.Ordered.{first as left_holds, second as right_holds}
use Rattle.mc_told.proofs.Rising.{below_keys, rising, sorted_is}
use Rattle.mc_links.specs.Kept.{is_pending}
use Rattle.mc_events.specs.Asking.{pending_in}
use Rattle.mc_events.proofs.Loops.{is_of}
use Rattle.mc_server.specs.TurnParts.{RiseFrom}

pub true_false : ◌≡◌ {A = Bool} true false → ⊥
true_false e = absurd cc

-- ---- their numbers rise

-- numbers that rise from one on rise from a lower one on
rise_lower : (n m : ℕ) (ks : List ℕ) → n ≤ m → RiseFrom m ks → RiseFrom n ks
rise_lower n m [] le rise = tt
rise_lower n m (k ∷ ks) le rise = (omega (arith, le, rise.0), rise.1)

-- keys that rise above one
rise_above : (k : ℕ) (ks : List ℕ) → T (below_keys nat_cmp k ks) → T (rising nat_cmp ks) →
    RiseFrom (k + 1) ks
rise_above k [] below rise = tt
rise_above k (j ∷ ks) below rise =
    (grind (arith, nat_tests), rise_above j ks (left_holds _ _ rise) (right_holds _ _ rise))

-- the keys of a map rise
keys_rise : {X : Type 0} (m : FinMap nat_cmp X) → RiseFrom 0 (keys m)
keys_rise {X} m = rise (keys m) (subst T (sorted_is nat_cmp (entries m)) (entries_sorted m))
  where
    rise : (ks : List ℕ) → T (rising nat_cmp ks) → RiseFrom 0 ks
    rise [] up = tt
    rise (k ∷ ks) up = (omega arith, rise_above k ks (left_holds _ _ up) (right_holds _ _ up))

-- those entries whose values pass a test
abbrev pub passing : {X : Type 0} → (X → Bool) → List (ℕ × X) → List (ℕ × X)
passing {X} test es = filter (λ (e : ℕ × X). test e.1) es

-- their numbers rise too
rise_some : {X : Type 0} (n : ℕ) (test : X → Bool) (es : List (ℕ × X)) →
    RiseFrom n (map (λ (e : ℕ × X). e.0) es) →
    RiseFrom n (map (λ (e : ℕ × X). e.0) (filter (λ (e : ℕ × X). test e.1) es))
rise_some n test [] rise = tt
rise_some {X} n test (e ∷ es) rise =
    if_kept (test e.1) (rise_some (e.0 + 1) test es rise.1)
  where
    if_kept : (b : Bool) → RiseFrom (e.0 + 1) (map (λ (f : ℕ × X). f.0) (passing test es)) →
        RiseFrom n (map (λ (f : ℕ × X). f.0) (cond b (e ∷ passing test es) (passing test es)))
    if_kept true rest = (rise.0, rest)
    if_kept false rest = rise_lower n (e.0 + 1) _ (omega (arith, rise.0)) rest

pub pending_rise : (w : World) → RiseFrom 0 (pending_in w)
pending_rise w = rise_some 0 is_pending (entries w.links) (keys_rise w.links)

-- ---- who they are

-- a connection is there, and owed bytes or closed
abbrev pub pends : Option Link → Bool
pends None = false
pends (Some l) = is_pending l

-- of entries in order, one that is found behind the first is found among all
pub found_behind : (e : ℕ × Link) (es : List (ℕ × Link)) → T (is_sorted nat_cmp (e ∷ es)) →
    (k : ℕ) (l : Link) → find nat_cmp k es ≡ Some l → find nat_cmp k (e ∷ es) ≡ Some l
found_behind e es sorted k l found = at_test (eq_by_cmp nat_cmp k e.0) refl
  where
    at_test : (b : Bool) → eq_by_cmp nat_cmp k e.0 ≡ b →
        cond b (Some e.1) (find nat_cmp k es) ≡ Some l
    at_test true t =
        absurd (none_some (find nat_cmp k es) l (find_again nat_cmp_total k e es sorted t) found)
    at_test false t = found

-- the numbers that are pending are of those that pend
pub all_pend : (w : World) (es : List (ℕ × Link)) → T (is_sorted nat_cmp es) →
    ((k : ℕ) (l : Link) → find nat_cmp k es ≡ Some l → get w.links k ≡ Some l) →
    AllByRecursion (λ (k : ℕ). pends (get w.links k) ≡ true)
    (map (λ (e : ℕ × Link). e.0) (filter (λ (e : ℕ × Link). is_pending e.1) es))
all_pend w [] sorted there = tt
all_pend w (e ∷ es) sorted there =
    if_kept (is_pending e.1) refl
    (all_pend w es (right_holds (below_all nat_cmp e.0 es) (is_sorted nat_cmp es) sorted)
    (λ k l found. there k l (found_behind e es sorted k l found)))
  where
    here : get w.links e.0 ≡ Some e.1
    here = there e.0 e.1 (rw (tied_number e.0) refl)

    if_kept : (b : Bool) → is_pending e.1 ≡ b →
        AllByRecursion (λ (k : ℕ). pends (get w.links k) ≡ true)
        (map (λ (f : ℕ × Link). f.0) (passing is_pending es)) →
        AllByRecursion (λ (k : ℕ). pends (get w.links k) ≡ true) (map (λ (f : ℕ × Link). f.0)
        (cond b (e ∷ passing is_pending es) (passing is_pending es)))
    if_kept true is rest = (ap pends here ∙ is, rest)
    if_kept false is rest = rest

-- who pends has one of these numbers
pending_found : (k : ℕ) (l : Link) (es : List (ℕ × Link)) → find nat_cmp k es ≡ Some l →
    is_pending l ≡ true →
    is_of k (map (λ (e : ℕ × Link). e.0) (filter (λ (e : ℕ × Link). is_pending e.1) es)) ≡ true
pending_found k l [] found pending = absurd cc
pending_found k l (e ∷ es) found pending =
    grind (arith, nat_tests, pending_found k l es)

owed_none : (l : Link) → is_pending l ≡ false → l.owed ≡ []
owed_none l is =
    let none : length l.owed ≡ 0 = grind (arith, nat_tests) in
    nil_from_length l.owed none

-- so who has none is owed nothing
pub owed_there : (k : ℕ) (w : World) → is_of k (pending_in w) ≡ false → owed_in k w ≡ []
owed_there k w away = nobody (get w.links k) refl
  where
    nobody : (o : Option Link) → get w.links k ≡ o → owed_of o ≡ []
    nobody None is = refl
    nobody (Some l) is = elim (cases_Bool (is_pending l)) [
      | inl pending ↦ absurd (true_false (sym (pending_found k l (entries w.links)
          (sym (get-entries w.links k) ∙ is) pending) ∙ away))
      | inr open_ ↦ owed_none l open_
    ]
