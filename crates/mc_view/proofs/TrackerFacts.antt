-- What edits of the entries make of what was told.
use Rattle.std.proofs.Common.{Result, Ok, Err, IfOk, IfErr, IfSome, is_ok, slice_get, ◌≡◌, ℕ, zero}
use Rattle.std.proofs.Common.{suc, ◌<◌, ◌≤◌, Bool, true, false, cond, not, T, List, [], ◌∷◌, ◌++◌}
use Rattle.std.proofs.Common.{map as listed, length, get_or, set, Option, Some, None, is_some, refl}
use Rattle.std.proofs.Common.{sym, subst, ap, ◌∙◌, arith}
use Rattle.std.proofs.lemmas.Bool.Decides.{nat_tests}
use Rattle.std.specs.List.{insert, remove}
use Rattle.std.specs.declared.cmp.Ordering.{Ordering}
use Rattle.std.specs.declared.cmp.Ordering.TheVariants.{Less, Equal, Greater}
use Rattle.std.specs.Ordering.{int_cmp, is_eq, eq_by_cmp}
use Rattle.std.specs.Cmp.{int_cmp_total}
use Rattle.std.specs.FinMap as map
use Rattle.std.specs.FinMap.{find, put, is_sorted, get, contains_key, entries-from_sorted}
use Rattle.std.specs.FinMap.{get-from_sorted, entries-insert, same_entries_map, same_map, get-empty}
use Rattle.std.specs.FinMap.{get-remove, int_cmp-IsAntisymmetric}
use Rattle.std.specs.FinMap.Entries.{below_all, by_order, where_key, is_sorted-put}
use Rattle.std.specs.FinMap.Entries.{is_sorted-where_key, find-where_key}
use lib.IntN.{ℤ}
use Rattle.mc_fields.specs.declared.position.Spot.{Spot}
use Rattle.mc_slots.specs.declared.pile.Pile.{Pile}
use Rattle.mc_view.specs.declared.tracker.Entry.{Entry}
use Rattle.mc_view.specs.KeptTold.{IsAbove, IsAt, IsGap, IsRising, pair_of, pairs_of, told_of}
use Rattle.std.proofs.lemmas.List.Edits.{insert_end}
use Rattle.mc_view.proofs.EntryFacts.{Pair, first, second, above, below, same, rising_at}
use Rattle.mc_view.proofs.EntryFacts.{gap_between}

at_tail : (e : Entry) (es : List Entry) (eid : ℤ) (i : ℕ) →
    IsAt (e ∷ es) eid (suc i) → IsAt es eid i
at_tail e es eid i is = record { within = omega (arith, is.within); named = is.named }

gap_tail : (e : Entry) (es : List Entry) (eid : ℤ) (i : ℕ) →
    IsGap (e ∷ es) eid (suc i) → IsGap es eid i
gap_tail e es eid i gap = record {
  within = omega (arith, gap.within);
  lower = λ j d lt. gap.lower (suc j) d (omega (arith, lt));
  higher = λ j d le lt. gap.higher (suc j) d (omega (arith, le)) (omega (arith, lt));
}

-- one that stands later has a higher number than the first
later : (e : Entry) (es : List Entry) (eid : ℤ) (i : ℕ) →
    IsRising (e ∷ es) → IsAt (e ∷ es) eid (suc i) → int_cmp eid e.eid ≡ Greater
later e es eid i r is = grind (arith, nat_tests, above e.eid eid, rising_at (e ∷ es) r 0 (suc i) e)

-- ---- an entry put

pub put_gap : (es : List Entry) (i : ℕ) (new : Entry) → IsGap es new.eid i →
    put int_cmp new.eid (new.spot, new.pile) (pairs_of es) ≡ pairs_of (insert es i new)
put_gap [] zero new gap = refl
put_gap [] (suc i) new gap = absurd (omega (arith, gap.within))
put_gap (e ∷ es) zero new gap =
    ap (λ (r : Ordering). by_order r (pair_of new ∷ pair_of e ∷ pairs_of es)
    ((e.eid, (new.spot, new.pile)) ∷ pairs_of es)
    (pair_of e ∷ put int_cmp new.eid (new.spot, new.pile) (pairs_of es)))
    (below e.eid new.eid (gap.higher 0 e (omega arith) (omega arith)))
put_gap (e ∷ es) (suc i) new gap =
    ap (λ (r : Ordering). by_order r (pair_of new ∷ pair_of e ∷ pairs_of es)
    ((e.eid, (new.spot, new.pile)) ∷ pairs_of es)
    (pair_of e ∷ put int_cmp new.eid (new.spot, new.pile) (pairs_of es)))
    (above e.eid new.eid (gap.lower 0 e (omega arith)))
    ∙ ap (λ (ps : List Pair). pair_of e ∷ ps) (put_gap es i new (gap_tail e es new.eid i gap))

pub put_at : (es : List Entry) (i : ℕ) (new : Entry) → IsRising es → IsAt es new.eid i →
    put int_cmp new.eid (new.spot, new.pile) (pairs_of es) ≡ pairs_of (set es i new)
put_at [] i new r is = absurd (omega (arith, is.within))
put_at (e ∷ es) zero new r is =
    ap (λ (r : Ordering). by_order r (pair_of new ∷ pair_of e ∷ pairs_of es)
    ((e.eid, (new.spot, new.pile)) ∷ pairs_of es)
    (pair_of e ∷ put int_cmp new.eid (new.spot, new.pile) (pairs_of es)))
    (same e.eid new.eid (is.named e))
    ∙ ap (λ (k : ℤ). (k, (new.spot, new.pile)) ∷ pairs_of es) (is.named e)
put_at (e ∷ es) (suc i) new r is =
    ap (λ (r : Ordering). by_order r (pair_of new ∷ pair_of e ∷ pairs_of es)
    ((e.eid, (new.spot, new.pile)) ∷ pairs_of es)
    (pair_of e ∷ put int_cmp new.eid (new.spot, new.pile) (pairs_of es)))
    (later e es new.eid i r is)
    ∙ ap (λ (ps : List Pair). pair_of e ∷ ps)
    (put_at es i new (second _ _ r) (at_tail e es new.eid i is))

-- ---- an entry found

pub find_at : (es : List Entry) (eid : ℤ) (i : ℕ) (d : Entry) → IsRising es → IsAt es eid i →
    find int_cmp eid (pairs_of es) ≡ Some ((get_or es i d).spot, (get_or es i d).pile)
find_at [] eid i d r is = absurd (omega (arith, is.within))
find_at (e ∷ es) eid zero d r is = grind (arith, nat_tests, same e.eid eid (is.named e))
find_at (e ∷ es) eid (suc i) d r is =
    ap (λ (r : Ordering). cond (is_eq r) (Some (e.spot, e.pile)) (find int_cmp eid (pairs_of es)))
    (later e es eid i r is)
    ∙ find_at es eid i d (second _ _ r) (at_tail e es eid i is)

pub find_gap : (es : List Entry) (eid : ℤ) (i : ℕ) →
    IsGap es eid i → find int_cmp eid (pairs_of es) ≡ None
find_gap [] eid i gap = refl
find_gap (e ∷ es) eid zero gap =
    ap (λ (r : Ordering). cond (is_eq r) (Some (e.spot, e.pile)) (find int_cmp eid (pairs_of es)))
    (below e.eid eid (gap.higher 0 e (omega arith) (omega arith)))
    ∙ find_gap es eid 0 (record {
      within = omega arith;
      lower = λ j d lt. absurd (omega (arith, lt));
      higher = λ j d le lt. gap.higher (suc j) d (omega arith) (omega (arith, lt));
    })
find_gap (e ∷ es) eid (suc i) gap =
    ap (λ (r : Ordering). cond (is_eq r) (Some (e.spot, e.pile)) (find int_cmp eid (pairs_of es)))
    (above e.eid eid (gap.lower 0 e (omega arith)))
    ∙ find_gap es eid i (gap_tail e es eid i gap)

-- ---- an entry taken out

abbrev other : ℤ → ℤ → Bool
other eid k = not (eq_by_cmp int_cmp eid k)

all_other : (eid : ℤ) (es : List Entry) → T (below_all int_cmp eid (pairs_of es)) →
    where_key int_cmp (other eid) (pairs_of es) ≡ pairs_of es
all_other eid [] h = refl
all_other eid (e ∷ es) h = grind (arith, nat_tests, all_other eid es)

pub where_at : (es : List Entry) (eid : ℤ) (i : ℕ) → IsRising es →
    IsAt es eid i → where_key int_cmp (other eid) (pairs_of es) ≡ pairs_of (remove es i)
where_at [] eid i r is = absurd (omega (arith, is.within))
where_at (e ∷ es) eid zero r is =
    ap (λ (r : Ordering). cond (not (is_eq r))
    (pair_of e ∷ where_key int_cmp (other eid) (pairs_of es))
    (where_key int_cmp (other eid) (pairs_of es))) (same e.eid eid (is.named e))
    ∙ all_other eid es
    (subst (λ (k : ℤ). T (below_all int_cmp k (pairs_of es))) (is.named e) (first _ _ r))
where_at (e ∷ es) eid (suc i) r is =
    ap (λ (r : Ordering). cond (not (is_eq r))
    (pair_of e ∷ where_key int_cmp (other eid) (pairs_of es))
    (where_key int_cmp (other eid) (pairs_of es))) (later e es eid i r is)
    ∙ ap (λ (ps : List Pair). pair_of e ∷ ps)
    (where_at es eid i (second _ _ r) (at_tail e es eid i is))

-- ---- what was told

pub got_at : (es : List Entry) (eid : ℤ) (i : ℕ) (d : Entry) → IsRising es →
    IsAt es eid i → get (told_of es) eid ≡ Some ((get_or es i d).spot, (get_or es i d).pile)
got_at es eid i d r is = get-from_sorted int_cmp (pairs_of es) eid r ∙ find_at es eid i d r is

pub got_gap : (es : List Entry) (eid : ℤ) (i : ℕ) →
    IsRising es → IsGap es eid i → get (told_of es) eid ≡ None
got_gap es eid i r gap = get-from_sorted int_cmp (pairs_of es) eid r ∙ find_gap es eid i gap

pub has_at : (es : List Entry) (eid : ℤ) (i : ℕ) →
    IsRising es → IsAt es eid i → contains_key (told_of es) eid ≡ true
has_at [] eid i r is = absurd (omega (arith, is.within))
has_at (e ∷ es) eid i r is = ap is_some (got_at (e ∷ es) eid i e r is)

pub has_gap : (es : List Entry) (eid : ℤ) (i : ℕ) →
    IsRising es → IsGap es eid i → contains_key (told_of es) eid ≡ false
has_gap es eid i r gap = ap is_some (got_gap es eid i r gap)

put_rises : (es fs : List Entry) (eid : ℤ) (v : Spot × Pile) →
    IsRising es → put int_cmp eid v (pairs_of es) ≡ pairs_of fs → IsRising fs
put_rises es fs eid v r is = grind (arith, nat_tests, is_sorted-put, int_cmp_total)

put_told : (es fs : List Entry) (eid : ℤ) (v : Spot × Pile) → IsRising es →
    put int_cmp eid v (pairs_of es) ≡ pairs_of fs → told_of fs ≡ map.insert (told_of es) eid v
put_told es fs eid v r is =
    same_entries_map (told_of fs) (map.insert (told_of es) eid v)
    (entries-from_sorted int_cmp (pairs_of fs) (put_rises es fs eid v r is) ∙ sym is
    ∙ sym (entries-insert int_cmp_total (told_of es) eid v
    ∙ ap (put int_cmp eid v) (entries-from_sorted int_cmp (pairs_of es) r)))

pub rises_insert : (es : List Entry) (i : ℕ) (new : Entry) →
    IsRising es → IsGap es new.eid i → IsRising (insert es i new)
rises_insert es i new r gap = grind (arith, nat_tests, put_rises, put_gap)

pub told_insert : (es : List Entry) (i : ℕ) (new : Entry) → IsRising es → IsGap es new.eid i →
    told_of (insert es i new) ≡ map.insert (told_of es) new.eid (new.spot, new.pile)
told_insert es i new r gap = grind (arith, nat_tests, put_told, put_gap)

pub rises_set : (es : List Entry) (i : ℕ) (new : Entry) →
    IsRising es → IsAt es new.eid i → IsRising (set es i new)
rises_set es i new r is = grind (arith, nat_tests, put_rises, put_at)

pub told_set : (es : List Entry) (i : ℕ) (new : Entry) → IsRising es → IsAt es new.eid i →
    told_of (set es i new) ≡ map.insert (told_of es) new.eid (new.spot, new.pile)
told_set es i new r is = grind (arith, nat_tests, put_told, put_at)

pub rises_remove : (es : List Entry) (eid : ℤ) (i : ℕ) →
    IsRising es → IsAt es eid i → IsRising (remove es i)
rises_remove es eid i r is =
    subst (λ (ps : List Pair). T (is_sorted int_cmp ps)) (where_at es eid i r is)
    (is_sorted-where_key int_cmp (other eid) (pairs_of es) r)

turned : {A : Type 0} (r : Ordering) (s : Ordering) (x y : A) →
    is_eq r ≡ is_eq s → cond (not (is_eq r)) x y ≡ cond (is_eq s) y x
turned r s x y e = grind (arith, nat_tests)

mirrored : (x y : ℤ) → is_eq (int_cmp x y) ≡ is_eq (int_cmp y x)
mirrored x y = grind (arith, nat_tests)

pub told_remove : (es : List Entry) (eid : ℤ) (i : ℕ) →
    IsRising es → IsAt es eid i → told_of (remove es i) ≡ map.remove (told_of es) eid
told_remove es eid i r is =
    same_map int_cmp_total int_cmp-IsAntisymmetric (told_of (remove es i))
    (map.remove (told_of es) eid)
    (λ (q : ℤ). get-from_sorted int_cmp (pairs_of (remove es i)) q (rises_remove es eid i r is)
    ∙ ap (find int_cmp q) (sym (where_at es eid i r is))
    ∙ find-where_key int_cmp (other eid) q
    (λ x t. ap (other eid) (sym (int_cmp-IsAntisymmetric q x t))) (pairs_of es)
    ∙ turned (int_cmp eid q) (int_cmp q eid) (find int_cmp q (pairs_of es)) None (mirrored eid q)
    ∙ ap (cond (eq_by_cmp int_cmp q eid) None) (sym (get-from_sorted int_cmp (pairs_of es) q r))
    ∙ sym (get-remove int_cmp_total (told_of es) eid q))

pub told_none : (es : List Entry) (eid : ℤ) (i : ℕ) →
    IsRising es → IsGap es eid i → told_of es ≡ map.remove (told_of es) eid
told_none es eid i r gap =
    same_map int_cmp_total int_cmp-IsAntisymmetric (told_of es) (map.remove (told_of es) eid)
    (λ (q : ℤ). step q (int_cmp q eid) refl ∙ sym (get-remove int_cmp_total (told_of es) eid q))
  where
    step : (q : ℤ) (o : Ordering) → int_cmp q eid ≡ o →
        get (told_of es) q ≡ cond (is_eq (int_cmp q eid)) None (get (told_of es) q)
    step q Less e = ap (λ (o : Ordering). cond (is_eq o) None (get (told_of es) q)) (sym e)
    step q Equal e =
        ap (get (told_of es)) (int_cmp-IsAntisymmetric q eid e) ∙ got_gap es eid i r gap
        ∙ ap (λ (o : Ordering). cond (is_eq o) None (get (told_of es) q)) (sym e)
    step q Greater e = ap (λ (o : Ordering). cond (is_eq o) None (get (told_of es) q)) (sym e)

pub told_nobody : told_of [] ≡ map.empty
told_nobody =
    same_map int_cmp_total int_cmp-IsAntisymmetric (told_of []) map.empty (λ (q : ℤ).
    get-from_sorted int_cmp [] q tt ∙ sym (get-empty int_cmp q))

-- what a search found
pub known_by : (es : List Entry) (eid : ℤ) (r : Result ℕ ℕ) → IsRising es →
    IfOk r (IsAt es eid) → IfErr r (IsGap es eid) → is_ok r ≡ contains_key (told_of es) eid
known_by es eid (Ok i) r is gap = sym (has_at es eid i r is)
known_by es eid (Err i) r is gap = sym (has_gap es eid i r gap)

-- a known number has no gap, and one that is not known no place
pub no_gap : (es : List Entry) (eid : ℤ) (i : ℕ) →
    IsRising es → contains_key (told_of es) eid ≡ true → ¬ IsGap es eid i
no_gap es eid i r known gap = grind (arith, nat_tests, has_gap es eid i r gap)

pub no_place : (es : List Entry) (eid : ℤ) (i : ℕ) →
    IsRising es → contains_key (told_of es) eid ≡ false → ¬ IsAt es eid i
no_place es eid i r new is = grind (arith, nat_tests, has_at es eid i r is)

-- ---- the i-th number

key_at : (es : List Entry) (i : ℕ) (d : Entry) → i < length es →
    slice_get (listed (λ (p : Pair). p.0) (pairs_of es)) i ≡ Some (get_or es i d).eid
key_at [] i d lt = absurd (omega (arith, lt))
key_at (e ∷ es) zero d lt = refl
key_at (e ∷ es) (suc i) d lt = key_at es i d (omega (arith, lt))

no_key : (es : List Entry) (i : ℕ) →
    length es ≤ i → slice_get (listed (λ (p : Pair). p.0) (pairs_of es)) i ≡ None
no_key [] i le = refl
no_key (e ∷ es) zero le = absurd (omega (arith, le))
no_key (e ∷ es) (suc i) le = no_key es i (omega (arith, le))

pub told_key : (es : List Entry) (i : ℕ) (d : Entry) →
    IsRising es → i < length es → slice_get (map.keys (told_of es)) i ≡ Some (get_or es i d).eid
told_key es i d r lt =
    ap (λ (ps : List Pair). slice_get (listed (λ (p : Pair). p.0) ps) i)
    (entries-from_sorted int_cmp (pairs_of es) r) ∙ key_at es i d lt

pub told_no_key : (es : List Entry) (i : ℕ) →
    IsRising es → length es ≤ i → slice_get (map.keys (told_of es)) i ≡ None
told_no_key es i r le =
    ap (λ (ps : List Pair). slice_get (listed (λ (p : Pair). p.0) ps) i)
    (entries-from_sorted int_cmp (pairs_of es) r) ∙ no_key es i le

-- ---- an entry put behind all others

end_gap : (es : List Entry) (eid : ℤ) → IsRising es → IsAbove es eid (length es) →
    IsGap es eid (length es)
end_gap es eid r high =
    gap_between es eid (length es) r (omega arith) high (λ d lt. absurd (omega (arith, lt)))

pub rises_push : (es : List Entry) (new : Entry) → IsRising es →
    IsAbove es new.eid (length es) → IsRising (es ++ new ∷ [])
rises_push es new r high =
    subst IsRising (insert_end es new)
    (rises_insert es (length es) new r (end_gap es new.eid r high))

pub told_push : (es : List Entry) (new : Entry) → IsRising es → IsAbove es new.eid (length es) →
    told_of (es ++ new ∷ []) ≡ map.insert (told_of es) new.eid (new.spot, new.pile)
told_push es new r high = ap told_of (sym (insert_end es new))
    ∙ told_insert es (length es) new r (end_gap es new.eid r high)

-- ---- one entry written over at its place

module _ (es : List Entry) (eid : ℤ) (i : ℕ) (was : Entry) (r : IsRising es) (is : IsAt es eid i)
    (read : was ≡ get_or es i was) where
  named_was : was.eid ≡ eid
  named_was = ap (λ (e : Entry). e.eid) read ∙ is.named was

  got_was : get (told_of es) eid ≡ Some (was.spot, was.pile)
  got_was = got_at es eid i was r is ∙ ap (λ (e : Entry). Some (e.spot, e.pile)) (sym read)

  pub of_told : (P : Spot × Pile → Type 0) →
      P (was.spot, was.pile) → IfSome (get (told_of es) eid) P
  of_told P here = subst (λ (o : Option (Spot × Pile)). IfSome o P) (sym got_was) here

  pub rises_over : (spot : Spot) (pile : Pile) →
      IsRising (set es i (record { eid = was.eid; spot = spot; pile = pile }))
  rises_over spot pile =
      rises_set es i (record { eid = was.eid; spot = spot; pile = pile }) r
      (subst (λ (k : ℤ). IsAt es k i) (sym named_was) is)

  pub told_over : (spot : Spot) (pile : Pile) →
      told_of (set es i (record { eid = was.eid; spot = spot; pile = pile })) ≡
      map.insert (told_of es) eid (spot, pile)
  told_over spot pile =
      told_set es i (record { eid = was.eid; spot = spot; pile = pile }) r
      (subst (λ (k : ℤ). IsAt es k i) (sym named_was) is)
      ∙ ap (λ (k : ℤ). map.insert (told_of es) k (spot, pile)) named_was
