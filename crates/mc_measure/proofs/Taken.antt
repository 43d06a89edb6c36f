-- What taking makes of one connection, and forgetting.
use Rattle.std.proofs.Common.{◌≡◌, ◌≢◌, ℕ, ◌<◌, ◌≤◌, Bool, true, false, cond, List, [], ◌∷◌, length}
use Rattle.std.proofs.Common.{drop, refl, sym, ap, ◌∙◌, arith}
use Rattle.std.specs.Prelude.{nat_lt, Option, Some, None, option_map, if◌then◌else◌}
use Rattle.std.specs.Cmp.{nat_cmp_total}
use Rattle.std.specs.FinMap.{get, nat_cmp-IsAntisymmetric}
use Rattle.std.proofs.lemmas.Bool.{cases_eq}
use Rattle.std.proofs.lemmas.Bool.Decides.{nat_tests}
use Rattle.std.proofs.lemmas.List.{drop_all}
use Rattle.mc_model.specs.Step.{took, forgot, step}
use Rattle.mc_model.specs.Link.{Link}
use Rattle.mc_model.specs.Run.{owed_in, owed_of}
use Rattle.mc_model.specs.World.{World, seat_of, unread_of, with_seat}
use Rattle.mc_model.proofs.Maps.Sorted.{put_twice}
use Rattle.mc_model.proofs.Maps.Lookups.{put_other, put_same}
use Rattle.mc_laws.proofs.Serving.Forgetting.{closed_owed, forgot_other}
use Rattle.mc_measure.specs.Settling.{forgotten, taken, taken_of}

abbrev pub emptied : Link → Link
emptied l = record l { owed = [] }

abbrev pub taking : ℕ → Link → Link
taking n l = record l { owed = drop n l.owed }

-- the link of one connection is another
abbrev with_link : World → ℕ → Link → World
with_link w k l = with_seat w k (seat_of w k l)

with_link_twice : (w : World) (k : ℕ) (l m : Link) →
    with_link (with_link w k l) k m ≡ with_link w k m
with_link_twice w k l m = rw (
  put_same w.unread k (unread_of k w),
  put_twice nat_cmp_total nat_cmp-IsAntisymmetric w.links k l m,
  put_twice nat_cmp_total nat_cmp-IsAntisymmetric w.unread k (unread_of k w) (unread_of k w),
) refl

pub took_is : (w : World) (k n : ℕ) (l : Link) → get w.links k ≡ Some l →
    (step w (took k n)).world ≡ with_link w k (taking n l)
unfolding step
took_is w k n l is = rw is refl

pub took_none : (w : World) (k n : ℕ) → get w.links k ≡ None → (step w (took k n)).world ≡ w
unfolding step
took_none w k n is = rw is refl

pub some_owed : (b : ℕ) (bytes : List ℕ) → nat_lt 0 (length (b ∷ bytes)) ≡ true
some_owed b bytes = grind (arith, nat_tests)

nothing_owed : (o : List ℕ) → nat_lt 0 (length o) ≡ false → o ≡ []
nothing_owed [] none = refl
nothing_owed (b ∷ bytes) none = grind (arith, nat_tests, none)

-- all of it
abbrev taken_link : World → ℕ → Link → World
taken_link w k l = if nat_lt 0 (length l.owed) then with_link w k (emptied l) else w

taken_is : (w : World) (k : ℕ) (l : Link) → get w.links k ≡ Some l → taken k w ≡ taken_link w k l
taken_is w k l is = ap (λ (o : Option Link). taken_of k w (owed_of o)) is ∙ by l.owed refl
  where
    by : (o : List ℕ) → l.owed ≡ o →
        taken_of k w o ≡ cond (nat_lt 0 (length o)) (with_link w k (emptied l)) w
    by [] e = refl
    by (b ∷ bytes) e = took_is w k (length (b ∷ bytes)) l is
        ∙ ap (λ (o : List ℕ). with_link w k (record l { owed = o }))
        (drop_all (length (b ∷ bytes)) l.owed (grind (arith, nat_tests, e)))
        ∙ ap (λ (t : Bool). cond t (with_link w k (emptied l)) w) (sym (some_owed b bytes))

none_taken : (w : World) (k : ℕ) → get w.links k ≡ None → taken k w ≡ w
none_taken w k is = ap (λ (o : Option Link). taken_of k w (owed_of o)) is

-- its own link then, and that of another
pub taken_own : (w : World) (k : ℕ) →
    get (taken k w).links k ≡ option_map emptied (get w.links k)
taken_own w k = by (get w.links k) refl
  where
    as_it_was : (l : Link) → nat_lt 0 (length l.owed) ≡ false → Some l ≡ Some (emptied l)
    as_it_was l none =
        ap (λ (o : List ℕ). Some (record l { owed = o })) (nothing_owed l.owed none)

    by : (o : Option Link) → get w.links k ≡ o →
        get (taken k w).links k ≡ option_map emptied o
    by None is = ap (λ (v : World). get v.links k) (none_taken w k is) ∙ is
    by (Some l) is = ap (λ (v : World). get v.links k) (taken_is w k l is)
        ∙ elim (nat_lt 0 (length l.owed)) as (λ b. nat_lt 0 (length l.owed) ≡ b →
        get (cond b (with_link w k (emptied l)) w).links k ≡ Some (emptied l)) [
          | true ↦ λ some. put_same w.links k (emptied l)
          | false ↦ λ none. is ∙ as_it_was l none
        ] refl

pub took_other : (w : World) (k n j : ℕ) → j ≢ k →
    get (step w (took k n)).world.links j ≡ get w.links j
took_other w k n j ne = by (get w.links k) refl
  where
    by : (o : Option Link) → get w.links k ≡ o →
        get (step w (took k n)).world.links j ≡ get w.links j
    by None is = ap (λ (v : World). get v.links j) (took_none w k n is)
    by (Some l) is = ap (λ (v : World). get v.links j) (took_is w k n l is)
        ∙ put_other w.links k j (taking n l) ne

pub taken_other : (w : World) (k j : ℕ) → j ≢ k → get (taken k w).links j ≡ get w.links j
taken_other w k j ne = by (owed_in k w)
  where
    by : (o : List ℕ) → get (taken_of k w o).links j ≡ get w.links j
    by [] = refl
    by (b ∷ bytes) = took_other w k (length (b ∷ bytes)) j ne

-- what is owed still
pub owed_after : (w : World) (k n : ℕ) →
    owed_in k (step w (took k n)).world ≡ drop n (owed_in k w)
owed_after w k n = by (get w.links k) refl
  where
    by : (o : Option Link) → get w.links k ≡ o →
        owed_in k (step w (took k n)).world ≡ drop n (owed_of o)
    by None is = ap (owed_in k) (took_none w k n is) ∙ ap owed_of is
        ∙ sym (drop_all n [] (omega arith))
    by (Some l) is = ap (owed_in k) (took_is w k n l is)
        ∙ ap owed_of (put_same w.links k (taking n l))

-- taking the first bytes and then the others is taking all
pub taken_after : (w : World) (k n : ℕ) → 0 < n → n ≤ length (owed_in k w) →
    taken k (step w (took k n)).world ≡ taken k w
taken_after w k n some few = by (get w.links k) refl
  where
    some_left : (o : List ℕ) → n ≤ length o → nat_lt 0 (length o) ≡ true
    some_left o many = grind (arith, nat_tests, some, many)

    by : (o : Option Link) → get w.links k ≡ o → taken k (step w (took k n)).world ≡ taken k w
    by None is = ap (taken k) (took_none w k n is)
    by (Some l) is =
        let v : World = with_link w k (taking n l) in
        let many : n ≤ length l.owed = rw is at few in
        ap (taken k) (took_is w k n l is)
        ∙ taken_is v k (taking n l) (put_same w.links k (taking n l))
        ∙ elim (nat_lt 0 (length (drop n l.owed))) as (λ b. nat_lt 0 (length (drop n l.owed)) ≡ b →
        cond b (with_link v k (emptied l)) v ≡ with_link w k (emptied l)) [
          | true ↦ λ more. with_link_twice w k (taking n l) (emptied l)
          | false ↦ λ none. ap (λ (o : List ℕ). with_link w k (record l { owed = o }))
              (nothing_owed (drop n l.owed) none)
        ] refl
        ∙ ap (λ (t : Bool). cond t (with_link w k (emptied l)) w) (sym (some_left l.owed many))
        ∙ sym (taken_is w k l is)

-- who is owed nothing is owed nothing
pub taken_owed : (j k : ℕ) (w : World) → (j ≢ k → owed_in j w ≡ []) → owed_in j (taken k w) ≡ []
taken_owed j k w none = grind (arith, nat_tests, cases_eq, taken_own, taken_other)

-- ---- one is forgotten

-- another stays
pub forgotten_other : (w : World) (k j : ℕ) → j ≢ k →
    get (forgotten k w).links j ≡ get w.links j
forgotten_other w k j ne = grind (arith, nat_tests, forgot_other)

-- who is owed nothing is owed nothing
pub forgot_owed : (j k : ℕ) (w : World) → owed_in j w ≡ [] →
    owed_in j (step w (forgot k)).world ≡ []
forgot_owed j k w none = closed_owed j (k ∷ []) w none
