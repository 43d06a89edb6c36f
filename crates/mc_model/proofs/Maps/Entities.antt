-- Which entity is found under a number once one was changed, taken out or added.
use Rattle.std.proofs.Common.{◌≡◌, ◌≢◌, ℕ, true, false, List, [], ◌∷◌, ◌++◌, arith}
use Rattle.std.proofs.Common.{Some, None, refl}
use Rattle.std.specs.Prelude.{◌⊎◌, ◌≤ℤ◌, ◌<ℤ◌, option_map}
use Rattle.std.proofs.lemmas.Bool.Decides.{Decides-int_eq}
use Rattle.std.proofs.lemmas.Int.{ints}
use Rattle.std.proofs.lemmas.Bool.Decides.{nat_tests}
use Rattle.std.specs.Ordering.{int_eq}
use lib.IntN.{ℤ, pos}
use Rattle.mc_entities.specs.declared.entity.Entity.{Entity}
use Rattle.mc_entities.specs.Numbers.{Rise, numbered, changed, without}
use Rattle.mc_entities.specs.Folk.{eid_of}

-- ---- numbers

pub same_eid : (n : ℕ) → int_eq (pos n) (pos n) ≡ true
same_eid n = (Decides-int_eq (pos n) (pos n)).1 refl

pub other_eid : (m n : ℕ) → m ≢ n → int_eq (pos m) (pos n) ≡ false
other_eid m n ne = grind (arith, nat_tests)

-- ---- one changed

-- a change keeps numbers
pub record KeepsEid (f : Entity → Entity) : Type 0 where
  pub is : (e : Entity) → (f e).eid ≡ e.eid

pub changed_eid : (n : ℕ) (f : Entity → Entity) (es : List Entity) → KeepsEid f →
    numbered eid_of (pos n) (changed eid_of (pos n) f es)
    ≡ option_map f (numbered eid_of (pos n) es)
changed_eid n f [] keeps = refl
changed_eid n f (e ∷ es) keeps = grind (arith, nat_tests, changed_eid n f es keeps)

pub changed_no_eid : (m n : ℕ) (f : Entity → Entity) (es : List Entity) → KeepsEid f → m ≢ n →
    numbered eid_of (pos m) (changed eid_of (pos n) f es) ≡ numbered eid_of (pos m) es
changed_no_eid m n f [] keeps ne = refl
changed_no_eid m n f (e ∷ es) keeps ne = grind (arith, nat_tests, changed_no_eid m n f es keeps ne)

-- ---- one taken out

pub without_eid : (n : ℕ) (es : List Entity) →
    numbered eid_of (pos n) (without eid_of (pos n) es) ≡ None
without_eid n [] = refl
without_eid n (e ∷ es) = grind (arith, nat_tests, without_eid n es)

pub without_no_eid : (m n : ℕ) (es : List Entity) → m ≢ n →
    numbered eid_of (pos m) (without eid_of (pos n) es) ≡ numbered eid_of (pos m) es
without_no_eid m n [] ne = refl
without_no_eid m n (e ∷ es) ne = grind (arith, nat_tests, without_no_eid m n es ne)

-- ---- one more

-- who was found is found
pub found_before : (n : ℤ) (es more : List Entity) (e : Entity) →
    numbered eid_of n es ≡ Some e → numbered eid_of n (es ++ more) ≡ Some e
found_before n [] more e is = absurd cc
found_before n (x ∷ xs) more e is = grind (arith, nat_tests, found_before n xs more e)

-- else it is looked for behind
pub found_behind : (n : ℤ) (es more : List Entity) → numbered eid_of n es ≡ None →
    numbered eid_of n (es ++ more) ≡ numbered eid_of n more
found_behind n [] more none = refl
found_behind n (x ∷ xs) more none = grind (arith, nat_tests, found_behind n xs more)

-- ---- numbers that rise

rise_less : (low less high : ℤ) (es : List Entity) → less ≤ℤ low → Rise eid_of low es high →
    Rise eid_of less es high
rise_less low less high [] le r = omega (arith, ints, le, r)
rise_less low less high (e ∷ es) le r = (let first = r.0 in (omega (arith, ints, le, first), r.1))

pub rise_join : (low high more : ℤ) (es : List Entity) (x : Entity) → high <ℤ x.eid →
    x.eid ≤ℤ more → Rise eid_of low es high → Rise eid_of low (es ++ x ∷ []) more
rise_join low high more [] x lt le r = (omega (arith, ints, r, lt), le)
rise_join low high more (e ∷ es) x lt le r = (r.0, rise_join e.eid high more es x lt le r.1)

pub without_rise : (n low high : ℤ) (es : List Entity) → Rise eid_of low es high →
    Rise eid_of low (without eid_of n es) high
without_rise n low high [] r = r
without_rise n low high (e ∷ es) r =
    grind (arith, nat_tests, ints, without_rise n e.eid high es r.1, rise_less)

pub changed_rise : (n : ℕ) (f : Entity → Entity) (low high : ℤ) (es : List Entity) → KeepsEid f →
    Rise eid_of low es high → Rise eid_of low (changed eid_of (pos n) f es) high
changed_rise n f low high [] keeps r = r
changed_rise n f low high (e ∷ es) keeps r =
    grind (arith, nat_tests, changed_rise n f e.eid high es keeps r.1)

-- one that is found once another came was there, or is that
pub found_either : (n : ℤ) (es : List Entity) (x e : Entity) →
    numbered eid_of n (es ++ x ∷ []) ≡ Some e →
    (numbered eid_of n es ≡ Some e) ⊎ ((e ≡ x) × (x.eid ≡ n))
found_either n es x e is = grind (arith, nat_tests, Decides-int_eq, found_behind, found_before)
