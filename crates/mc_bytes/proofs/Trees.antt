-- A tree's entries as a finite map: what is looked up, what is put and what is taken out.
use Rattle.std.proofs.Common.{◌≡◌, cond, List, [], ◌∷◌, Option, Some, None, refl, sym, ap, ◌∙◌}
use Rattle.std.proofs.Common.{Bool, true, false, MutBor, IsSome, IsNone, is_some, inl, inr, T}
use Rattle.std.proofs.Common.{arith}
use Rattle.std.proofs.Common.{Result, Ok, Err, OnErr}
use Rattle.std.proofs.lemmas.Bool.Decides.{nat_tests}
use Rattle.std.specs.List.{AllByRecursion}
use Rattle.std.specs.List.Sorted.{IsStrictlySortedBy}
use Rattle.std.specs.Option.{option_copied_mut, ghost_name_of}
use Rattle.std.specs.Map.{keys_of, lookup}
use borrow.Follows.Closed.{read_of}
use Rattle.std.specs.declared.cmp.Ordering.{Ordering}
use Rattle.std.specs.declared.cmp.Ordering.TheVariants.{Less, Equal, Greater}
use Rattle.std.specs.Ordering.{is_eq, eq_by_cmp}
use Rattle.std.specs.Cmp.{IsTotalOrder, eq_by_cmp_equiv}
use Rattle.std.specs.FinMap.{FinMap, IsAntisymmetric, entries, entries-from_sorted, find}
use Rattle.std.specs.FinMap.{from_entries, from_sorted, get, get-from_entries, get-from_sorted}
use Rattle.std.specs.FinMap.{get-insert, get-remove, insert, is_sorted, remove, same_map}
use Rattle.std.specs.FinMap.Entries.{below_all}

-- a tree's look-up is that of its entries
pub tree_found : {K X : Type 0} (R : K → K → Ordering) (q : K) (es : List (K × X)) →
    lookup (λ k. is_eq (R q k)) es ≡ find R q es
tree_found R q [] = refl
tree_found R q (e ∷ es) = ap (cond (is_eq (R q e.0)) (Some e.1)) (tree_found R q es)

-- and of the map that it stands for
pub tree_get : {K X : Type 0} {R : K → K → Ordering} → IsTotalOrder R → (q : K)
    (es : List (K × X)) → lookup (λ k. is_eq (R q k)) es ≡ get (from_entries {R = R} es) q
tree_get {R = R} total q es = tree_found R q es ∙ sym (get-from_entries total es q)

-- an entry that is put into a tree is put into that map
pub entry_put : {K X : Type 0} {R : K → K → Ordering} → IsTotalOrder R → IsAntisymmetric R →
    (old new : List (K × X)) (k : K) (v : X) →
    ((q : K) → lookup (λ y. is_eq (R q y)) new
    ≡ cond (is_eq (R k q)) (Some v) (lookup (λ y. is_eq (R q y)) old)) →
    from_entries {R = R} new ≡ insert (from_entries old) k v
entry_put {R = R} total exact old new k v given =
    same_map total exact (from_entries new) (insert (from_entries old) k v) (λ q.
    get-from_entries total new q ∙ sym (tree_found R q new) ∙ given q
    ∙ ap (λ (b : Bool). cond b (Some v) (lookup (λ y. is_eq (R q y)) old))
    ((eq_by_cmp_equiv total).symm k q)
    ∙ ap (cond (eq_by_cmp R q k) (Some v))
    (tree_found R q old ∙ sym (get-from_entries total old q))
    ∙ sym (get-insert total (from_entries old) k v q))

-- where one is lent, there is one
pub lent_is : {E : Type 0} (o : Option (MutBor E)) (c : Option E) → option_copied_mut o ≡ c →
    IsSome o → IsSome c
lent_is o c e some = sym (ap is_some e) ∙ copied_mut o ∙ some
  where
    copied_mut : {E : Type 0} (o : Option (MutBor E)) → is_some (option_copied_mut o) ≡ is_some o
    copied_mut None = refl
    copied_mut (Some r) = refl

-- what a lender ends as, by what is lent
pub lends_alike : {D E : Type 0} (o : Option (MutBor E)) (F G : E → D) (v w : D) →
    (IsSome o → (x : E) → F x ≡ G x) → (IsNone o → v ≡ w) → read_of (ghost_name_of o) F v ≡
    read_of (ghost_name_of o) G w
lends_alike None F G v w some none = λ i. inr (none refl i)
lends_alike (Some r) F G v w some none = λ i. inl (r.ghost_name, λ x. some refl x i)

-- an entry that is taken out of a tree is taken out of that map
pub entry_gone : {K X : Type 0} {R : K → K → Ordering} → IsTotalOrder R → IsAntisymmetric R →
    (old new : List (K × X)) (k : K) →
    ((q : K) → lookup (λ y. is_eq (R q y)) new
    ≡ cond (is_eq (R k q)) None (lookup (λ y. is_eq (R q y)) old)) →
    from_entries {R = R} new ≡ remove (from_entries old) k
entry_gone {R = R} total exact old new k given =
    same_map total exact (from_entries new) (remove (from_entries old) k) (λ q.
    get-from_entries total new q ∙ sym (tree_found R q new) ∙ given q
    ∙ ap (λ (b : Bool). cond b None (lookup (λ y. is_eq (R q y)) old))
    ((eq_by_cmp_equiv total).symm k q)
    ∙ ap (cond (eq_by_cmp R q k) None)
    (tree_found R q old ∙ sym (get-from_entries total old q))
    ∙ sym (get-remove total (from_entries old) k q))

-- ---- entries in order

below : {K X : Type 0} (R : K → K → Ordering) (k : K) (es : List (K × X)) →
    AllByRecursion (λ y. R k y ≡ Less) (keys_of es) → T (below_all R k es)
below R k [] a = tt
below R k (e ∷ es) a = grind (arith, nat_tests, below R k es a.1, a.0)

pub rises : {K X : Type 0} (R : K → K → Ordering) (es : List (K × X)) →
    IsStrictlySortedBy R (keys_of es) → T (is_sorted R es)
unfolding IsStrictlySortedBy
rises R [] s = tt
rises R (e ∷ es) s = grind (arith, nat_tests, rises R es s.1, below R e.0 es s.0)

-- the entries of a tree are those of the map that it stands for
pub entries_are : {K X : Type 0} {R : K → K → Ordering} → IsTotalOrder R → IsAntisymmetric R →
    (es : List (K × X)) → IsStrictlySortedBy R (keys_of es) → entries (from_entries {R = R} es) ≡ es
entries_are {R = R} total exact es sorted =
    ap entries (same_map total exact (from_entries es) (from_sorted es) (λ q.
    get-from_entries total es q ∙ sym (get-from_sorted R es q (rises R es sorted))))
    ∙ entries-from_sorted R es (rises R es sorted)

pub equal : (r : Ordering) → is_eq r ≡ true → r ≡ Equal
equal Less e = absurd cc
equal Equal e = refl
equal Greater e = absurd cc

-- ---- what was lent and is as it was

pub lent_back : {K X : Type 0} {R : K → K → Ordering} → IsTotalOrder R → IsAntisymmetric R →
    (o : Option (MutBor X)) (m : FinMap R X) (k : K) (r : MutBor X) (x : X) →
    option_copied_mut o ≡ get m k → o ≡ Some r → x ≡ r.now → insert m k x ≡ m
lent_back {K} {X} {R} total exact o m k r x looked is same =
    same_map total exact (insert m k x) m (λ q. get-insert total m k x q
    ∙ step q (eq_by_cmp R q k) refl)
  where
    there : get m k ≡ Some x
    there = sym looked ∙ ap option_copied_mut is ∙ ap Some (sym same)

    step : (q : K) (t : Bool) → eq_by_cmp R q k ≡ t → cond t (Some x) (get m q) ≡ get m q
    step q true tied = sym there ∙ ap (get m) (sym (exact q k (equal (R q k) tied)))
    step q false tied = refl

pub on_err : {A E : Type 0} {P : Type 0} (r : Result A E) → P → OnErr r P
on_err (Ok x) p = tt
on_err (Err e) p = p
