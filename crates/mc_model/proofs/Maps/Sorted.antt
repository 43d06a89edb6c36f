-- Finite maps that are changed entry by entry: what stands at each key afterwards, and what
-- removing and inserting makes of one map.
use Rattle.std.proofs.Common.{◌≡◌, Bool, true, false, cond, not, ◌&&◌, T, List, [], ◌∷◌, Option}
use Rattle.std.proofs.Common.{Some, None, refl, sym, ap, ◌∙◌, arith}
use Rattle.std.proofs.lemmas.Bool.Decides.{nat_tests}
use Rattle.std.specs.List.{filter, fold, AllByRecursion}
use Rattle.std.specs.declared.cmp.Ordering.{Ordering}
use Rattle.std.specs.declared.cmp.Ordering.TheVariants.{Less, Equal}
use Rattle.std.specs.Ordering.{is_lt, is_eq, eq_by_cmp}
use Rattle.std.specs.Cmp.{IsTotalOrder, tied_itself}
use Rattle.std.specs.FinMap.{FinMap, IsAntisymmetric, find, is_sorted, get, insert, remove, entries}
use Rattle.std.specs.FinMap.{entries_sorted, contains_key, get-entries, get-insert, get-remove}
use Rattle.std.specs.FinMap.{same_map}
use Rattle.std.specs.FinMap.Entries.{below_all, find_tied}
use Rattle.mc_model.specs.Replica.{altered, altered_from}

-- the parts of a test that both must pass
pub first : (a b : Bool) → T (a && b) → T a
first true b h = tt
first false b h = absurd h

pub second : (a b : Bool) → T (a && b) → T b
second true b h = h
second false b h = absurd h

-- what an order says where its tests pass
less : (r : Ordering) → T (is_lt r) → r ≡ Less
less r h = grind (arith, nat_tests)

pub equal : (r : Ordering) → is_eq r ≡ true → r ≡ Equal
equal r e = grind (arith, nat_tests)

-- ---- entries in order

module _ {K X : Type 0} {R : K → K → Ordering} (o : IsTotalOrder R) where
  -- a key below all of a list is not found in it
  find_below : (q : K) (es : List (K × X)) → T (below_all R q es) → find R q es ≡ None
  find_below q [] h = refl
  find_below q (e ∷ es) h = ap (λ r. cond (is_eq r) (Some e.1) (find R q es)) (less _ (first _ _ h))
      ∙ find_below q es (second _ _ h)

  -- a key that ties with the first is not found again
  pub find_again : (q : K) (e : K × X) (es : List (K × X)) → T (is_sorted R (e ∷ es)) →
      eq_by_cmp R q e.0 ≡ true → find R q es ≡ None
  find_again q e es h t = sym (find_tied R o q e.0 (equal _ t) es) ∙ find_below e.0 es (first _ _ h)

  -- what holds of each entry that is found holds of each of those that pass a test
  pub each_found : (P : K × X → Type 0) (test : K × X → Bool) (es : List (K × X)) →
      T (is_sorted R es) →
      ((q : K) (v : X) → find R q es ≡ Some v → P (q, v)) → AllByRecursion P (filter test es)
  each_found P test [] h holds = tt
  each_found P test (e ∷ es) h holds =
      let here : P e = holds e.0 e.1
      (ap (λ r. cond (is_eq r) (Some e.1) (find R e.0 es)) (tied_itself o e.0)) in
      let later : AllByRecursion P (filter test es) =
      each_found P test es (second _ _ h) (λ q v found. holds q v (still q v found)) in
      elim (test e) as (λ b. AllByRecursion P (cond b (e ∷ filter test es) (filter test es)))
      [ true ↦ (here, later) | false ↦ later ]
    where
      still : (q : K) (v : X) → find R q es ≡ Some v →
          cond (eq_by_cmp R q e.0) (Some e.1) (find R q es) ≡ Some v
      still q v found = grind (arith, nat_tests, find_again q e es h)

-- ---- one change after another

-- what is at a key after changes by the entries that pass a test, from the entry of that key
abbrev pub changed_by : {K X Y : Type 0} → (K × X → Bool) → (X → Option Y) → K → Option X →
    Option Y → Option Y
changed_by test f q None old = old
changed_by test f q (Some v) old = cond (test (q, v)) (f v) old

-- a change by an entry makes f of its value stand at its key
pub record Changes {K X Y : Type 0} {R : K → K → Ordering} (change : FinMap R Y → K × X →
    FinMap R Y) (f : X → Option Y) : Type 0 where
  pub at : (m : FinMap R Y) (e : K × X) (q : K) →
      get (change m e) q ≡ cond (eq_by_cmp R q e.0) (f e.1) (get m q)

-- what is at a key after a change by the first entry and then by the later ones
change_step : {K X Y : Type 0} (test : K × X → Bool) (f : X →
    Option Y) (q : K) (v : X) (tie passes : Bool) (there : Option X) (old : Option Y) →
    (tie ≡ true → there ≡ None) → (tie ≡ true → test (q, v) ≡ passes) →
    changed_by test f q there (cond passes (cond tie (f v) old) old) ≡ changed_by test f q
    (cond tie (Some v) there) old
change_step test f q v tie passes there old none is = grind (arith, nat_tests)

module _ {K X Y : Type 0} {R : K → K →
    Ordering} (o : IsTotalOrder R) (same : IsAntisymmetric R) where
  -- what is at a key after changes by the entries of a map that pass a test
  pub get-changes : (change : FinMap R Y → K × X → FinMap R Y) (f : X → Option Y) →
      Changes change f →
      (test : K × X → Bool) (q : K) (es : List (K × X)) (m : FinMap R Y) → T (is_sorted R es) →
      get (fold change m (filter test es)) q ≡ changed_by test f q (find R q es) (get m q)
  get-changes change f does test q [] m h = refl
  get-changes change f does test q (e ∷ es) m h =
      elim (test e) as (λ b. get (fold change m (cond b (e ∷ filter test es) (filter test es))) q
      ≡ changed_by test f q (find R q es) (get (cond b (change m e) m) q)) [
        | true ↦ get-changes change f does test q es (change m e) (second _ _ h)
        | false ↦ get-changes change f does test q es m (second _ _ h)
      ]
      ∙ ap (changed_by test f q (find R q es)) changed
      ∙ change_step test f q e.1 (eq_by_cmp R q e.0) (test e) (find R q es) (get m q)
      (find_again o q e es h) (λ t. ap (λ k. test (k, e.1)) (same q e.0 (equal _ t)))
    where
      changed : get (cond (test e) (change m e) m) q ≡ cond (test e)
          (cond (eq_by_cmp R q e.0) (f e.1) (get m q)) (get m q)
      changed = grind (arith, nat_tests, does.at m e q)

-- ---- taking out and putting in

-- a change that takes the key of an entry out, and one that puts the entry in
abbrev pub take_out : {K X : Type 0} {R : K → K → Ordering} → FinMap R X → K × X → FinMap R X
take_out m e = remove m e.0

abbrev pub put_in : {K X : Type 0} {R : K → K → Ordering} → FinMap R X → K × X → FinMap R X
put_in m e = insert m e.0 e.1

-- what is at a key that is taken out
abbrev pub none_of : {X : Type 0} → X → Option X
none_of v = None

-- what is at a key after the entries of one map that pass a test are taken out, and those of
-- another put in
abbrev pub remade_at : {K X : Type 0} → (K × X → Bool) → (K × X → Bool) → K → Option X → Option X →
    Option X
remade_at gone entered q old new = changed_by entered Some q new (changed_by gone none_of q old old)

module _ {K X : Type 0} {R : K → K → Ordering} (o : IsTotalOrder R) (same : IsAntisymmetric R) where
  -- where that is what the other map has at each key, it is the other map
  pub remade : (m n : FinMap R X) (gone entered : K × X → Bool) →
      ((q : K) → remade_at gone entered q (get m q) (get n q) ≡ get n q) →
      fold put_in (fold take_out m (filter gone (entries m))) (filter entered (entries n)) ≡ n
  remade m n gone entered each = same_map o same _ n (λ q. at q ∙ each q)
    where
      at : (q : K) → get (fold put_in (fold take_out m (filter gone (entries m)))
          (filter entered (entries n))) q ≡ remade_at gone entered q (get m q) (get n q)
      at q =
          get-changes o same put_in Some
          (record { at = λ m e k. get-insert o m e.0 e.1 k }) entered q (entries n)
          (fold take_out m (filter gone (entries m))) (entries_sorted n)
          ∙ ap (λ (new : Option X). changed_by entered Some q new
          (get (fold take_out m (filter gone (entries m))) q)) (sym (get-entries n q))
          ∙ ap (changed_by entered Some q (get n q))
          (get-changes o same take_out none_of
          (record { at = λ m e k. get-remove o m e.0 k }) gone q (entries m) m
          (entries_sorted m)
          ∙ ap (λ (old : Option X). changed_by gone none_of q old (get m q))
          (sym (get-entries m q)))

-- the test of an entry whose key another map has not
abbrev pub is_without : {K X : Type 0} {R : K → K → Ordering} → FinMap R X → K × X → Bool
is_without n e = not (contains_key n e.0)

-- what is at a key once the keys that another map has not are taken out
abbrev pub kept : {X : Type 0} → Option X → Option X → Option X
kept old None = None
kept old (Some w) = old

-- and once the entries whose keys are new are put in
abbrev pub joined : {X : Type 0} → Option X → Option X → Option X
joined old None = None
joined None (Some w) = Some w
joined (Some v) (Some w) = Some v

-- every entry passes it
abbrev pub always : {A : Type 0} → A → Bool
always a = true

-- so nothing is left out
filter_always : {A : Type 0} (xs : List A) → filter always xs ≡ xs
filter_always [] = refl
filter_always (x ∷ xs) = ap (λ ys. x ∷ ys) (filter_always xs)

module _ {K X : Type 0} {R : K → K → Ordering} (o : IsTotalOrder R) (same : IsAntisymmetric R) where
  -- what is at a key once the keys that another map has not are taken out
  pub get_kept : (m n : FinMap R X) (q : K) →
      get (fold take_out m (filter (is_without n) (entries m))) q ≡ kept (get m q) (get n q)
  get_kept m n q =
      get-changes o same take_out none_of
      (record { at = λ m e k. get-remove o m e.0 k }) (is_without n) q (entries m) m
      (entries_sorted m)
      ∙ ap (λ (old : Option X). changed_by (is_without n) none_of q old (get m q))
      (sym (get-entries m q)) ∙ cases (get m q) (get n q) refl
    where
      cases : (old new : Option X) → get n q ≡ new →
          changed_by (is_without n) none_of q old old ≡ kept old new
      cases old new b = grind (arith, nat_tests)

  -- and once the entries whose keys are new are put in
  pub get_joined : (m n : FinMap R X) (q : K) →
      get (fold put_in (fold take_out m (filter (is_without n) (entries m)))
      (filter (is_without m) (entries n))) q ≡ joined (get m q) (get n q)
  get_joined m n q =
      get-changes o same put_in Some
      (record { at = λ m e k. get-insert o m e.0 e.1 k }) (is_without m) q (entries n)
      (fold take_out m (filter (is_without n) (entries m))) (entries_sorted n)
      ∙ ap (λ (new : Option X). changed_by (is_without m) Some q new
      (get (fold take_out m (filter (is_without n) (entries m))) q)) (sym (get-entries n q))
      ∙ ap (changed_by (is_without m) Some q (get n q)) (get_kept m n q)
      ∙ cases (get m q) (get n q) refl
    where
      cases : (old new : Option X) → get m q ≡ old →
          changed_by (is_without m) Some q new (kept old new) ≡ joined old new
      cases old new a = grind (arith, nat_tests)

  -- a map whose keys another has too, with all entries of that put in, is that
  pub all_put_in : (m n : FinMap R X) → ((q : K) → get n q ≡ None → get m q ≡ None) →
      fold put_in m (entries n) ≡ n
  all_put_in m n none = same_map o same _ n (λ q. at q ∙ cases q (get n q) refl)
    where
      at : (q : K) → get (fold put_in m (entries n)) q ≡ changed_by always Some q (get n q)
          (get m q)
      at q = ap (λ (es : List (K × X)). get (fold put_in m es) q) (sym (filter_always (entries n)))
          ∙ get-changes o same put_in Some
          (record { at = λ m e k. get-insert o m e.0 e.1 k }) always q (entries n) m
          (entries_sorted n)
          ∙ ap (λ (new : Option X). changed_by always Some q new (get m q)) (sym (get-entries n q))

      cases : (q : K) (new : Option X) → get n q ≡ new → changed_by always Some q new (get m q)
          ≡ new
      cases q None b = none q b
      cases q (Some w) b = refl

  -- putting in what is there changes nothing
  pub put_there : (m : FinMap R X) (k : K) (v : X) → get m k ≡ Some v → insert m k v ≡ m
  put_there m k v there =
      same_map o same _ m (λ q. get-insert o m k v q ∙ cases q (eq_by_cmp R q k) refl)
    where
      cases : (q : K) (b : Bool) → eq_by_cmp R q k ≡ b → cond b (Some v) (get m q) ≡ get m q
      cases q true t = sym (ap (get m) (same q k (equal _ t)) ∙ there)
      cases q false t = refl

  -- what is put in at a key is what stands there
  pub get_put : (m : FinMap R X) (k : K) (v : X) → get (insert m k v) k ≡ Some v
  get_put m k v = get-insert o m k v k
      ∙ ap (λ r. cond (is_eq r) (Some v) (get m k)) (tied_itself o k)

  -- and what was put in there before is gone
  pub put_twice : (m : FinMap R X) (k : K) (v w : X) → insert (insert m k v) k w ≡ insert m k w
  put_twice m k v w = same_map o same _ (insert m k w) (λ q. get-insert o (insert m k v) k w q
      ∙ ap (cond (eq_by_cmp R q k) (Some w)) (get-insert o m k v q)
      ∙ cases (eq_by_cmp R q k) (get m q) ∙ sym (get-insert o m k w q))
    where
      cases : (b : Bool) (old : Option X) → cond b (Some w) (cond b (Some v) old)
          ≡ cond b (Some w) old
      cases true old = refl
      cases false old = refl

  -- what was put in, changed
  pub altered_put : (m : FinMap R X) (k : K) (v : X) (f : X → X) →
      altered (insert m k v) k f ≡ insert m k (f v)
  altered_put m k v f = ap (altered_from (insert m k v) k f) (get_put m k v)
      ∙ put_twice m k v (f v)
