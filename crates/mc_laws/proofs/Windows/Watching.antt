-- What the law of windows reads of a game: which chest each player is shown, which number the
-- window of each name has, and where chests stand. It holds where what is read of one name changes.
use Rattle.std.proofs.Common.{◌≡◌, ◌≢◌, ℕ, ◌≤◌, Bool, true, List, Option, Some, None, sym}
use Rattle.std.proofs.Common.{subst, ap, ◌∙◌, inl, inr, arith}
use Rattle.std.specs.Prelude.{◌⊎◌, ◌==◌, not, is_some, unwrap_or}
use Rattle.std.proofs.lemmas.Bool.{cases_eq}
use Rattle.std.proofs.lemmas.Bool.Decides.{nat_tests}
use Rattle.mc_fields.specs.declared.position.Cell.{Cell}
use Rattle.mc_windows.specs.declared.pack.TheConstants.{LAST_WINDOW}
use Rattle.mc_model.proofs.Maps.Lookups.{name_cases}

-- a player's name, and the chest that it is shown
pub record Watch : Type 0 where
  pub name : List ℕ
  pub chest : Option Cell

-- such a player is shown a chest just where its window has a number, and the chest stands there
pub record IsRight (windows : List ℕ → Option ℕ) (stands : Cell → Bool) (a : Watch) : Type 0 where
  pub number : is_some a.chest ≡ not (unwrap_or (windows a.name) 0 == 0)
  pub there : (cell : Cell) → a.chest ≡ Some cell → stands cell ≡ true

-- So it is of all but some connections; no two players have one name, and each has a window. The
-- numbers of windows are up to 100, and 0 of who is not there.
pub record AreRight (but : ℕ → Type 0) (who : ℕ → Option Watch) (windows : List ℕ → Option ℕ)
    (stands : Cell → Bool) : Type 0 where
  pub apart : (j k : ℕ) (a b : Watch) → who j ≡ Some a → who k ≡ Some b → j ≢ k → a.name ≢ b.name
  pub carries : (k : ℕ) (a : Watch) → who k ≡ Some a → is_some (windows a.name) ≡ true
  pub right : (k : ℕ) (a : Watch) → who k ≡ Some a → IsRight windows stands a ⊎ but k
  pub numbers : (name : List ℕ) (n : ℕ) → windows name ≡ Some n → n ≤ LAST_WINDOW
  pub kept : (name : List ℕ) (n : ℕ) → windows name ≡ Some n →
      ((k : ℕ) (a : Watch) → who k ≡ Some a → a.name ≢ name) → n ≡ 0

-- where chests stand elsewhere
pub restood : {but more : ℕ → Type 0} {who : ℕ → Option Watch} {windows : List ℕ → Option ℕ}
    {stands later : Cell → Bool} →
    ((k : ℕ) (a : Watch) → who k ≡ Some a → IsRight windows stands a ⊎ but k →
    IsRight windows later a ⊎ more k) →
    AreRight but who windows stands → AreRight more who windows later
restood each r = record {
  apart = r.apart;
  carries = r.carries;
  right = λ k a is. each k a is (r.right k a is);
  numbers = r.numbers;
  kept = r.kept;
}

-- where more chests stand
pub stood : {but : ℕ → Type 0} {who : ℕ → Option Watch} {windows : List ℕ → Option ℕ}
    {stands later : Cell → Bool} → ((cell : Cell) → stands cell ≡ true → later cell ≡ true) →
    AreRight but who windows stands → AreRight but who windows later
stood {but} {who} {windows} {stands} {later} more r = restood (λ k a is right. grown k a right) r
  where
    grown : (k : ℕ) (a : Watch) → IsRight windows stands a ⊎ but k →
        IsRight windows later a ⊎ but k
    grown k a (inl right) = inl (record {
      number = right.number;
      there = λ cell at. more cell (right.there cell at);
    })
    grown k a (inr out) = inr out

-- What is read of one connection and of one name is another, and of all others it is as it was:
-- that player is shown a chest, or none, in a window of a number, or it is gone.
pub record ChangesName (k : ℕ) (name : List ℕ) (chest : Option Cell) (n : ℕ)
    (who now : ℕ → Option Watch) (windows later : List ℕ → Option ℕ) : Type 0 where
  pub was : (a : Watch) → who k ≡ Some a → a.name ≡ name
  pub is : (a : Watch) → now k ≡ Some a → a ≡ record { name = name; chest = chest }
  pub others : (j : ℕ) → j ≢ k → now j ≡ who j
  pub alone : (j : ℕ) (a : Watch) → j ≢ k → who j ≡ Some a → a.name ≢ name
  pub window : later name ≡ Some n
  pub rest : (other : List ℕ) → other ≢ name → later other ≡ windows other
  pub number : is_some chest ≡ not (n == 0)
  pub low : n ≤ LAST_WINDOW
  pub gone : now k ≡ None → n ≡ 0

module _ {but : ℕ → Type 0} {who now : ℕ → Option Watch} {windows later : List ℕ → Option ℕ}
    {stands : Cell → Bool} (k : ℕ) (name : List ℕ) (chest : Option Cell) (n : ℕ)
    (c : ChangesName k name chest n who now windows later)
    (r : AreRight but who windows stands) where
  before : (j : ℕ) (a : Watch) → j ≢ k → now j ≡ Some a → who j ≡ Some a
  before j a ne is = sym (c.others j ne) ∙ is

  other : (j : ℕ) (a : Watch) → j ≢ k → now j ≡ Some a → a.name ≢ name
  other j a ne is = c.alone j a ne (before j a ne is)

  mine : (j : ℕ) (a : Watch) → j ≡ k → now j ≡ Some a → a.name ≡ name
  mine j a same is = ap (λ (x : Watch). x.name) (c.is a (ap now (sym same) ∙ is))

  apart_each : (i j : ℕ) (a b : Watch) → now i ≡ Some a → now j ≡ Some b → i ≢ j →
      a.name ≢ b.name
  apart_each i j a b is too ne same =
      grind (arith, nat_tests, cases_eq i k, cases_eq j k, other, mine, before, r.apart i j a b)

  carries_each : (j : ℕ) (a : Watch) → now j ≡ Some a → is_some (later a.name) ≡ true
  carries_each j a is =
      grind (arith, nat_tests, cases_eq j k, c, other, mine, before, r.carries j a)

  kept_each : (any : List ℕ) (m : ℕ) → later any ≡ Some m →
      ((j : ℕ) (a : Watch) → now j ≡ Some a → a.name ≢ any) → m ≡ 0
  kept_each any m is nobody = elim (name_cases any name) [
    | inl same ↦ grind (arith, nat_tests, c.window, c.gone, mine k, nobody k)
    | inr ne ↦ r.kept any m (sym (c.rest any ne) ∙ is) (λ j a there same.
        grind (arith, nat_tests, cases_eq j k, c.was a, c.others j, nobody j a))
  ]

  -- all are shown chests as they should be, if the chest stands there; it may have been left out
  pub renamed : {more : ℕ → Type 0} → ((cell : Cell) → chest ≡ Some cell → stands cell ≡ true) →
      ((j : ℕ) → j ≢ k → but j → more j) → AreRight more now later stands
  renamed {more} there free = record {
    apart = apart_each;
    carries = carries_each;
    right = λ j a is. elim (cases_eq j k) [
      | inl at ↦ inl (subst (IsRight later stands) (sym (c.is a (ap now (sym at) ∙ is)))
          (record { number = grind (arith, nat_tests, c.number, c.window); there = there }))
      | inr ne ↦ elim (r.right j a (before j a ne is)) [
        | inl right ↦ inl (record {
          number = right.number ∙ ap (λ (o : Option ℕ). not (unwrap_or o 0 == 0))
              (sym (c.rest a.name (other j a ne is)));
          there = right.there;
        })
        | inr out ↦ inr (free j ne out)
      ]
    ];
    numbers = λ any m is.
        grind (arith, nat_tests, name_cases any name, c.window, c.low, c.rest, r.numbers any m);
    kept = kept_each;
  }
