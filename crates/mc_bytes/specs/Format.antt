-- A format: which bytes spell a value, what reading gives, what writing appends, and the laws that
-- tie the three (a form of this project).
use Rattle.std.specs.Prelude.{◌≡◌, ℕ, ◌≤◌, List, [], ◌++◌, length, Ok}
use Rattle.mc_bytes.specs.Reading.{Field, IsBytes}

-- what may follow a value: anything, where its spelling says where it ends
abbrev pub Anything : List ℕ → Type 0
Anything rest = Unit {0}

-- nothing, where it goes to the end of the bytes
abbrev pub Nothing : List ℕ → Type 0
Nothing rest = rest ≡ []

-- the value that was read is spelled by the front of the bytes, and the rest is what follows
pub record Found {A : Type 0} (spells : A → List ℕ → Type 0) (bytes : List ℕ) (x : A × List ℕ) :
    Type 0 where
  pub front : List ℕ
  pub parts : bytes ≡ front ++ x.1
  pub spelled : spells x.0 front
  pub rest_fits : IsBytes x.1

-- what is read is spelled so
abbrev pub IsFound : {A : Type 0} → (A → List ℕ → Type 0) → (List ℕ → Field A) → Type 0
IsFound {A} spells read =
    (bytes : List ℕ) (x : A × List ℕ) → IsBytes bytes → read bytes ≡ Ok x → Found spells bytes x

-- what is spelled so is read, and nothing else: a spelling has one value
abbrev pub IsOnly : {A : Type 0} → (List ℕ → Type 0) → (A → List ℕ → Type 0) → (List ℕ → Field A)
    → Type 0
IsOnly {A} Rest spells read =
    (a : A) (front rest : List ℕ) → Rest rest → spells a front → read (front ++ rest) ≡ Ok (a, rest)

-- writing appends the one spelling that is chosen
abbrev pub IsAppended : {A : Type 0} → (A → List ℕ) → (A → List ℕ → List ℕ) → Type 0
IsAppended {A} spelling append = (a : A) (out : List ℕ) → append a out ≡ out ++ spelling a

-- no spelling of a value has more bytes than this says of it
abbrev pub IsBounded : {A : Type 0} → (A → List ℕ → Type 0) → (A → ℕ) → Type 0
IsBounded {A} spells most = (a : A) (bytes : List ℕ) → spells a bytes → length bytes ≤ most a

-- The format of a value of type A, which Rest may follow
pub record Format (Rest : List ℕ → Type 0) (A : Type 0) : Type 1 where
  -- these bytes spell the value
  pub spells : A → List ℕ → Type 0
  -- what reading the front of some bytes gives
  pub read : List ℕ → Field A
  -- the value has a spelling
  pub fits : A → Type 0
  -- the one that is written
  pub spelling : A → List ℕ
  -- the bytes with it at their end, put there field by field
  pub append : A → List ℕ → List ℕ
  -- how many bytes a spelling of the value has at most
  pub most : A → ℕ
  pub found : IsFound spells read
  pub only : IsOnly Rest spells read
  pub fit : (a : A) (bytes : List ℕ) → spells a bytes → fits a
  pub spelled : (a : A) → fits a → spells a (spelling a)
  pub appended : IsAppended spelling append
  pub bounded : IsBounded spells most
