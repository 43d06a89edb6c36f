-- Named binary tags: which bytes spell a value. (The page 'NBT' of wiki.vg; the limit on nesting is
-- a rule of this project.)
use Rattle.std.specs.Prelude.{◌≡◌, ℕ, ℤ, ◌<◌, ◌≤◌, ◌^◌, suc, List, [], ◌∷◌, ◌++◌, length}
use Rattle.std.specs.Prelude.{FitsSigned}
use Rattle.std.specs.Int.{Width, w8, w16, w32, w64, cast_unsigned}
use Rattle.mc_nbt.specs.declared.values.limits.TheConstants.{DEPTH_MAX}
use Rattle.mc_bytes.specs.NumberBytes.{number_spelling}
use Rattle.mc_nbt.specs.Tree.{Tree, byte, short, int, long, float, double, byte_array, text, list}
use Rattle.mc_nbt.specs.Tree.{compound, int_array, Trees, no_trees, one_tree, Members, no_members}
use Rattle.mc_nbt.specs.Tree.{one_member, members_of, kind_of, depth}

-- how many lists and compounds may stand in one another
abbrev pub deepest : ℕ
deepest = DEPTH_MAX

-- a signed number as its two's complement, the highest byte first
abbrev pub signed_spelling : Width → ℤ → List ℕ
signed_spelling w z = number_spelling w (cast_unsigned w z)

-- a length of that width, and so many bytes as they are
abbrev pub run_spelling : Width → List ℕ → List ℕ
run_spelling w bytes = number_spelling w (length bytes) ++ bytes

abbrev pub ints_spelling : List ℤ → List ℕ
ints_spelling [] = []
ints_spelling (z ∷ zs) = signed_spelling w32 z ++ ints_spelling zs

abbrev pub count_of : Trees → ℕ
count_of no_trees = 0
count_of (one_tree t ts) = suc (count_of ts)

-- ---- the bytes of a value, without its tag byte and name

abbrev mutual
  pub payload : Tree → List ℕ
  payload (byte z) = signed_spelling w8 z
  payload (short z) = signed_spelling w16 z
  payload (int z) = signed_spelling w32 z
  payload (long z) = signed_spelling w64 z
  payload (float n) = number_spelling w32 n
  payload (double n) = number_spelling w64 n
  payload (byte_array bytes) = run_spelling w32 bytes
  payload (text bytes) = run_spelling w16 bytes
  payload (list kind ts) =
      number_spelling w8 kind ++ (number_spelling w32 (count_of ts) ++ trees_payload ts)
  payload (compound ms) = members_payload ms
  payload (int_array zs) = number_spelling w32 (length zs) ++ ints_spelling zs

  -- the items of a list, one after another
  pub trees_payload : Trees → List ℕ
  trees_payload no_trees = []
  trees_payload (one_tree t ts) = payload t ++ trees_payload ts

  -- each tag byte, name and value of a compound, and the byte of its end
  pub members_payload : Members → List ℕ
  members_payload no_members = number_spelling w8 0
  members_payload (one_member name t ms) =
      number_spelling w8 (kind_of t) ++ (run_spelling w16 name ++ (payload t ++ members_payload ms))

-- ---- what has a spelling

abbrev pub AllFitSigned : Width → List ℤ → Type 0
AllFitSigned w [] = Unit {0}
AllFitSigned w (z ∷ zs) = FitsSigned w z × AllFitSigned w zs

abbrev mutual
  pub Fits : Tree → Type 0
  Fits (byte z) = FitsSigned w8 z
  Fits (short z) = FitsSigned w16 z
  Fits (int z) = FitsSigned w32 z
  Fits (long z) = FitsSigned w64 z
  Fits (float n) = n < 2 ^ 32
  Fits (double n) = n < 2 ^ 64
  Fits (byte_array bytes) = length bytes < 2 ^ 31
  Fits (text bytes) = length bytes < 2 ^ 16
  Fits (list kind ts) = (kind ≤ 11) × (count_of ts < 2 ^ 31) × TreesFit kind ts
  Fits (compound ms) = MembersFit ms
  Fits (int_array zs) = (length zs < 2 ^ 31) × AllFitSigned w32 zs

  -- the items of a list are of its own kind; no value is of kind 0, so a list of that kind is empty
  pub TreesFit : ℕ → Trees → Type 0
  TreesFit kind no_trees = Unit {0}
  TreesFit kind (one_tree t ts) = (kind_of t ≡ kind) × Fits t × TreesFit kind ts

  pub MembersFit : Members → Type 0
  MembersFit no_members = Unit {0}
  MembersFit (one_member name t ms) = (length name < 2 ^ 16) × Fits t × MembersFit ms

-- ---- the relations

-- these bytes spell the value of a tag of that kind, where so many more lists and compounds may be
-- open
pub record Spells (room kind : ℕ) (t : Tree) (bytes : List ℕ) : Type 0 where
  pub is_kind : kind_of t ≡ kind
  pub fits : Fits t
  pub nests : depth t ≤ room
  pub bytes_are : bytes ≡ payload t

-- a compound with a name
pub record Named : Type 0 where
  pub name : List ℕ
  pub entries : List (List ℕ × Tree)

abbrev pub named : List ℕ → List (List ℕ × Tree) → Named
named name entries = record { name = name; entries = entries }

abbrev pub root_of : Named → Tree
root_of value = compound (members_of value.entries)

-- what has a spelling: the outermost compound has depth 1
pub record IsNbt (value : Named) : Type 0 where
  pub name : length value.name < 2 ^ 16
  pub fits : Fits (root_of value)
  pub nests : depth (root_of value) ≤ deepest

-- the tag byte of a compound, its name and its value
abbrev pub nbt_spelling : Named → List ℕ
nbt_spelling value =
    number_spelling w8 10 ++ (run_spelling w16 value.name ++ payload (root_of value))

pub record SpellsNbt (value : Named) (bytes : List ℕ) : Type 0 where
  pub is_nbt : IsNbt value
  pub bytes_are : bytes ≡ nbt_spelling value
