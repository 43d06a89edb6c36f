-- Reading a value of NBT from the front of some bytes: the value and the bytes after it, or the
-- first fault.
use Rattle.std.specs.Prelude.{ℕ, ℤ, zero, suc, ◌-◌, ◌^◌, Bool, ◌==◌, List, length, take, drop}
use Rattle.std.specs.Prelude.{Option, Some, None, nat_lt, nat_le, Ok, Err, if◌then◌else◌}
use Rattle.std.specs.Int.{Width, w8, w16, w32, w64, cast_signed}
use Rattle.mc_bytes.specs.declared.fault.Kind.TheVariants.{Short, BadTag, BadLength, Deep}
use Rattle.mc_bytes.specs.Reading.{Field, ◌>>=◌, stop_at}
use Rattle.mc_bytes.specs.CombineBytes.{tested_read, view_read}
use Rattle.mc_bytes.specs.NumberBytes.{number_read}
use Rattle.mc_bytes.specs.Times.{times_at, until_at}
use Rattle.mc_nbt.specs.Tree.{Tree, byte, short, int, long, float, double, byte_array, text, list}
use Rattle.mc_nbt.specs.Tree.{compound, int_array, trees_of, members_of}
use Rattle.mc_nbt.specs.Nbt.{Named, named, deepest}

-- ---- what values are made of

unfoldable pub signed_at : Width → List ℕ → Field ℤ
signed_at w bytes = view_read (number_read w) (cast_signed w) bytes

-- a length, and so many bytes as they are: Short at the length where fewer are left
unfoldable pub run_at : (List ℕ → Field ℕ) → List ℕ → Field (List ℕ)
run_at count bytes = do
  n ← count bytes
  if nat_lt (length n.1) n.0 then Err (stop_at Short bytes) else Ok (take n.0 n.1, drop n.0 n.1)

-- a tag byte
abbrev pub is_kind : ℕ → Bool
is_kind kind = nat_le kind 11

unfoldable pub kind_at : List ℕ → Field ℕ
kind_at bytes = tested_read (number_read w8) is_kind BadTag bytes

-- a number of items, where a list of End has none
abbrev pub is_count_of : ℕ → ℕ → Bool
is_count_of kind n = if kind == 0 then n == 0 else nat_lt n (2 ^ 31)

unfoldable pub count_at : ℕ → List ℕ → Field ℕ
count_at kind bytes = tested_read (number_read w32) (is_count_of kind) BadLength bytes

-- a name, or a text
unfoldable pub name_at : List ℕ → Field (List ℕ)
name_at bytes = run_at (number_read w16) bytes

unfoldable pub bytes_at : List ℕ → Field (List ℕ)
bytes_at bytes = run_at (count_at 7) bytes

unfoldable pub ints_at : List ℕ → Field (List ℤ)
ints_at bytes = do
  n ← count_at 11 bytes
  times_at (signed_at w32) n.0 n.1

-- a value with no others in it
unfoldable pub leaf_at : ℕ → List ℕ → Field Tree
leaf_at kind bytes =
    if kind == 1 then view_read (signed_at w8) byte bytes
    else if kind == 2 then view_read (signed_at w16) short bytes
    else if kind == 3 then view_read (signed_at w32) int bytes
    else if kind == 4 then view_read (signed_at w64) long bytes
    else if kind == 5 then view_read (number_read w32) float bytes
    else if kind == 6 then view_read (number_read w64) double bytes
    else if kind == 7 then view_read bytes_at byte_array bytes
    else if kind == 8 then view_read name_at text bytes
    else if kind == 11 then view_read ints_at int_array bytes
    else Err (stop_at BadTag bytes)

-- ---- lists and compounds, over the reading of a value of a kind

unfoldable pub list_at : (ℕ → List ℕ → Field Tree) → List ℕ → Field Tree
list_at value bytes = do
  kind ← kind_at bytes
  count ← count_at kind.0 kind.1
  ts ← times_at (value kind.0) count.0 count.1
  Ok (list kind.0 (trees_of ts.0), ts.1)

-- a name and a value
unfoldable pub named_at : (List ℕ → Field Tree) → List ℕ → Field (List ℕ × Tree)
named_at value bytes = do
  name ← name_at bytes
  t ← value name.1
  Ok ((name.0, t.0), t.1)

-- an entry of a compound, or its end
unfoldable pub member_at : (ℕ → List ℕ → Field Tree) → List ℕ → Field (Option (List ℕ × Tree))
member_at value bytes = do
  kind ← kind_at bytes
  if kind.0 == 0 then Ok (None, kind.1)
      else view_read (named_at (value kind.0)) (λ (m : List ℕ × Tree). Some m) kind.1

unfoldable pub members_at : (ℕ → List ℕ → Field Tree) → List ℕ → Field (List (List ℕ × Tree))
members_at value bytes = until_at (member_at value) (suc (length bytes)) bytes

unfoldable pub compound_at : (ℕ → List ℕ → Field Tree) → List ℕ → Field Tree
compound_at value bytes =
    view_read (members_at value) (λ (ms : List (List ℕ × Tree)). compound (members_of ms)) bytes

-- ---- a value

abbrev pub too_deep : List ℕ → Field Tree
too_deep bytes = Err (stop_at Deep bytes)

unfoldable pub payload_at : (List ℕ → Field Tree) → (List ℕ → Field Tree) → ℕ → List ℕ → Field Tree
payload_at list_read compound_read kind bytes =
    if kind == 9 then list_read bytes
    else if kind == 10 then compound_read bytes
    else leaf_at kind bytes

-- room is how many more lists and compounds may be open
unfoldable pub value_at : ℕ → ℕ → List ℕ → Field Tree
value_at zero kind bytes = payload_at too_deep too_deep kind bytes
value_at (suc room) kind bytes =
    payload_at (list_at (value_at room)) (compound_at (value_at room)) kind bytes

-- ---- a named compound

abbrev pub is_compound : ℕ → Bool
is_compound kind = kind == 10

unfoldable pub root_at : List ℕ → Field ℕ
root_at bytes = tested_read (number_read w8) is_compound BadTag bytes

unfoldable pub nbt_at : List ℕ → Field Named
nbt_at bytes = do
  kind ← root_at bytes
  name ← name_at kind.1
  members ← members_at (value_at (deepest - 1)) name.1
  Ok (named name.0 members.0, members.1)
