-- Finite maps of which one value is changed, or each by its key; and the order of names. Rules of
-- this project.
use Rattle.std.specs.Prelude.{ℕ, List, map, Option, Some, None, option_map}
use Rattle.std.specs.declared.cmp.Ordering.{Ordering}
use Rattle.std.specs.Ordering.{nat_cmp}
use Rattle.std.specs.Cmp.Lexicographic.{slice_cmp}
use Rattle.std.specs.FinMap.{FinMap, get, insert, entries, from_entries}

-- names stand in the order of their bytes
abbrev pub name_cmp : List ℕ → List ℕ → Ordering
name_cmp = slice_cmp nat_cmp

-- a key has a value, where one is given
abbrev pub with_value : {K X : Type 0} {R : K → K → Ordering} →
    FinMap R X → K → Option X → FinMap R X
with_value m k None = m
with_value m k (Some x) = insert m k x

-- the value of a key changed, where it has one
abbrev pub modify : {K X : Type 0} {R : K → K → Ordering} → K → (X → X) → FinMap R X → FinMap R X
modify k f m = with_value m k (option_map f (get m k))

-- the value of each key changed by what the key and the value are
unfoldable pub map_keyed : {K X Y : Type 0} {R : K → K → Ordering} →
    (K → X → Y) → FinMap R X → FinMap R Y
map_keyed {K} {X} f m = from_entries (map (λ (e : K × X). (e.0, f e.0 e.1)) (entries m))
