-- The list of players as contracts see it: the entries of now, and those at the last settling.
use Rattle.std.specs.Prelude.{ℕ, List, refl}
use Rattle.std.specs.Coded.{Coded, code_by, coded×, coded_ℕ, coded_list}
use Rattle.std.specs.FinMap as map
use Rattle.std.specs.FinMap.{empty, from_entries, insert, remove}
use Rattle.mc_model.specs.Delta.{Pairs}

pub record ListValue : Type 0 where
  -- each name, by its identifier
  pub present : Pairs
  pub last : Pairs

abbrev pub coded_pairs : Coded Pairs
coded_pairs = map.code coded_ℕ (coded_list coded_ℕ)

abbrev pub coded_list_value : Coded ListValue
coded_list_value =
    code_by (Pairs × Pairs) (coded× coded_pairs coded_pairs) (λ list. (list.present, list.last))
    (λ parts. record { present = parts.0; last = parts.1 })
    (λ list. refl)

-- nobody, now and before
abbrev pub new_list : ListValue
new_list = record { present = empty; last = empty }

-- with one more name, and without one
abbrev pub with_name : ListValue → ℕ → List ℕ → ListValue
with_name list uuid name = record list { present = insert list.present uuid name }

abbrev pub without_name : ListValue → ℕ → ListValue
without_name list uuid = record list { present = remove list.present uuid }

-- the entries of now are those at the last settling
abbrev pub settled_list : ListValue → ListValue
settled_list list = record list { last = list.present }

-- the list with these entries, in any order; no identifier stands in one of them twice
abbrev pub kept_list : List (ℕ × List ℕ) → List (ℕ × List ℕ) → ListValue
kept_list now last = record { present = from_entries now; last = from_entries last }
