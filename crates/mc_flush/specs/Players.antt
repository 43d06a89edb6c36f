-- Which players of a list another list has not, looked at one after another.
use Rattle.std.specs.Prelude.{ℕ, Bool, not, cond, List, Option, Some}
use Rattle.std.specs.Ordering.{nat_cmp, eq_by_cmp}
use Rattle.std.specs.FinMap.{find}
use Rattle.mc_model.specs.Delta.{is_named}

-- others have not this name under an identifier
abbrev pub is_other : List (ℕ × List ℕ) → ℕ → List ℕ → Bool
is_other others uuid name = not (is_named (find nat_cmp uuid others) name)

-- what is kept under q after a player was looked at: its name, where q is its identifier and the
-- others have not this name under it
abbrev pub with_other : List (ℕ × List ℕ) → ℕ → List ℕ → Option (List ℕ) → ℕ → Option (List ℕ)
with_other others uuid name old q =
    cond (is_other others uuid name) (cond (eq_by_cmp nat_cmp q uuid) (Some name) old) old
