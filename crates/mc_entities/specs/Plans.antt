-- What minds still mean to do, and the moves that they are asked for (rules of this project).
use Rattle.std.specs.Prelude.{ℕ, Bool, List, [], ◌∷◌, ◌++◌, map, take, drop, slice_index_or}
use Rattle.std.specs.Prelude.{slice_set, if◌then◌else◌}
use lib.IntN.{pos}
use Rattle.mc_entities.specs.declared.mind.Move.{Move}

abbrev pub no_move : Move
no_move = record { dx = pos 0; dy = pos 0; dz = pos 0 }

-- the first move of a plan; no move where it is spent
abbrev pub first_move : List Move → Move
first_move [] = no_move
first_move (by ∷ plan) = by

-- what is left of a plan after its first move
abbrev pub rest_of : List Move → List Move
rest_of [] = []
rest_of (by ∷ plan) = plan

-- the first move of the i-th plan; no move where there are not so many
abbrev pub move_at : List (List Move) → ℕ → Move
move_at plans i = first_move (slice_index_or plans i [])

-- the first n plans have lost their first moves, and the others are as they were
abbrev pub asked : ℕ → List (List Move) → List (List Move)
asked n plans = map rest_of (take n plans) ++ drop n plans

-- the i-th plan has lost its first move
abbrev pub asked_at : ℕ → List (List Move) → List (List Move)
asked_at i plans = slice_set plans i (rest_of (slice_index_or plans i []))

-- likewise where it is so
abbrev pub asked_by : Bool → ℕ → List (List Move) → List (List Move)
asked_by b i plans = if b then asked_at i plans else plans
