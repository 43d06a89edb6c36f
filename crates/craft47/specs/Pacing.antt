-- What the mobs of the program do: two go to and fro for so many rounds, and then stand. Rules of
-- this project.
use Rattle.std.specs.Prelude.{ℕ, List, [], ◌∷◌, ◌++◌, replicate}
use Rattle.std.specs.List.{flat_map}
use Rattle.mc_entities.specs.declared.mind.Move.{Move}
use Rattle.craft47.specs.declared.pacer.Pacer.{Pacer}
use Rattle.craft47.specs.declared.pacer.TheConstants.{EAST, ROUNDS, WAY, WEST}

-- so many rounds, each of 20 moves to the east and as many to the west
abbrev pub rounds : ℕ → List Move
rounds n = flat_map (λ round. round) (replicate n (replicate WAY EAST ++ replicate WAY WEST))

-- what is left for one to do: the rest of a round, and the rounds after it
abbrev pub left_of : Pacer → List Move
left_of pacer = replicate pacer.east EAST ++ replicate pacer.west WEST ++ rounds pacer.rounds

-- the plans of the two
abbrev pub pacing : List (List Move)
pacing = rounds ROUNDS ∷ rounds ROUNDS ∷ []
