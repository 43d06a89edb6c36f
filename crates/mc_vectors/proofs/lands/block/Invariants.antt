use Rattle.mc_vectors.proofs.lands.block.Given as goal

-- the ledger of the counter
abbrev pub ghosts-counted : goal.ghosts-counted
ghosts-counted a = record { name = a.blank.name; parts = a.blank.parts }
