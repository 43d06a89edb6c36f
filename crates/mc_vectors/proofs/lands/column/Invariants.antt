use Rattle.mc_vectors.proofs.lands.column.Given as goal

-- the ledger of the counter
abbrev pub ghosts-shown : goal.ghosts-shown
ghosts-shown a = record { name = a.blank.name; parts = a.blank.parts }
