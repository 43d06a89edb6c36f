use Rattle.mc_play.proofs.ground.Ground.state.Given as goal

-- the ledger of the counter
abbrev pub ghosts-state_of : goal.ghosts-state_of
ghosts-state_of a = record { name = a.blank.name; parts = a.blank.parts }
