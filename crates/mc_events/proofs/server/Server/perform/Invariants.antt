use Rattle.mc_events.proofs.server.Server.perform.Given as goal

-- the ledger of the counter
abbrev pub ghosts-count_tick : goal.ghosts-count_tick
ghosts-count_tick g a = record { name = a.blank.name; parts = a.blank.parts }
