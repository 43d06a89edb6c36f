use Rattle.mc_scenes.proofs.flushes.tell.Given as goal

-- the ledger of the counter
abbrev pub ghosts-flushed : goal.ghosts-flushed
ghosts-flushed a = record { name = a.blank.name; parts = a.blank.parts }
