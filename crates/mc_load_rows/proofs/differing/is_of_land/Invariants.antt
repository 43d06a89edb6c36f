use Rattle.mc_load_rows.proofs.differing.is_of_land.Given as goal

-- the ledger of the counter
abbrev pub ghosts-is_seen_at : goal.ghosts-is_seen_at
ghosts-is_seen_at a = record { name = a.blank.name; parts = a.blank.parts }
