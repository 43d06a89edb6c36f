use Rattle.mc_flush.proofs.windows.put_items.Goals as goal

pub returns-in-None : goal.returns-in-None
returns-in-None c = rw c.in-None.is c.put_own_items.ensures
