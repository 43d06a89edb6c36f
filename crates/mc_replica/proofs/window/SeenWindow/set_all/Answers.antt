use Rattle.mc_replica.proofs.window.SeenWindow.set_all.Goals as goal

pub returns-then-number-eq0 : goal.returns-then-number-eq0
returns-then-number-eq0 c = rw c.if-number-eq0.true c.in_ok-set_all_own.ensures
