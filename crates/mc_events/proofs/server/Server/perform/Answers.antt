use Rattle.std.proofs.Common.{refl}
use Rattle.mc_events.proofs.Reached.{plans_stay}
use Rattle.mc_events.proofs.server.Server.perform.Goals as goal

pub returns-in-Join-clause-plans : goal.returns-in-Join-clause-plans
returns-in-Join-clause-plans g c = λ w s same.
    rw c.in-Join.is (plans_stay c.join.result w _ _ _ refl s.reached same)

pub returns-in-Bytes-clause-plans : goal.returns-in-Bytes-clause-plans
returns-in-Bytes-clause-plans g c = λ w s same.
    rw c.in-Bytes.is (plans_stay c.bytes.result w _ _ _ refl s.reached same)

pub returns-in-Gone-clause-plans : goal.returns-in-Gone-clause-plans
returns-in-Gone-clause-plans g c = λ w s same.
    rw c.in-Gone.is (plans_stay c.leave.result w _ _ _ refl s.reached same)

pub returns-in-Broke-clause-plans : goal.returns-in-Broke-clause-plans
returns-in-Broke-clause-plans g c = λ w s same.
    rw c.in-Broke.is (plans_stay c.leave-in-Broke.result w _ _ _ refl s.reached same)
