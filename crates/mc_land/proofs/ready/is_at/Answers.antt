use Rattle.std.proofs.Common.{sym}
use Rattle.std.proofs.lemmas.Bool.{ltb-true, ltb-false}
use Rattle.mc_land.proofs.TouchFacts.{is_at_there, is_at_past}
use Rattle.mc_land.proofs.ready.is_at.Goals as goal

pub returns-in-Some : goal.returns-in-Some
returns-in-Some c = is_at_there _ _ _ _ (ltb-true _ _ (sym c.in-Some.ensures.lookup.0))
    c.in-Some.ensures.lookup.1

pub returns-in-None : goal.returns-in-None
returns-in-None c = is_at_past _ _ _ (ltb-false _ _ (sym c.in-None.ensures.lookup.0))
