use Rattle.mc_measure.proofs.playing.hear.Goals as goal

pub returns-clause-played : goal.returns-clause-played
returns-clause-played g c w st = c.play.ensures.played w (λ i. (c.type_inv.bytes i).fits, tt) st
