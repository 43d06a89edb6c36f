use Rattle.std.specs.Prelude.{option_map}
use Rattle.mc_text.proofs.Reading.{left_size}
use Rattle.mc_bot.proofs.Scripts.{HasLines}
use Rattle.mc_bot.proofs.begun.Begun.take_all.Given as goal

abbrev pub invariant-loop-rest : goal.invariant-loop-rest
invariant-loop-rest l =
    HasLines l.fn.text l.fn.self l.number l.size l.self (option_map (λ r. r.now) l.rest)

abbrev pub decreases-loop-rest : goal.decreases-loop-rest
decreases-loop-rest l = left_size (option_map (λ r. r.now) l.rest)
