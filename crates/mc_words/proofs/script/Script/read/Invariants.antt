use Rattle.std.specs.Prelude.{option_map}
use Rattle.mc_text.proofs.Reading.{left_size}
use Rattle.mc_words.proofs.Scripts.{HasScript}
use Rattle.mc_words.proofs.script.Script.read.Given as goal

abbrev pub invariant-loop-rest : goal.invariant-loop-rest
invariant-loop-rest l =
    HasScript l.fn.text l.count l.size l.before (option_map (λ r. r.now) l.rest) l.events.items

abbrev pub decreases-loop-rest : goal.decreases-loop-rest
decreases-loop-rest l = left_size (option_map (λ r. r.now) l.rest)
