use Rattle.std.proofs.Common.{append_assoc}
use Rattle.mc_words.proofs.refusal.Refusal.last_line.Goals as goal

pub returns : goal.returns
returns c = simp append_assoc c.in_ok-format.ensures.ok
