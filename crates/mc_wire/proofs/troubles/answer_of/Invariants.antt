use Rattle.std.proofs.Common.{◌≡◌, drop}
use Rattle.mc_wire.specs.Troubles.{write_answer}
use Rattle.mc_wire.proofs.troubles.answer_of.Given as goal

-- the troubles that are left decide as all of them do
abbrev pub invariant-loop-trouble : goal.invariant-loop-trouble
invariant-loop-trouble l =
    write_answer (drop l.trouble-index l.troubles) l.number l.size ≡
    write_answer l.troubles l.number l.size
