use Rattle.std.proofs.Common.{◌≡◌, drop}
use Rattle.mc_wire.specs.LinkTroubles.{read_fate}
use Rattle.mc_wire.proofs.link_troubles.fate_of.Given as goal

-- the troubles that are left decide as all of them do
abbrev pub invariant-loop-trouble : goal.invariant-loop-trouble
invariant-loop-trouble l =
    read_fate (drop l.trouble-index l.troubles) l.number ≡ read_fate l.troubles l.number
