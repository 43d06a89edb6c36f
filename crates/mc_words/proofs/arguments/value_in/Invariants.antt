use Rattle.std.proofs.Common.{◌≡◌, drop}
use Rattle.mc_words.specs.Arguments.{value_in, bytes_of}
use Rattle.mc_words.proofs.arguments.value_in.Given as goal

abbrev pub invariant-loop-argument : goal.invariant-loop-argument
invariant-loop-argument l = value_in l.name (bytes_of (drop l.argument-index l.arguments))
    ≡ value_in l.name (bytes_of l.arguments)
