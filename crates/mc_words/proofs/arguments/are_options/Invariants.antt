use Rattle.std.proofs.Common.{◌≡◌, drop, map}
use Rattle.mc_words.specs.Arguments.{are_options, bytes_of}
use Rattle.mc_words.proofs.arguments.are_options.Given as goal

abbrev pub invariant-loop-i : goal.invariant-loop-i
invariant-loop-i l =
    are_options (map (λ known. known.now) l.names) (bytes_of (drop l.i l.arguments))
    ≡ are_options (map (λ known. known.now) l.names) (bytes_of l.arguments)
