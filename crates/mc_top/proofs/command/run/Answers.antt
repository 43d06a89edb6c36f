use Rattle.std.proofs.Common.{sym}
use Rattle.mc_words.specs.Arguments.{bytes_of}
use Rattle.mc_top.proofs.Settings.{named_is_set}
use Rattle.mc_top.proofs.command.run.Goals as goal

pub perform-requires : goal.perform-requires
perform-requires g c = named_is_set (bytes_of c.args.arguments.now) c.read.result c.in-Some.command
    (sym c.read.ensures) c.in-Some.is
