use Rattle.std.proofs.Common.{ap, ◌∙◌, length, refl}
use Rattle.mc_replica.proofs.Sections.{none_in, section_len}
use Rattle.mc_replica.proofs.counting.blocks_at.Goals as goal

pub blocks_of-requires : goal.blocks_of-requires
blocks_of-requires c =
    ap length c.in-Some.ensures.some
    ∙ section_len c.args.column.now.states c.args.i c.requires.sized.states_are c.requires.inside

pub returns-in-None-clause-value : goal.returns-in-None-clause-value
returns-in-None-clause-value c =
    none_in c.args.column.now.states c.args.i (c.in-None.ensures.none.0 refl)
