use Rattle.std.proofs.Common.{sym}
use Rattle.mc_column.proofs.Pairs.{get_or-paired}
use Rattle.mc_column.proofs.section.state_at.Goals as goal

pub returns : goal.returns
returns c = rw (c.from.ensures, c.from-2.ensures)
    (sym (get_or-paired c.args.bytes.now c.args.i c.requires))
