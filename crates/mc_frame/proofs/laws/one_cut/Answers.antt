use Rattle.std.proofs.Common.{◌+◌, arith, length}
use Rattle.mc_frame.proofs.Cuts.{cut_exists, unique}
use Rattle.mc_frame.proofs.laws.one_cut.Goals as goal

pub returns-clause-exists : goal.returns-clause-exists
returns-clause-exists c stream fits = cut_exists (length stream + 1) 0 stream (omega arith) fits

pub returns-clause-unique : goal.returns-clause-unique
returns-clause-unique c stream cut other = unique 0 stream cut.frames cut.rest cut.fault
    other.frames other.rest other.fault
