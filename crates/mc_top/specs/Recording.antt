-- What serving with a capture comes to, before it is said how the command ends by it. Rules of this
-- project.
use Rattle.std.specs.Prelude.{Bool, Result, Ok, Err, if◌then◌else◌}
use Rattle.mc_server.specs.declared.service.DriveFault.{DriveFault}
use Rattle.mc_server.specs.declared.service.DriveFault.TheVariants.{Listen, Next}
use Rattle.mc_server.specs.declared.service.Ended as drives
use Rattle.mc_words.specs.declared.ended.Ended.{Ended}
use Rattle.mc_words.specs.declared.ended.Ended.TheVariants as ended
use Rattle.mc_top.specs.ServePromise.{ended_by}

-- a call of the lobby failed
abbrev pub IsLost : Result drives.Ended DriveFault → Type 0
IsLost (Err Listen) = Unit {0}
IsLost (Err Next) = Unit {0}
IsLost other = ⊥

-- how the command ends where serving ended so
abbrev pub ended_by_end : Result drives.Ended DriveFault → Ended
ended_by_end (Ok end) = ended.Done
ended_by_end (Err fault) = ended_by fault

-- and the output failed or did not
abbrev pub ended_recording : Bool → Result drives.Ended DriveFault → Ended
ended_recording failed end = if failed then ended.WriteFault else ended_by_end end
