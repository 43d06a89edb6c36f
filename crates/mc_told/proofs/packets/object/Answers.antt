use Rattle.std.proofs.Common.{rules, Fits, FitsSigned}
use Rattle.std.specs.Int.{w8, w32}
use Rattle.std.proofs.lemmas.Int.{to_z-of_z}
use Rattle.mc_model.proofs.FitsEntities.{object_clear}
use Rattle.mc_told.proofs.packets.object.Goals as goal

pub returns-clause-clear : goal.returns-clause-clear
returns-clause-clear c =
    let s = c.args.spot.now in
    let x : FitsSigned w32 s.x = search rules in
    let y : FitsSigned w32 s.y = search rules in
    let z : FitsSigned w32 s.z = search rules in
    let yaw : Fits w8 s.yaw = search rules in
    let pitch : Fits w8 s.pitch = search rules in
    rw (
      to_z-of_z w32 c.args.eid c.ranges.eid,
      to_z-of_z w32 s.x x,
      to_z-of_z w32 s.y y,
      to_z-of_z w32 s.z z,
    ) (object_clear c.args.eid s.x s.y s.z s.yaw s.pitch c.ranges.eid x y z yaw.fits pitch.fits)
