use Rattle.std.proofs.Common.{List, rules, Fits, FitsSigned, sym, subst}
use Rattle.std.specs.Int.{w8, w32}
use Rattle.std.proofs.lemmas.Int.{to_z-of_z}
use lib.IntN.{pos}
use Rattle.mc_packets.specs.declared.meta.MetaEntry.{MetaEntry}
use Rattle.mc_packets.specs.declared.down.Down.TheVariants.{SpawnMob}
use Rattle.mc_model.proofs.FitsEntities.{mob_clear}
use Rattle.mc_sending.specs.Sending.{IsClear}
use Rattle.mc_told.proofs.packets.mob.Goals as goal

pub returns-clause-clear : goal.returns-clause-clear
returns-clause-clear c =
    let a = c.args in
    let s = c.args.spot.now in
    let x : FitsSigned w32 s.x = search rules in
    let y : FitsSigned w32 s.y = search rules in
    let z : FitsSigned w32 s.z = search rules in
    let yaw : Fits w8 s.yaw = search rules in
    let pitch : Fits w8 s.pitch = search rules in
    let Clear : List MetaEntry → Type 0 = λ metas. IsClear
    (SpawnMob a.eid 90 s.x s.y s.z s.yaw s.pitch s.yaw (pos 0) (pos 0) (pos 0) metas) in
    rw (
      to_z-of_z w32 a.eid c.ranges.eid,
      to_z-of_z w32 s.x x,
      to_z-of_z w32 s.y y,
      to_z-of_z w32 s.z z,
    ) (subst Clear (sym c.requires) (mob_clear a.eid s.x s.y s.z s.yaw s.pitch c.ranges.eid x y z
    yaw.fits pitch.fits))
