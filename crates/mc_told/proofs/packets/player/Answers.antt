use Rattle.std.proofs.Common.{◌<◌, ◌^◌, List, rules, Fits, FitsSigned, sym, subst}
use Rattle.std.specs.Int.{w8, w16, w32}
use Rattle.std.proofs.lemmas.Int.{to_z-of_z}
use Rattle.mc_packets.specs.declared.meta.MetaEntry.{MetaEntry}
use Rattle.mc_packets.specs.declared.down.Down.TheVariants.{SpawnPlayer}
use Rattle.mc_model.proofs.FitsEntities.{player_clear}
use Rattle.mc_sending.specs.Sending.{IsClear}
use Rattle.mc_told.proofs.packets.player.Goals as goal

pub returns-clause-clear : goal.returns-clause-clear
returns-clause-clear c =
    let a = c.args in
    let s = c.args.spot.now in
    let x : FitsSigned w32 s.x = search rules in
    let y : FitsSigned w32 s.y = search rules in
    let z : FitsSigned w32 s.z = search rules in
    let uuid : a.uuid < 2 ^ 128 = search rules in
    let yaw : Fits w8 s.yaw = search rules in
    let pitch : Fits w8 s.pitch = search rules in
    let Clear : List MetaEntry → Type 0 = λ metas.
    IsClear (SpawnPlayer a.eid a.uuid s.x s.y s.z s.yaw s.pitch a.held metas) in
    rw (
      to_z-of_z w32 a.eid c.ranges.eid,
      to_z-of_z w32 s.x x,
      to_z-of_z w32 s.y y,
      to_z-of_z w32 s.z z,
      to_z-of_z w16 a.held c.ranges.held,
    ) (subst Clear (sym c.requires) (player_clear a.eid a.uuid s.x s.y s.z s.yaw s.pitch a.held
    c.ranges.eid uuid x y z yaw.fits pitch.fits c.ranges.held))
