use Rattle.std.proofs.Common.{◌≡◌, true, subst, sym}
use Rattle.std.specs.Prelude.{is_some}
use Rattle.mc_land.specs.Land.{LandValue}
use Rattle.mc_model.specs.Things.{chest_of_cell}
use Rattle.mc_play.proofs.States.{put_ours}
use Rattle.mc_play.proofs.ground.Ground.restock.Goals as goal

pub invariant_of-self : goal.invariant_of-self
invariant_of-self c =
    let cell = c.args.cell.now in
    let IsThere : LandValue → Type 0 =
    λ land. is_some (chest_of_cell land.chests cell.x cell.y cell.z) ≡ true in
    put_ours c.self.inside.terrain c.self.inside.land c.restock.new.land c.self.invariant cell.x
    cell.y cell.z (subst IsThere (sym c.self.view_is) c.requires) c.args.chest.now
    c.restock.ensures.chest c.restock.ensures.is
