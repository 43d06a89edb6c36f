use Rattle.std.proofs.Common.{sym}
use Rattle.mc_land.proofs.LookFacts.{block_ready, block_else}
use Rattle.mc_land.proofs.land.Land.state.Goals as goal

pub returns-in-Some : goal.returns-in-Some
returns-in-Some c =
    let found = rw c.place_of.ensures at (sym c.in-Some.ensures) in
    rw (
      ← c.self.view_is,
      ← c.height_of-y.ensures,
      c.state.ensures,
      c.x_inside.ensures.is,
      c.z_inside.ensures.is,
    )
    (block_ready _ _ _ _ _ _ _ c.self.invariant.0 found c.height_of-y.type_inv)

pub returns-in-None : goal.returns-in-None
returns-in-None c =
    let none = rw c.place_of.ensures at (sym c.in-None.ensures) in
    rw (← c.self.view_is, ← c.height_of-y.ensures, c.own_state.ensures)
    (block_else _ _ _ _ _ _ c.self.invariant.0 none c.height_of-y.type_inv)
