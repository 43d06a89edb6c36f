use Rattle.std.proofs.Common.{◌∙◌, refl, w32}
use Rattle.std.proofs.lemmas.Int.{to_z-of_z}
use Rattle.mc_land.proofs.land.Land.dirty.Goals as goal

pub returns : goal.returns
returns c = c.dirty_at.ensures ∙ rw (
  to_z-of_z w32 c.args.cx c.ranges.cx,
  to_z-of_z w32 c.args.cz c.ranges.cz,
) refl
