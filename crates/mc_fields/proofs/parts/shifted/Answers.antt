use Rattle.std.specs.Int.{w64}
use Rattle.std.proofs.Common.{◌∙◌, ◌^◌}
use Rattle.std.proofs.lemmas.Int.{to_z-of_z}
use lib.Signed.{shr_z}
use Rattle.mc_fields.proofs.Floors.{shift_all, shift_fits}
use Rattle.mc_fields.proofs.parts.shifted.Goals as goal

pub returns : goal.returns
returns c =
    let same = to_z-of_z w64 c.args.value c.ranges.value in
    rw same (to_z-of_z w64 (shr_z c.args.value (2 ^ c.min.result))
    (shift_fits c.args.value (2 ^ c.min.result) c.ranges.value) ∙
    shift_all c.args.value c.args.right c.min.result c.ranges.value c.min.ensures)
