use Rattle.std.proofs.Common.{◌%◌, arith}
use Rattle.mc_load.proofs.Sendable.{can_dig, eight_on}
use Rattle.mc_load.proofs.turn.put_dig.Goals as goal

pub put_frame-requires : goal.put_frame-requires
put_frame-requires c = rw (
  eight_on (c.args.client % 4) (omega arith),
  eight_on (c.args.tick % 4) (omega arith),
) (can_dig c.args.client c.args.tick)
