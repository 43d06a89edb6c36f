use Rattle.std.proofs.Common.{◌+◌, ◌*◌, arith}
use Rattle.mc_view.proofs.Rows.{whole_view}
use Rattle.mc_view.proofs.square.Square.of.Goals as goal

pub returns : goal.returns
returns c =
    let v = c.args.view.now in
    whole_view v.cx v.cz c.corner_of.result.west c.corner_of.result.north v.d
    (c.from.result * 2 + 1) (c.from-2.result * 2)
    c.corner_of.ensures.west c.corner_of.ensures.north
    (omega (arith, c.from.ensures)) (omega (arith, c.from.ensures, c.from-2.ensures))
