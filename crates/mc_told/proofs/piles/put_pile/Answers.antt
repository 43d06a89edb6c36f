use Rattle.std.proofs.Common.{rules}
use Rattle.mc_told.proofs.piles.put_pile.Goals as goal

pub returns-in-Player : goal.returns-in-Player
returns-in-Player c =
    let put = c.put_held.ensures c.in-Player.field-0 in
    rw c.in-Player.is (search rules)
