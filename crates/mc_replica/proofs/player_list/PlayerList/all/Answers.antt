use Rattle.std.proofs.Common.{◌∙◌, sym, ap}
use Rattle.std.specs.Ordering.{nat_cmp}
use Rattle.std.specs.FinMap.{entries-from_sorted}
use Rattle.mc_replica.specs.KeptPlayers.{rows_of}
use Rattle.mc_replica.proofs.player_list.PlayerList.all.Goals as goal

pub returns : goal.returns
returns c = rw (← c.self.view_is) (ap rows_of c.as_slice.ensures.value
    ∙ sym (entries-from_sorted nat_cmp (rows_of c.self.inside.rows.items) c.self.invariant))
