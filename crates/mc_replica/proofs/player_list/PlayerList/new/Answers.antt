use Rattle.std.proofs.Common.{◌∙◌, ap, List}
use Rattle.std.specs.Ordering.{nat_cmp}
use Rattle.std.specs.FinMap.{from_sorted, nat_cmp-IsAntisymmetric}
use Rattle.std.proofs.lemmas.Cmp.{nat_cmp_total}
use Rattle.mc_replica.specs.declared.player_list.Listed.{Listed}
use Rattle.mc_replica.specs.KeptPlayers.{rows_of}
use Rattle.mc_replica.proofs.Rows.{map_empty}
use Rattle.mc_replica.proofs.player_list.PlayerList.new.Goals as goal

pub returns : goal.returns
returns c =
    ap (λ (rows : List Listed). from_sorted {R = nat_cmp} (rows_of rows)) c.new.ensures.items
    ∙ map_empty nat_cmp nat_cmp_total nat_cmp-IsAntisymmetric
