use Rattle.std.proofs.Common.{Option, ap}
use Rattle.std.specs.Prelude.{unwrap_or}
use Rattle.mc_windows.specs.Pack.{PackValue, kit_pack}
use Rattle.mc_showing.proofs.client.client_of.Goals as goal

pub view_for-requires-clause-pack : goal.view_for-requires-clause-pack
view_for-requires-clause-pack c =
    ap (λ (o : Option PackValue). unwrap_or o kit_pack) c.in-Some.ensures
