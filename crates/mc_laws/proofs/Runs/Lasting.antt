-- A connection is there until it is forgotten, which is when it is closed and owed nothing.
use Rattle.std.proofs.Common.{◌≡◌, ℕ, List, Option, Some, sym, ap, ◌∙◌}
use Rattle.std.specs.FinMap.{get}
use Rattle.mc_model.specs.Packets.{Sent}
use Rattle.mc_model.specs.Step.{Event, step}
use Rattle.mc_model.specs.Stages.{is_closed}
use Rattle.mc_model.specs.Link.{Link}
use Rattle.mc_model.specs.World.{World}
use Rattle.mc_model.specs.Good.{GoodWorld}
use Rattle.mc_model.specs.Promised.{HasCause, Lasts, is_forgotten, stays}
use Rattle.mc_model.proofs.Maps.Options.{some_is}
use Rattle.mc_laws.proofs.Runs.Effects.{Effect, effect, ends, goes, hands, joins, rests, takes}

lasts_by : (k : ℕ) (w : World) (e : Event) (l : Link) (o : Option Link) (last : Option ℕ)
    (ps : List Sent) (taken lost : List ℕ) → o ≡ Some l →
    Effect k last o (get (step w e).world.links k) ps taken lost → Lasts k w e l
lasts_by k w e l o last ps taken lost is (rests same none no_take no_loss) = stays l (same ∙ is)
lasts_by k w e l o last ps taken lost is (hands a m there now open_ owes no_take no_loss) =
    stays m now
lasts_by k w e l o last ps taken lost is
    (goes a m there now owed closed caused kept none no_take loss) = stays m now
lasts_by k w e l o last ps taken lost is (takes n a m there now less none took no_loss) =
    stays m now
lasts_by k w e l o last ps taken lost is (joins m new gone now owed has none no_take no_loss) =
    stays m now
lasts_by k w e l o last ps taken lost is (ends a there closed owed now none no_take no_loss) =
    let same = some_is a l (sym there ∙ is) in
    is_forgotten (ap (λ (x : Link). is_closed x.stage) (sym same) ∙ closed)
    (ap (λ (x : Link). x.owed) (sym same) ∙ owed) now

pub lasts : (k : ℕ) (w : World) (e : Event) (l : Link) → GoodWorld w →
    ((m : Link) → get w.links k ≡ Some m → HasCause m) → get w.links k ≡ Some l → Lasts k w e l
lasts k w e l good has is =
    lasts_by k w e l (get w.links k) w.last _ _ _ is (effect w e k good has)
