use Rattle.std.proofs.Common.{sym, subst}
use Rattle.mc_sending.specs.Sending.{IsClear}
use Rattle.mc_loads.proofs.Loads.{unload_fits}
use Rattle.mc_loads.proofs.columns.put_unload.Goals as goal

pub put_made-requires : goal.put_made-requires
put_made-requires c = subst IsClear (sym c.unload.ensures) (unload_fits c.args.place.now
    c.requires)
