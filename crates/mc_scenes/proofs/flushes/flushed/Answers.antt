use Rattle.std.proofs.Common.{rules}
use Rattle.std.specs.List.{AllByRecursion}
use Rattle.mc_view.specs.Sets.{all_of}
use Rattle.mc_loads.specs.Columns.{IsReady}
use Rattle.mc_scenes.proofs.Tried.{entered_ready}
use Rattle.mc_scenes.proofs.flushes.flushed.Goals as goal

pub flush_with-done-requires-clause-ready : goal.flush_with-done-requires-clause-ready
flush_with-done-requires-clause-ready g c =
    let all : AllByRecursion (IsReady c.args.scene.now.land) (all_of c.args.view) = search rules in
    entered_ready c.args.scene.now.land c.args.scene.now.mark.view c.args.view all

pub flush-done-requires-clause-ready : goal.flush-done-requires-clause-ready
flush-done-requires-clause-ready g c =
    let all : AllByRecursion (IsReady c.args.scene.now.land) (all_of c.args.view) = search rules in
    entered_ready c.args.scene.now.land c.args.scene.now.mark.view c.args.view all
