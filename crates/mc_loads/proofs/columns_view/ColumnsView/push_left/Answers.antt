use Rattle.std.proofs.Common.{sym, subst}
use Rattle.std.specs.List.{AllByRecursion}
use Rattle.mc_land.specs.Places.{IsPlace}
use Rattle.mc_loads.proofs.Places.{view_places, lacking_holds}
use Rattle.mc_loads.proofs.columns_view.ColumnsView.push_left.Goals as goal

pub push_unloads-requires : goal.push_unloads-requires
push_unloads-requires c =
    let old = c.in-Some.old in
    subst (AllByRecursion IsPlace) (sym c.left.ensures)
    (lacking_holds IsPlace old c.args.self.now.view (view_places old old.in_range))
