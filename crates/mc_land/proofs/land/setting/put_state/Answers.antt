use Rattle.std.proofs.Common.{refl}
use Rattle.mc_land.proofs.UpkeepFacts.{others_after, upkeep_put}
use Rattle.mc_land.proofs.land.setting.put_state.Goals as goal

pub returns-clause-upkeep : goal.returns-clause-upkeep
returns-clause-upkeep c = upkeep_put c.args.columns.now.items _ c.args.upkeep.now _
    c.insert.new.self.keys c.place_of-place.result c.requires.upkeep refl
    (others_after c.put_cell-done.result _ _ _ _ _ _ _ c.place_of-place.ensures
    c.put_cell-done.ensures.ok c.put_cell-done.ensures.err) c.in_ok-insert.ensures.updates.2
    c.keep_touched.ensures.touched c.keep_touched.ensures.whole
