use Rattle.mc_land.proofs.GrownFacts.{flat_layer, hills_layer, isle_layer}
use Rattle.mc_land.proofs.growing.push_layer.Goals as goal

pub returns-in_ok-push_alike-in-Flat : goal.returns-in_ok-push_alike-in-Flat
returns-in_ok-push_alike-in-Flat c =
    let appended = rw c.flat_id.ensures.is at c.in_ok-push_alike-in-Flat.ensures in
    rw c.in-Flat.is (flat_layer c.args.place.now c.args.y _ _ appended)

pub returns-in_ok-push_hills-in-Hills : goal.returns-in_ok-push_hills-in-Hills
returns-in_ok-push_hills-in-Hills c =
    let tops = rw c.in-Hills.is at c.requires.tops in
    rw c.in-Hills.is (hills_layer c.in-Hills.field-0 c.args.place.now c.args.y c.args.tops.now _ _
    tops c.in_ok-push_hills-in-Hills.ensures)

pub returns-in_ok-push_alike-in-Isle : goal.returns-in_ok-push_alike-in-Isle
returns-in_ok-push_alike-in-Isle c =
    let appended = rw c.isle_state.ensures at c.in_ok-push_alike-in-Isle.ensures in
    rw c.in-Isle.is (isle_layer c.args.place.now c.args.y _ _ appended)
