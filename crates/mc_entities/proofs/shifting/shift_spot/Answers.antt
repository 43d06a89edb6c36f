use Rattle.std.proofs.Common.{rules, ◌∙◌, sym, SFits, w32}
use Rattle.std.proofs.lemmas.Int.{to_z-of_z}
use Rattle.mc_entities.proofs.ShiftFacts.{shift_all}
use Rattle.mc_entities.proofs.shifting.shift_spot.Goals as goal

pub returns : goal.returns
returns c =
    let x : SFits w32 c.in-Some.x = search rules in
    let y : SFits w32 c.in-Some-sum_within.y = search rules in
    let z : SFits w32 c.in-Some-sum_within-2.z = search rules in
    rw (to_z-of_z w32 _ x, to_z-of_z w32 _ y, to_z-of_z w32 _ z)
    (shift_all c.args.by.now c.args.spot.now _ _ _ (sym c.sum_within.ensures ∙ c.in-Some.is)
    (sym c.sum_within-2.ensures ∙ c.in-Some-sum_within.is)
    (sym c.sum_within-3.ensures ∙ c.in-Some-sum_within-2.is))
