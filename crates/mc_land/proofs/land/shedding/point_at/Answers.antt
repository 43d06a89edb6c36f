use Rattle.std.proofs.Common.{◌≡◌, rules, Some, None, sym, refl, ◌∙◌}
use Rattle.std.specs.FinMap.{find}
use Rattle.mc_land.specs.Places.{place_cmp}
use Rattle.mc_land.proofs.KeptLandFacts.{lookup_is}
use Rattle.mc_land.proofs.ShedFacts.{pointed_none, pointed_some, updated}
use Rattle.mc_land.proofs.land.shedding.point_at.Goals as goal

pub returns-in-Some : goal.returns-in-Some
returns-in-Some c = λ q.
    let there : find place_cmp c.args.place.now c.args.index.now.entries ≡ Some c.in-Some.at.now =
    sym (c.in-Some.ensures.value ∙ lookup_is place_cmp c.args.place.now
    c.args.index.now.entries) in
    pointed_some c.args.index.now.entries (c.get_mut.follows.lender c.args.i).entries
    c.args.place.now c.args.i c.in-Some.at.now there (λ p. updated _ _ _ _ p (Some c.args.i)
    (((c.get_mut.follows.holds c.args.i).3 (search rules)).0 p) refl) q

pub returns-in-None : goal.returns-in-None
returns-in-None c = λ q.
    let none : find place_cmp c.args.place.now c.args.index.now.entries ≡ None =
    sym (c.in-None.ensures.value ∙ lookup_is place_cmp c.args.place.now
    c.args.index.now.entries) in
    pointed_none c.args.index.now.entries c.get_mut.follows.lender-at-none.entries c.args.place.now
    c.args.i none (λ p. λ j. find place_cmp p (c.get_mut.follows.holds-at-none j).entries) q
