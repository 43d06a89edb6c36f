use Rattle.std.proofs.Common.{◌≡◌, List, Some, ℤ, FitsSigned, pos, rules, sym, subst, ap, ◌∙◌}
use Rattle.std.specs.Int.{w32}
use Rattle.std.specs.Option.{option_copied}
use Rattle.std.proofs.lemmas.Int.{to_z-of_z}
use Rattle.mc_entities.specs.declared.entity.Entity.{Entity}
use Rattle.mc_entities.specs.Folk.{eid_of, entity_of}
use Rattle.mc_entities.specs.Numbers.{Rise}
use Rattle.mc_flush.proofs.SpotsSeen.{spot_found}
use Rattle.mc_flush.proofs.client_view.ClientView.spot.Goals as goal

pub returns-in-Some : goal.returns-in-Some
returns-in-Some c =
    let v = c.args.self.now in
    let state = v.folk.now.state in
    let rise = subst (λ (es : List Entity). Rise eid_of (pos 0) es (pos state.given))
    c.all-all.ensures.entities c.all-all.ensures.rise in
    let fits : FitsSigned w32 v.me = search rules in
    let found : entity_of v.me state ≡ Some c.in-Some.entity.now =
    ap (λ (eid : ℤ). entity_of eid state) (sym (to_z-of_z w32 v.me fits))
    ∙ sym c.get.ensures.entity ∙ ap option_copied c.in-Some.is in
    spot_found v.land.now state.entities v.me (pos state.given) c.in-Some.entity.now rise found
