use Rattle.std.proofs.Common.{rules, sym, ap, ◌∙◌, w8, FitsSigned}
use Rattle.std.proofs.lemmas.Int.{to_z-of_z}
use lib.IntN.{◌-ℤ◌}
use Rattle.mc_view.proofs.FormFacts.{form_there, form_gone}
use Rattle.mc_view.specs.Forms.{form_by, is_turned}
use Rattle.mc_view.proofs.spots.form_of.Goals as goal

pub returns-in-Some : goal.returns-in-Some
returns-in-Some c =
    let o = c.args.old.now in
    let n = c.args.new.now in
    let fits-x : FitsSigned w8 c.in-Some.dx = search rules in
    let fits-y : FitsSigned w8 c.in-Some.dy = search rules in
    let fits-z : FitsSigned w8 c.in-Some.dz = search rules in
    c.step_form.ensures
    ∙ (λ i. form_by (to_z-of_z w8 c.in-Some.dx fits-x i) (to_z-of_z w8 c.in-Some.dy fits-y i)
    (to_z-of_z w8 c.in-Some.dz fits-z i) c.is_turned-turned.result)
    ∙ form_there (n.x -ℤ o.x) (n.y -ℤ o.y) (n.z -ℤ o.z) c.in-Some.dx c.in-Some.dy c.in-Some.dz
    c.is_turned-turned.result (sym c.step_between.ensures ∙ c.in-Some.is)
    ∙ ap (form_by (n.x -ℤ o.x) (n.y -ℤ o.y) (n.z -ℤ o.z)) c.is_turned-turned.ensures

pub returns-in-None : goal.returns-in-None
returns-in-None c =
    let o = c.args.old.now in
    let n = c.args.new.now in
    sym (form_gone (n.x -ℤ o.x) (n.y -ℤ o.y) (n.z -ℤ o.z) (is_turned o n)
    (sym c.step_between.ensures ∙ c.in-None.is))
