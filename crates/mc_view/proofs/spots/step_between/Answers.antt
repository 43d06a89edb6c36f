use Rattle.std.proofs.Common.{rules, sym, ◌∙◌, w8, w32, FitsSigned}
use Rattle.std.proofs.lemmas.Int.{to_z-of_z}
use lib.IntN.{◌-ℤ◌}
use Rattle.mc_view.specs.Steps.{byte_between}
use Rattle.mc_view.proofs.FormFacts.{bytes_there, second_gone, third_gone}
use Rattle.mc_view.proofs.spots.step_between.Goals as goal

pub returns-in_err-dy : goal.returns-in_err-dy
returns-in_err-dy c =
    let o = c.args.old.now in
    let n = c.args.new.now in
    let old : FitsSigned w32 o.y = search rules in
    let new : FitsSigned w32 n.y = search rules in
    c.from_residual-in_err-dy.ensures
    ∙ sym (second_gone (n.x -ℤ o.x) (n.y -ℤ o.y) (n.z -ℤ o.z)
    (sym (c.byte_between-2.ensures
    ∙ (λ i. byte_between (to_z-of_z w32 n.y new i -ℤ to_z-of_z w32 o.y old i)))
    ∙ c.in_err-dy.was))

pub returns-in_err-dz : goal.returns-in_err-dz
returns-in_err-dz c =
    let o = c.args.old.now in
    let n = c.args.new.now in
    let old : FitsSigned w32 o.z = search rules in
    let new : FitsSigned w32 n.z = search rules in
    c.from_residual-in_err-dz.ensures
    ∙ sym (third_gone (n.x -ℤ o.x) (n.y -ℤ o.y) (n.z -ℤ o.z)
    (sym (c.byte_between-3.ensures
    ∙ (λ i. byte_between (to_z-of_z w32 n.z new i -ℤ to_z-of_z w32 o.z old i)))
    ∙ c.in_err-dz.was))

pub returns : goal.returns
returns c =
    let o = c.args.old.now in
    let n = c.args.new.now in
    let fits-x : FitsSigned w8 c.in_ok-dx.dx = search rules in
    let fits-y : FitsSigned w8 c.in_ok-dy.dy = search rules in
    let fits-z : FitsSigned w8 c.in_ok-dz.dz = search rules in
    let old-x : FitsSigned w32 o.x = search rules in
    let new-x : FitsSigned w32 n.x = search rules in
    let old-y : FitsSigned w32 o.y = search rules in
    let new-y : FitsSigned w32 n.y = search rules in
    let old-z : FitsSigned w32 o.z = search rules in
    let new-z : FitsSigned w32 n.z = search rules in
    rw (
      to_z-of_z w8 c.in_ok-dx.dx fits-x,
      to_z-of_z w8 c.in_ok-dy.dy fits-y,
      to_z-of_z w8 c.in_ok-dz.dz fits-z,
    )
    (sym (bytes_there (n.x -ℤ o.x) (n.y -ℤ o.y) (n.z -ℤ o.z)
    c.in_ok-dx.dx c.in_ok-dy.dy c.in_ok-dz.dz
    (sym (c.byte_between.ensures
    ∙ (λ i. byte_between (to_z-of_z w32 n.x new-x i -ℤ to_z-of_z w32 o.x old-x i)))
    ∙ c.in_ok-dx.was)
    (sym (c.byte_between-2.ensures
    ∙ (λ i. byte_between (to_z-of_z w32 n.y new-y i -ℤ to_z-of_z w32 o.y old-y i)))
    ∙ c.in_ok-dy.was)
    (sym (c.byte_between-3.ensures
    ∙ (λ i. byte_between (to_z-of_z w32 n.z new-z i -ℤ to_z-of_z w32 o.z old-z i)))
    ∙ c.in_ok-dz.was)))
