use Rattle.std.proofs.Common.{rules, ◌≡◌, Bool, false, ◌&&◌, sym, ap, ◌∙◌}
use Rattle.mc_view.specs.declared.view_set.ViewSet.{ViewSet}
use Rattle.mc_view.specs.Sets.{has}
use Rattle.mc_view.specs.Views.{column_of_spot}
use Rattle.mc_view.proofs.AreaFacts.{axis}
use Rattle.mc_view.proofs.area.Area.has.Goals as goal

pub returns-then-is_between : goal.returns-then-is_between
returns-then-is_between c =
    let area = c.self.inside in
    let v = area.view in
    let s = c.args.spot.now in
    let x = axis s.x v.cx area.west area.east v.d c.is_between.result c.self.invariant.0
    (search rules) (search rules) (search rules) c.is_between.ensures in
    let z = axis s.z v.cz area.north area.south v.d c.is_between-then-is_between.result
    c.self.invariant.1 (search rules) (search rules) (search rules)
    c.is_between-then-is_between.ensures in
    ap (λ (b : Bool). b && c.is_between-then-is_between.result) (sym c.if-is_between.true)
    ∙ (λ i. x i && z i)
    ∙ ap (λ (view : ViewSet). has view (column_of_spot s)) c.self.view_is

pub returns-else-is_between : goal.returns-else-is_between
returns-else-is_between c =
    let area = c.self.inside in
    let v = area.view in
    let s = c.args.spot.now in
    let x = axis s.x v.cx area.west area.east v.d c.is_between.result c.self.invariant.0
    (search rules) (search rules) (search rules) c.is_between.ensures in
    c.if-is_between.false ∙ sym (out _ _ (sym x ∙ c.if-is_between.false))
    ∙ ap (λ (view : ViewSet). has view (column_of_spot s)) c.self.view_is
  where
    out : (a b : Bool) → a ≡ false → (a && b) ≡ false
    out a b none = ap (λ (t : Bool). t && b) none
