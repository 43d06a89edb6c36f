use Rattle.std.proofs.Common.{arith, sym, refl, ap, ◌∙◌}
use Rattle.mc_land.specs.declared.ready.Touched.{Touched}
use Rattle.mc_land.proofs.TouchFacts.{account_gone, account_kept, account_new, account_none}
use Rattle.mc_land.proofs.TouchFacts.{is_at_within}
use Rattle.mc_land.proofs.ready.touch.Goals as goal

pub index-requires : goal.index-requires
index-requires c =
    let passes = rw c.deref-2.ensures.value at (sym c.is_at.ensures ∙ c.if-is_at.true) in
    omega (
      arith,
      is_at_within c.args.touched.now.items c.rank-at.result c.args.index passes,
      c.args.touched.now.ok,
    )

pub remove-gone-requires : goal.remove-gone-requires
remove-gone-requires c =
    let passes = rw c.deref-2.ensures.value at (sym c.is_at.ensures ∙ c.if-is_at.true) in
    omega (
      arith,
      is_at_within c.args.touched.now.items c.rank-at.result c.args.index passes,
      c.args.touched.now.ok,
    )

pub returns-then-index-state : goal.returns-then-index-state
returns-then-index-state c =
    let bound = rw c.deref.ensures.value at c.rank-at.ensures.bound in
    let point = rw c.deref.ensures.value at c.rank-at.ensures.point in
    let passes = rw c.deref-2.ensures.value at (sym c.is_at.ensures ∙ c.if-is_at.true) in
    account_gone c.args.touched.now.items _ c.args.index c.args.old c.args.state c.rank-at.result
    c.index.result.now bound point passes (ap (λ (t : Touched). t.was) (sym c.index.ensures) ∙
    c.if-index-state.true) c.remove-gone.ensures.items

pub returns-else-index-state : goal.returns-else-index-state
returns-else-index-state c =
    let bound = rw c.deref.ensures.value at c.rank-at.ensures.bound in
    let point = rw c.deref.ensures.value at c.rank-at.ensures.point in
    let passes = rw c.deref-2.ensures.value at (sym c.is_at.ensures ∙ c.if-is_at.true) in
    account_kept c.args.touched.now.items c.args.index c.args.old c.args.state c.rank-at.result
    c.index.result.now bound point passes (λ h. c.if-index-state.false
    (ap (λ (t : Touched). t.was) c.index.ensures ∙ h))

pub returns-then-old-state : goal.returns-then-old-state
returns-then-old-state c =
    let bound = rw c.deref.ensures.value at c.rank-at.ensures.bound in
    let point = rw c.deref.ensures.value at c.rank-at.ensures.point in
    let fails = rw c.deref-2.ensures.value at (sym c.is_at.ensures ∙ c.if-is_at.false) in
    account_new c.args.touched.now.items _ c.args.index c.args.old c.args.state c.rank-at.result
    bound point fails c.if-old-state.true (c.insert.ensures.items ∙ rw c.unwrap.ensures refl)

pub returns-else-old-state : goal.returns-else-old-state
returns-else-old-state c =
    let bound = rw c.deref.ensures.value at c.rank-at.ensures.bound in
    let point = rw c.deref.ensures.value at c.rank-at.ensures.point in
    let fails = rw c.deref-2.ensures.value at (sym c.is_at.ensures ∙ c.if-is_at.false) in
    account_none c.args.touched.now.items c.args.index c.args.old c.args.state c.rank-at.result
    bound point fails c.if-old-state.false
