use Rattle.std.proofs.Common.{◌≡◌, ℕ, ◌+◌, ◌<◌, ◌++◌, ◌∷◌, List, [], Some, length, rules}
use Rattle.std.proofs.Common.{FitsSigned, w32, suc, sym, ap, ◌∙◌, take, arith}
use Rattle.std.specs.Prelude.{slice_get}
use Rattle.std.specs.FinMap.{keys}
use Rattle.std.proofs.Math.Seq.{take-suc}
use Rattle.std.proofs.lemmas.Int.{to_z-of_z}
use Rattle.std.proofs.lemmas.Option.{get_or_from_slice_get, slice_get_within}
use lib.IntN.{ℤ}
use Rattle.mc_told.proofs.Told.{all_taken}
use Rattle.mc_told.proofs.entities.all_numbers.Goals as goal

pub loop-eid-preserved : goal.loop-eid-preserved
loop-eid-preserved c =
    let ks = keys c.args.told.now in
    let i = c.loop-eid.i in
    let eid = c.in-Some.eid in
    let some : slice_get ks i ≡ Some eid = sym c.in-Some.ensures.eid in
    let fits : FitsSigned w32 eid = search rules in
    let next : i + 1 ≡ suc i = omega arith in
    c.in_ok-push.ensures.items
    ∙ ap (λ (k : ℤ). c.loop-eid.eids.items ++ k ∷ []) (to_z-of_z w32 eid fits)
    ∙ ap (λ (eids : List ℤ). eids ++ eid ∷ []) c.loop-eid.invariant
    ∙ sym (ap (λ (n : ℕ). take n ks) next ∙ take-suc ks i eid (slice_get_within ks i eid some)
    ∙ ap (λ (k : ℤ). take i ks ++ k ∷ []) (get_or_from_slice_get ks i eid eid some))

pub loop-eid-smaller : goal.loop-eid-smaller
loop-eid-smaller c =
    let ks = keys c.args.told.now in
    let within : c.loop-eid.i < length ks =
    slice_get_within ks c.loop-eid.i c.in-Some.eid (sym c.in-Some.ensures.eid) in
    omega (arith, within)

pub returns : goal.returns
returns c = c.loop-eid.invariant
    ∙ all_taken (keys c.args.told.now) c.loop-eid.i (sym c.in_default.ensures.eid)
