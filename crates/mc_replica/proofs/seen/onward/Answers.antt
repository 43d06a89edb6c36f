use Rattle.std.proofs.Common.{sym, ◌∙◌, w32, FitsSigned, rules}
use Rattle.std.proofs.lemmas.Int.{to_z-of_z}
use Rattle.mc_model.specs.Replica.{is_32_bits, onward}
use Rattle.mc_replica.proofs.Spots.{all_there, second_gone, third_gone}
use Rattle.mc_replica.proofs.seen.onward.Goals as goal

pub returns-in_err-y : goal.returns-in_err-y
returns-in_err-y c =
    let s = onward c.args.dx.now c.args.dy.now c.args.dz.now c.args.spot.now in
    c.from_residual-in_err-y.ensures ∙ sym (second_gone s (is_32_bits s.x) (is_32_bits s.y)
    (is_32_bits s.z) s.y (sym c.sum_within-2.ensures ∙ c.in_err-y.was))

pub returns-in_err-z : goal.returns-in_err-z
returns-in_err-z c =
    let s = onward c.args.dx.now c.args.dy.now c.args.dz.now c.args.spot.now in
    c.from_residual-in_err-z.ensures ∙ sym (third_gone s (is_32_bits s.x) (is_32_bits s.y)
    (is_32_bits s.z) s.z (sym c.sum_within-3.ensures ∙ c.in_err-z.was))

pub returns : goal.returns
returns c =
    let s = onward c.args.dx.now c.args.dy.now c.args.dz.now c.args.spot.now in
    let x : FitsSigned w32 c.in_ok-x.x = search rules in
    let y : FitsSigned w32 c.in_ok-y.y = search rules in
    let z : FitsSigned w32 c.in_ok-z.z = search rules in
    rw (to_z-of_z w32 _ x, to_z-of_z w32 _ y, to_z-of_z w32 _ z)
    (all_there (is_32_bits s.x) (is_32_bits s.y) (is_32_bits s.z) s
    c.in_ok-x.x c.in_ok-y.y c.in_ok-z.z
    (sym c.sum_within.ensures ∙ c.in_ok-x.was) (sym c.sum_within-2.ensures ∙ c.in_ok-y.was)
    (sym c.sum_within-3.ensures ∙ c.in_ok-z.was))
