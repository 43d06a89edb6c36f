use Rattle.std.proofs.Common.{ℤ, List, ℕ, FitsSigned, false, sym, subst, rules}
use Rattle.std.specs.Int.{w32}
use Rattle.std.proofs.lemmas.Int.{to_z-of_z}
use lib.IntN.{pos}
use Rattle.mc_packets.specs.declared.down.Down.TheVariants.{JoinGame}
use Rattle.mc_sending.specs.Sending.{IsClear}
use Rattle.mc_showing.proofs.JoinFacts.{join_fits}
use Rattle.mc_showing.proofs.opening.put_join.Goals as goal

pub put_made-requires : goal.put_made-requires
put_made-requires c =
    let eid : ℤ = c.args.eid in
    let fits : FitsSigned w32 eid = search rules in
    subst (λ (z : ℤ). IsClear (JoinGame z 0 (pos 0) 1 c.args.most c.in_ok-level.level false))
    (sym (to_z-of_z w32 eid fits))
    (subst (λ (text : List ℕ). IsClear (JoinGame eid 0 (pos 0) 1 c.args.most text false))
    (sym c.in_ok-level.ensures)
    (join_fits eid c.args.most c.args.terrain.now c.requires.eid fits c.requires.few))
