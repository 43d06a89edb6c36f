use Rattle.std.proofs.Common.{◌++◌, ◌∙◌, List, ap, sym}
use Rattle.std.proofs.lemmas.List.{append-nil}
use Rattle.mc_packets.specs.declared.down.Down.{Down}
use Rattle.mc_sending.specs.Sending.{play_bytes}
use Rattle.mc_told.proofs.SameRows.{unmoved}
use Rattle.mc_told.proofs.moves.put_moves.Goals as goal

pub returns-then-eq-clause-sent : goal.returns-then-eq-clause-sent
returns-then-eq-clause-sent c =
    let all = c.args.out.now.items ++ c.args.encoded.now.due in
    let none = unmoved c.args.eid c.args.from.now c.args.to.now (sym c.eq.ensures ∙ c.if-eq.true) in
    sym (ap (λ (packets : List Down). all ++ play_bytes packets) none ∙ append-nil all)
