use Rattle.std.proofs.Common.{ap, List}
use Rattle.std.specs.FinMap.{nat_cmp-IsAntisymmetric}
use Rattle.std.proofs.lemmas.Cmp.{nat_cmp_total}
use Rattle.mc_model.specs.declared.notes.Answered.{Answered}
use Rattle.mc_bytes.proofs.Trees.{lent_back, on_err}
use Rattle.mc_play.proofs.players.Players.note_answer.Goals as goal

pub returns-in_err-push-clause-err : goal.returns-in_err-push-clause-err
returns-in_err-push-clause-err c = on_err c.from_residual.result (lent_back nat_cmp_total
    nat_cmp-IsAntisymmetric c.find_mut.result c.args.self.now c.args.connection c.in-Some.player _
    c.find_mut.ensures.is c.in-Some.is
    (ap (λ (confirms : List Answered). record c.in-Some.player.now {
      notes = record c.in-Some.player.now.notes { confirms = confirms };
    }) c.in_err-push.ensures.err))
