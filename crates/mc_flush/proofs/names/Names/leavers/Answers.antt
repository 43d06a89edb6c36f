use Rattle.std.proofs.Common.{[], ◌∷◌, ◌++◌, map, sym, subst, ap, ◌∙◌}
use Rattle.std.specs.List.{AllByRecursion}
use lib.IntN.{pos}
use Rattle.mc_packets.specs.declared.player.Player.{Player}
use Rattle.mc_model.specs.Delta.{leaver}
use Rattle.mc_flush.specs.Carried.{IsCarried}
use Rattle.mc_flush.proofs.Carries.{carried_more, next_made}
use Rattle.mc_flush.proofs.names.Names.leavers.Goals as goal

pub loop-uuid-preserved : goal.loop-uuid-preserved
loop-uuid-preserved c =
    let i = c.loop-uuid.invariant in
    record {
      made = next_made c.loop-uuid.players c.push.new.self (map leaver c.loop-uuid.uuid-iterator)
          (map leaver c.next.new.self) (leaver (c.in-Some.uuid.now, c.in-Some.name.now)) (map leaver
          c.args.self.now.found.entries)
          (ap (map leaver) c.in-Some.ensures.steps) i.made (c.in_ok-push.ensures.ok
          ∙ ap (λ (p : Player). c.loop-uuid.players ++ p ∷ []) (c.leaver.ensures.value
          c.in-Some.name.now));
      carried = subst (AllByRecursion (IsCarried (pos 4))) (sym c.in_ok-push.ensures.ok)
          (carried_more (pos 4) c.loop-uuid.players c.leaver.result i.carried
          c.leaver.ensures.carried);
    }
