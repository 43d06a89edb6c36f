use Rattle.std.proofs.Common.{[], ◌∷◌, ◌++◌, map, sym, subst, ap, ◌∙◌}
use Rattle.std.specs.List.{AllByRecursion}
use lib.IntN.{pos}
use Rattle.mc_packets.specs.declared.player.Player.{Player}
use Rattle.mc_model.specs.Delta.{joiner}
use Rattle.mc_flush.specs.Carried.{IsCarried}
use Rattle.mc_flush.specs.Seeing.{IsNamed}
use Rattle.mc_flush.proofs.Carries.{carried_more, next_made}
use Rattle.mc_sending.proofs.Pieces.{next_holds}
use Rattle.mc_flush.proofs.names.Names.joiners.Goals as goal

pub joiner-requires : goal.joiner-requires
joiner-requires c = (next_holds IsNamed c.loop-uuid.uuid-iterator c.next.new.self
    (c.in-Some.uuid.now, c.in-Some.name.now) c.in-Some.ensures.steps c.loop-uuid.invariant.named).0

pub loop-uuid-preserved : goal.loop-uuid-preserved
loop-uuid-preserved c =
    let i = c.loop-uuid.invariant in
    record {
      made = next_made c.loop-uuid.players c.push.new.self (map joiner c.loop-uuid.uuid-iterator)
          (map joiner c.next.new.self) (joiner (c.in-Some.uuid.now, c.in-Some.name.now)) (map joiner
          c.args.self.now.found.entries)
          (ap (map joiner) c.in-Some.ensures.steps) i.made (c.in_ok-push.ensures.ok
          ∙ ap (λ (p : Player). c.loop-uuid.players ++ p ∷ []) c.in_ok-player.ensures.value);
      carried = subst (AllByRecursion (IsCarried (pos 0))) (sym c.in_ok-push.ensures.ok)
          (carried_more (pos 0) c.loop-uuid.players c.in_ok-player.player i.carried
          c.in_ok-player.ensures.carried);
      named = (next_holds IsNamed c.loop-uuid.uuid-iterator c.next.new.self (
        c.in-Some.uuid.now,
        c.in-Some.name.now,
      ) c.in-Some.ensures.steps i.named).1;
    }
