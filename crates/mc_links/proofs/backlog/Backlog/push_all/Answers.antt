use Rattle.mc_frame.specs.Kept.{outbox_max}
use Rattle.mc_links.proofs.Handing.{room_for}
use Rattle.mc_links.proofs.backlog.Backlog.push_all.Goals as goal

pub push-requires : goal.push-requires
push-requires c = room_for c.loop-piece.self c.args.self.now c.loop-piece.piece-iterator.rest.items
    c.next.new.self.rest.items c.args.pieces.items c.in-Some.piece outbox_max
    c.in-Some.ensures.steps.0 c.loop-piece.invariant c.requires
