use Rattle.std.proofs.Common.{rules}
use Rattle.mc_bytes.proofs.Appends.{writing_next, writing_done}
use Rattle.mc_packets.specs.PlayerChange.{player}
use Rattle.mc_packets.proofs.players.append_players.Goals as goal

pub loop-item-preserved : goal.loop-item-preserved
loop-item-preserved c =
    writing_next (player c.args.action.now) c.args.items.now c.loop-item.item-index
    c.item-item.result c.args.out.now.items c.loop-item.out.items c.write_player.new.out.items
    c.loop-item-test.true (search rules) c.loop-item.invariant

pub returns-clause-ok : goal.returns-clause-ok
returns-clause-ok c = writing_done (player c.args.action.now) c.args.items.now
    c.loop-item.item-index c.args.out.now.items c.loop-item.out.items c.loop-item-test.false
    c.loop-item.invariant
