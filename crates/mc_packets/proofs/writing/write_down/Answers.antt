use Rattle.mc_packets.proofs.DownLaws.{fit, spelled, again, appended}
use Rattle.mc_packets.proofs.Begun.{ok_as}
use Rattle.mc_packets.proofs.writing.write_down.Goals as goal

pub write_fields-written-requires : goal.write_fields-written-requires
write_fields-written-requires c = fit c.args.packet.now c.requires.0 c.requires.1

pub returns-then-is_err-clause-spelled : goal.returns-then-is_err-clause-spelled
returns-then-is_err-clause-spelled c = spelled c.args.packet.now (fit c.args.packet.now c.requires.0
    c.requires.1)

pub returns-then-is_err-clause-again : goal.returns-then-is_err-clause-again
returns-then-is_err-clause-again c =
    again c.args.packet.now (fit c.args.packet.now c.requires.0 c.requires.1)

pub returns-else-is_err-clause-spelled : goal.returns-else-is_err-clause-spelled
returns-else-is_err-clause-spelled c = spelled c.args.packet.now (fit c.args.packet.now c.requires.0
    c.requires.1)

pub returns-else-is_err-clause-again : goal.returns-else-is_err-clause-again
returns-else-is_err-clause-again c =
    again c.args.packet.now (fit c.args.packet.now c.requires.0 c.requires.1)

pub returns-else-is_err-clause-ok : goal.returns-else-is_err-clause-ok
returns-else-is_err-clause-ok c =
    ok_as c.write_fields-written.result c.write_fields-written.new.out.items _ _
    (appended c.args.packet.now c.args.out.now.items) c.write_fields-written.ensures.ok
