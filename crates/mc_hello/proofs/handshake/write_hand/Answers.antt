use Rattle.mc_hello.proofs.HandLaws.{fit, spelled, again}
use Rattle.mc_hello.proofs.handshake.write_hand.Goals as goal

pub write_fields-written-requires : goal.write_fields-written-requires
write_fields-written-requires c = fit c.args.packet.now c.requires.0 c.requires.1

pub returns-then-is_err-clause-spelled : goal.returns-then-is_err-clause-spelled
returns-then-is_err-clause-spelled c = spelled c.args.packet.now (fit c.args.packet.now c.requires.0
    c.requires.1)

pub returns-then-is_err-clause-again : goal.returns-then-is_err-clause-again
returns-then-is_err-clause-again c =
    again c.args.packet.now (fit c.args.packet.now c.requires.0 c.requires.1)

pub returns-else-is_err-clause-spelled : goal.returns-else-is_err-clause-spelled
returns-else-is_err-clause-spelled c = spelled c.args.packet.now (fit c.args.packet.now c.requires.0
    c.requires.1)

pub returns-else-is_err-clause-again : goal.returns-else-is_err-clause-again
returns-else-is_err-clause-again c =
    again c.args.packet.now (fit c.args.packet.now c.requires.0 c.requires.1)
