use Rattle.mc_bot.proofs.Hello.{handshake_spelled}
use Rattle.mc_bot.proofs.bot.put_handshake.Goals as goal

pub write_hand-written-requires : goal.write_hand-written-requires
write_hand-written-requires c =
    rw c.in_ok-from_str.ensures (handshake_spelled c.args.port c.ranges.port.fits)
