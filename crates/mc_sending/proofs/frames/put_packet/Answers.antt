use Rattle.mc_packets.proofs.DownLaws.{spelled}
use Rattle.mc_packets.specs.Down.{spelling_of}
use Rattle.mc_sending.proofs.frames.put_packet.Goals as goal

pub write_down-requires : goal.write_down-requires
write_down-requires c = (spelling_of c.args.packet.now, spelled c.args.packet.now c.requires.0)
