use Rattle.mc_hello.specs.StatusDown.{spelling_of}
use Rattle.mc_hello.proofs.StatusDownLaws.{spelled}
use Rattle.mc_session.proofs.reply.status_frame.Goals as goal

pub write_status_down-requires : goal.write_status_down-requires
write_status_down-requires c = (
  spelling_of c.args.packet.now,
  spelled c.args.packet.now
      c.requires.fits,
)
