use Rattle.mc_hello.specs.LoginDown.{spelling_of}
use Rattle.mc_hello.proofs.LoginDownLaws.{spelled}
use Rattle.mc_session.proofs.reply.login_frame.Goals as goal

pub write_login_down-requires : goal.write_login_down-requires
write_login_down-requires c = (
  spelling_of c.args.packet.now,
  spelled c.args.packet.now
      c.requires.fits,
)
