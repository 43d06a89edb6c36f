use Rattle.mc_frame.specs.FrameLaws.{frame_shortest, frame_again}
use Rattle.mc_frame.proofs.frame.write_frame.Goals as goal

pub returns-clause-shortest : goal.returns-clause-shortest
returns-clause-shortest c = frame_shortest c.args.payload.now

pub returns-in_err-write_varint-clause-again : goal.returns-in_err-write_varint-clause-again
returns-in_err-write_varint-clause-again c = frame_again c.args.payload.now c.requires

pub returns-then-is_err-clause-again : goal.returns-then-is_err-clause-again
returns-then-is_err-clause-again c = frame_again c.args.payload.now c.requires

pub returns-clause-again : goal.returns-clause-again
returns-clause-again c = frame_again c.args.payload.now c.requires
