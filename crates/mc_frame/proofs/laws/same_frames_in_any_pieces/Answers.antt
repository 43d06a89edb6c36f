use Rattle.mc_frame.proofs.AnyPieces.{frames_first, answers}
use Rattle.mc_frame.proofs.laws.same_frames_in_any_pieces.Goals as goal

pub returns-clause-frames : goal.returns-clause-frames
returns-clause-frames c = frames_first

pub returns-clause-answer : goal.returns-clause-answer
returns-clause-answer c = answers
