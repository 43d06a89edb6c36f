-- What a session answers to what a frame comes to.
use Rattle.mc_model.specs.declared.cause.Cause.TheVariants.{Packet, Done}
use Rattle.mc_model.specs.declared.stage.Stage.TheVariants.{Asked, Closed}
use Rattle.mc_model.specs.Packets.{frame_of, of_status}
use Rattle.mc_model.specs.Talk.{ClientRequest, nothing, greets, replies, ends, enters, acts, wrong}
use Rattle.mc_session.specs.declared.step.Step.{Step}
use Rattle.mc_session.specs.declared.step.Step.TheVariants.{Nothing, Reply, ReplyClose, Enter, Act}
use Rattle.mc_session.specs.declared.step.Step.TheVariants.{Close}
use Rattle.mc_session.specs.State.{State}

-- what its caller is to do
abbrev pub step_of : State → ClientRequest → Step
step_of state nothing = Nothing
step_of state (greets protocol stage) = Nothing
step_of state (replies packet) = Reply (frame_of (of_status packet))
step_of state (ends packet) = ReplyClose (frame_of (of_status packet)) Done
step_of state (enters name) = Enter name state.protocol
step_of state (acts packet) = Act packet
step_of state (wrong fault) = Close (Packet fault)

-- how far it has come then
abbrev pub next_of : State → ClientRequest → State
next_of state (greets protocol stage) = record state { stage = stage; protocol = protocol }
next_of state (ends packet) = record state { stage = Closed }
next_of state (enters name) = record state { stage = Asked }
next_of state other = state
