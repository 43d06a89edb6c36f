use Rattle.mc_model.specs.Run.{history}
use Rattle.mc_model.specs.World.{new_world}
use Rattle.mc_laws.proofs.Apart.BadFrames.{bad_twin}
use Rattle.mc_laws.proofs.Apart.Befores.{stands_before}
use Rattle.mc_laws.proofs.Apart.Full.{full_as_left, took_room}
use Rattle.mc_laws.proofs.Apart.Isolation.{broke_as_left, others_apart, own_step_apart}
use Rattle.mc_laws.proofs.Apart.Silent.{silent_as_left}
use Rattle.mc_laws.proofs.Runs.Worlds.{always_good}
use Rattle.mc_laws.proofs.laws.connections_are_apart.Goals as goal

pub returns : goal.returns
returns c = record {
  others = λ start events v k e same no_own few few_too.
      others_apart k (history (new_world start) events) v e no_own few few_too
      (always_good start events) same;
  own = λ start events v k e same is no_join.
      own_step_apart k (history (new_world start) events) v e is no_join
      (always_good start events) same;
  broke = λ w k l there. broke_as_left k w l there;
  bad = λ w k bytes before bad stands. bad_twin k w bytes before bad stands;
  found = λ start events k bytes are came bad. stands_before start events k bytes are came
      bad;
  full = λ start events v k is. full_as_left k (history (new_world start) events) v
      (always_good start events) is;
  room = λ w k n l there. took_room k n w l there;
  silent = λ start events k falls. silent_as_left k
      (history (new_world start) events) (always_good start events) falls;
}
