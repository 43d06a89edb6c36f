-- The text of a client's world out of a capture: the dump of what its packets of play make of the
-- world of a client that was sent nothing (a rule of this project).
use Rattle.std.specs.Prelude.{ℕ, List}
use Rattle.mc_capture.specs.declared.record.Record.{Record}
use Rattle.mc_model.specs.Replica.{new_replica, replay}
use Rattle.mc_replica.specs.Dump.{dump_text}
use Rattle.mc_show.specs.PlayPackets.{play_packets}

unfoldable pub show_text : ℕ → List Record → List ℕ
show_text k records = dump_text (replay new_replica (play_packets k records))
