use Rattle.std.proofs.Common.{◌≡◌, ◌++◌, drop}
use Rattle.mc_model.specs.Sight.{others}
use Rattle.mc_sending.specs.Sending.{play_bytes}
use Rattle.mc_told.specs.Telling.{rows_in, rows_packets, with_rows}
use Rattle.mc_told.proofs.entities.put_entities.Given as goal

-- what was sent, what is due and what is left make all, and so does what is kept
abbrev pub invariant-loop-entity : goal.invariant-loop-entity
invariant-loop-entity l = record {
  encoded : l.encoded.encoded ≡ l.view.encoded.now;
  looks : l.looks ≡ l.told;
  sent : (l.out.items ++ l.encoded.due) ++ play_bytes (rows_packets l.told (rows_in l.view.view
      (others l.view.me (drop l.entity-index l.entities)))) ≡ l.initial.out.items ++ play_bytes
      (rows_packets l.told (rows_in l.view.view (others l.view.me l.entities)));
  kept : with_rows l.now (rows_in l.view.view (others l.view.me (drop l.entity-index
      l.entities))) ≡ with_rows l.initial.now (rows_in l.view.view (others l.view.me
      l.entities));
}
