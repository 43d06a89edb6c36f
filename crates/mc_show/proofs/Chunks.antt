-- A packet with a fault changes nothing.
use Rattle.std.proofs.Common.{◌≡◌, ℕ, ◌==◌, Bool, true, false, List, Some, None}
use Rattle.std.proofs.Common.{Result, Ok, Err, refl, ap}
use Rattle.std.specs.Prelude.{if◌then◌else◌}
use Rattle.std.specs.FinMap.{remove}
use Rattle.mc_bytes.specs.declared.fault.FieldFault.{FieldFault}
use Rattle.mc_column.specs.Body.{BodyValue, body_read}
use Rattle.mc_land.specs.Places.{Place}
use Rattle.mc_packets.specs.declared.down.Down.{Down}
use Rattle.mc_packets.specs.declared.down.Down.TheVariants.{Chunk}
use Rattle.mc_model.specs.Replica.{Columns, Replica, amended, apply, loaded, with_chunk}
use Rattle.mc_model.specs.Replica.{with_columns}
use Rattle.mc_replica.specs.Faults.{chunk_fault, fault_in, fault_of}

chunk_kept : (sky : Bool) (columns : Columns) (place : Place) (ground_up : Bool) (mask : ℕ)
    (bytes : List ℕ) (fault : FieldFault)
    → chunk_fault sky ground_up mask bytes ≡ Some fault
    → with_chunk sky columns place ground_up mask bytes ≡ columns
chunk_kept sky columns place true mask bytes fault is =
    step (mask == 0) (body_read mask sky true bytes) is
  where
    step : (empty : Bool) (read : Result BodyValue FieldFault)
        → (if empty then None else fault_of read) ≡ Some fault
        → (if empty then remove columns place else loaded columns place read) ≡ columns
    step true read is = absurd cc
    step false (Ok body) is = absurd cc
    step false (Err f) is = refl
chunk_kept sky columns place false mask bytes fault is = step (body_read mask sky false bytes) is
  where
    step : (read : Result BodyValue FieldFault) → fault_of read ≡ Some fault
        → amended columns place read ≡ columns
    step (Ok body) is = absurd cc
    step (Err f) is = refl

pub fault_kept : (r : Replica) (packet : Down) (fault : FieldFault)
    → fault_in r packet ≡ Some fault
    → apply r packet ≡ r
unfolding apply
fault_kept r (Chunk cx cz ground_up mask bytes) fault is = ap (with_columns r)
    (chunk_kept r.sky r.sight.columns (cx, cz) ground_up mask bytes fault is)
fault_kept r other fault is = absurd cc
