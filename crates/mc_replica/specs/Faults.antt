-- Which packet has a fault: a chunk that takes no column away, whose bytes spell no body.
use Rattle.std.specs.Prelude.{ℕ, ◌==◌, ◌&&◌, Bool, List, Option, Some, None, Result, Ok, Err}
use Rattle.std.specs.Prelude.{if◌then◌else◌}
use Rattle.mc_bytes.specs.declared.fault.FieldFault.{FieldFault}
use Rattle.mc_column.specs.Body.{BodyValue, body_read}
use Rattle.mc_packets.specs.declared.down.Down.{Down}
use Rattle.mc_packets.specs.declared.down.Down.TheVariants.{Chunk}
use Rattle.mc_model.specs.Replica.{Replica, apply}

abbrev pub fault_of : Result BodyValue FieldFault → Option FieldFault
fault_of (Ok body) = None
fault_of (Err fault) = Some fault

abbrev pub chunk_fault : Bool → Bool → ℕ → List ℕ → Option FieldFault
chunk_fault sky ground_up mask bytes =
    if ground_up && mask == 0 then None else fault_of (body_read mask sky ground_up bytes)

abbrev pub fault_in : Replica → Down → Option FieldFault
fault_in r (Chunk cx cz ground_up mask bytes) = chunk_fault r.sky ground_up mask bytes
fault_in r other = None

-- what a packet makes of a replica, if it is no chunk
abbrev pub taken : Replica → Down → Replica
taken r (Chunk cx cz ground_up mask bytes) = r
taken r other = apply r other
