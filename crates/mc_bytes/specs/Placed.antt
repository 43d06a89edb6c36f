-- Reading from an offset: the value and the offset after it, or the first fault and the offset of
-- the field that fails.
use Rattle.std.specs.Prelude.{◌≡◌, ℕ, ◌-◌, ◌≤◌, List, length, slice_range, Result, Ok, Err}
use Rattle.mc_bytes.specs.declared.fault.Kind.{Kind}
use Rattle.mc_bytes.specs.declared.fault.Stop.{Stop}
use Rattle.mc_bytes.specs.declared.fault.FieldFault.{FieldFault}
use Rattle.mc_bytes.specs.declared.fault.ReadFault.{ReadFault}
use Rattle.mc_bytes.specs.declared.fault.ReadFault.TheVariants as faults
use Rattle.mc_bytes.specs.Reading.{Field}

-- the bytes from one offset to another spell it
pub record SpelledAt (spells : List ℕ → Type 0) (bytes : List ℕ) (start end : ℕ) : Type 0 where
  pub order : start ≤ end
  pub within : end ≤ length bytes
  pub spelled : spells (slice_range bytes start end)

abbrev pub fault_at : Kind → ℕ → FieldFault
fault_at kind place = record { kind = kind; at = place }

-- what reading the bytes that are left gives, with each place counted from the front of all of them
abbrev pub placed : {A : Type 0} → List ℕ → Field A → Result (A × ℕ) FieldFault
placed bytes (Ok x) = Ok (x.0, length bytes - length x.1)
placed bytes (Err stop) = Err (fault_at stop.kind (length bytes - stop.left))

-- what a reader answered, with the bytes that it left
abbrev pub with_rest : {A : Type 0} → Result A Stop → List ℕ → Field A
with_rest (Ok x) rest = Ok (x, rest)
with_rest (Err stop) rest = Err stop

-- a function that takes memory answers what reading gives, unless memory ran out
abbrev pub PlacedFails : {Y : Type 0} → ReadFault → Result Y FieldFault → Type 0
PlacedFails faults.NoMemory read = Unit {0}
PlacedFails (faults.Field fault) read = read ≡ Err fault

abbrev pub PlacedGives : {X Y : Type 0} → (X → Y) → Result X ReadFault → Result Y FieldFault
    → Type 0
PlacedGives view (Ok x) read = read ≡ Ok (view x)
PlacedGives view (Err e) read = PlacedFails e read
