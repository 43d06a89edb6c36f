-- What reading a field from the front of some bytes gives: its value and the bytes after it, or the
-- first fault.
use Rattle.std.specs.Prelude.{◌≡◌, ℕ, ◌<◌, List, length, slice_index, Result, Ok, Err}
use Rattle.mc_bytes.specs.declared.fault.Kind.{Kind}
use Rattle.mc_bytes.specs.declared.fault.Stop.{Stop}
use Rattle.mc_bytes.specs.declared.fault.ReadError.{ReadError}
use Rattle.mc_bytes.specs.declared.fault.ReadError.TheVariants as errors

-- each item is a byte
abbrev pub IsBytes : List ℕ → Type 0
IsBytes bytes = (i : ℕ) → slice_index bytes i < 256

-- a value and the bytes after it, or the first fault
abbrev pub Field : Type 0 → Type 0
Field A = Result (A × List ℕ) Stop

-- the fault of a field that begins where these bytes are left
abbrev pub stop_at : Kind → List ℕ → Stop
stop_at kind bytes = record { kind = kind; left = length bytes }

-- the second step, if the first gave a value
infixl 10 ◌>>=◌
abbrev pub ◌>>=◌ : {A B E : Type 0} → Result A E → (A → Result B E) → Result B E
Ok x >>= f = f x
Err e >>= f = Err e

-- what a function returned, seen by view, is what reading gives
abbrev pub Yields : {X Y E : Type 0} → (X → Y) → Result X E → Result Y E → Type 0
Yields view (Ok x) read = read ≡ Ok (view x)
Yields view (Err e) read = read ≡ Err e

-- the error of a function is the fault that reading gives, unless memory ran out
abbrev pub Fails : {Y : Type 0} → ReadError → Result Y Stop → Type 0
Fails errors.NoMemory read = Unit {0}
Fails (errors.Stop stop) read = read ≡ Err stop

-- what a function returned that takes memory, seen by view, is what reading gives, unless memory
-- ran out
abbrev pub Gives : {X Y : Type 0} → (X → Y) → Result X ReadError → Result Y Stop → Type 0
Gives view (Ok x) read = read ≡ Ok (view x)
Gives view (Err e) read = Fails e read
