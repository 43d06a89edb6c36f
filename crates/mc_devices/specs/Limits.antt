-- How long a client is waited for, and how much of it is taken. Times are in milliseconds (rules of
-- this project).
use Rattle.std.specs.Prelude.{◌≡◌, ℕ, ◌+◌, ◌-◌, ◌*◌, ◌≤◌, ◌⊎◌, min, Bool, if◌then◌else◌, Option}
use Rattle.std.specs.Prelude.{Some, ℤ, pos}
use Rattle.mc_devices.specs.declared.sockets.limits.TheConstants.{UNASKED_MAX, UNHEARD_MAX}
use Rattle.mc_devices.specs.declared.sockets.limits.TheConstants.{STALL_MAX, STALL_PAUSE}
use Rattle.mc_devices.specs.declared.sockets.limits.TheConstants.{ALLOWANCE_MAX, ALLOWANCE_TICK}
use Rattle.mc_devices.specs.declared.sockets.limits.TheConstants.{ALLOWANCE_STALLED, STEP_MAX}
use Rattle.mc_devices.specs.declared.sockets.limits.TheConstants.{READ_MAX}

-- nothing was to be written to a connection, or it sent nothing, for too long
abbrev pub IsSilent : ℕ → ℕ → ℕ → Type 0
IsSilent asked heard now = (UNASKED_MAX ≤ now - asked) ⊎ (UNHEARD_MAX ≤ now - heard)

-- a connection that took nothing may be written to again
abbrev pub HasPaused : ℕ → ℕ → Type 0
HasPaused tried now = STALL_PAUSE ≤ now - tried

-- a connection has taken nothing for too long
abbrev pub HasStalledLong : ℕ → ℕ → Type 0
HasStalledLong since now = STALL_MAX ≤ now - since

-- how many nanoseconds count of a step between two looks at the clock
abbrev pub counted_nanos : ℕ → ℕ
counted_nanos step = min step (STEP_MAX * 1000000)

-- how many bytes a connection may send at first
abbrev pub first_allowance : ℕ
first_allowance = ALLOWANCE_MAX

-- how many it may send after a tick, where it may have sent so many
abbrev pub next_allowance : Bool → ℕ → ℕ
next_allowance is_stalled bytes =
    min (bytes + (if is_stalled then ALLOWANCE_STALLED else ALLOWANCE_TICK)) ALLOWANCE_MAX

-- how many bytes are read in a turn at most, where so many may be sent
abbrev pub read_limit : ℕ → ℕ
read_limit allowed = min allowed READ_MAX

-- the errors of Linux that say that a process (EMFILE) or the system (ENFILE) has no descriptor
-- left
abbrev pub IsNoDescriptor : Option ℤ → Type 0
IsNoDescriptor code = (code ≡ Some (pos 24)) ⊎ (code ≡ Some (pos 23))
