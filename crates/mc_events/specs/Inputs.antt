-- Which event of the definitions an input is.
use Rattle.std.specs.Prelude.{◌≡◌, ◌⊎◌, ℕ, ◌+◌}
use Rattle.mc_model.specs.declared.cause.Cause.{Cause}
use Rattle.mc_model.specs.declared.cause.Cause.TheVariants as causes
use Rattle.mc_model.specs.Step.{Event, joined, came, left, broke, ticked}
use Rattle.mc_events.specs.declared.input.Input.{Input}
use Rattle.mc_events.specs.declared.input.Input.TheVariants.{Join, Bytes, Gone, Broke, Tick}

abbrev pub event_of : Input → Event
event_of (Join k) = joined k
event_of (Bytes k bytes) = came k bytes.now
event_of (Gone k) = left k
event_of (Broke k) = broke k
event_of Tick = ticked

-- how many ticks came, with this input, where so many came before it
abbrev pub age_after : Input → ℕ → ℕ
age_after Tick age = age + 1
age_after other age = age

-- a connection leaves for a cause, or a write to it broke
abbrev pub IsLeaving : ℕ → Cause → Event → Type 0
IsLeaving k cause e =
    ((e ≡ left k) × (cause ≡ causes.Gone)) ⊎ ((e ≡ broke k) × (cause ≡ causes.Broke))
