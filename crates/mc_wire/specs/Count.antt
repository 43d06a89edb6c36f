-- How a count of a device changes over a call, and over any number of calls (a rule of this
-- project).
use Rattle.std.specs.Prelude.{◌≡◌, ℕ, ◌+◌, ◌-◌, ◌^◌, ◌<◌, ◌≤◌, ◌⊎◌, min}

-- a count that stands still at the end of its type, after one more
abbrev pub raised : ℕ → ℕ
raised count = min (count + 1) (2 ^ 64 - 1)

-- a count rose in a call: it is greater after it, or stands at its type's end
abbrev pub Rose : ℕ → ℕ → Type 0
Rose old new = (old < new) ⊎ (new ≡ 2 ^ 64 - 1)

-- a count did not fall in a call, and is within its type after it
abbrev pub NeverFalls : ℕ → ℕ → Type 0
NeverFalls old new = (old ≤ new) × (new < 2 ^ 64)

-- a count over any number of calls, and over none
abbrev pub StandsOrRises : ℕ → ℕ → Type 0
StandsOrRises old new = (new ≡ old) ⊎ NeverFalls old new
