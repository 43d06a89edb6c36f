-- How what came of connections is kept: a map by their numbers, of those of which bytes came.
use Rattle.std.specs.Prelude.{◌≡◌, ℕ, List, Option, Some, None}
use Rattle.std.specs.FinMap.{FinMap, get}
use Rattle.std.specs.Ordering.{nat_cmp}
use Rattle.mc_capture.specs.declared.record.Record.{Record}
use Rattle.mc_capture.specs.Talks.{Talk, new_talk}
use Rattle.mc_capture.specs.ViewText.{talk_of}

abbrev pub talk_or_new : Option Talk → Talk
talk_or_new None = new_talk
talk_or_new (Some talk) = talk

abbrev pub talk_in : FinMap nat_cmp Talk → ℕ → Talk
talk_in talks k = talk_or_new (get talks k)

-- each connection is as the records left it
abbrev pub StandsFor : FinMap nat_cmp Talk → List Record → Type 0
StandsFor talks records = (k : ℕ) → talk_in talks k ≡ talk_of k records
