-- How the code makes sky light: a layer at a time from the top down. That it is the light of
-- specs/Light.antt is proved; no public contract speaks of this.
use Rattle.std.specs.Prelude.{ℕ, ◌+◌, ◌*◌, ◌/◌, ◌%◌, List, length, map, slice_index, ◌==◌}
use Rattle.std.specs.Prelude.{if◌then◌else◌}
use Rattle.std.specs.List.{range_with_len}

-- a byte of light under two cells of these states, from the byte above them
abbrev pub dimmed_byte : ℕ → ℕ → ℕ → ℕ
dimmed_byte above low high = (if low == 0 then above % 16 else 0) + (if high == 0 then
    above / 16 * 16 else 0)

-- a layer's light, from the light above it and its states
abbrev pub dimmed : List ℕ → List ℕ → List ℕ
dimmed above layer =
    map (λ j. dimmed_byte (slice_index above j) (slice_index layer (2 * j))
    (slice_index layer (2 * j + 1)))
    (range_with_len 0 (length above))
