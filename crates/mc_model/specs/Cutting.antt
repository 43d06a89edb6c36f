-- The cut of a stream, worked out frame by frame. `mc_frame` says what a cut is, and that there is
-- one of every stream.
use Rattle.std.specs.Prelude.{ℕ, zero, suc, ◌+◌, ◌-◌, List, [], ◌∷◌, length, None, Ok, Err}
use Rattle.mc_bytes.specs.Reading.{Field}
use Rattle.mc_frame.specs.Frame.{frame_read}
use Rattle.mc_frame.specs.Faults.{fault_of}
use Rattle.mc_frame.specs.Cut.{Cut, kept_count}

-- the frame at the front before the cut of what follows, or the end
abbrev pub cut_by : ℕ → List ℕ → Field (List ℕ) → (ℕ → List ℕ → Cut) → Cut
cut_by count bytes (Ok (payload, after)) later =
    let cut = later (count + (length bytes - length after)) after in
    record cut { frames = payload ∷ cut.frames }
cut_by count bytes (Err stop) later =
    record { frames = []; rest = bytes; fault = fault_of stop.kind (kept_count count) }

-- with fuel for so many frames
abbrev pub cut_from : ℕ → ℕ → List ℕ → Cut
cut_from zero count bytes = record { frames = []; rest = bytes; fault = None }
cut_from (suc fuel) count bytes =
    cut_by count bytes (frame_read bytes) (λ n after. cut_from fuel n after)

-- the cut of bytes that so many of the stream stand before
unfoldable pub cut_of : ℕ → List ℕ → Cut
cut_of count bytes = cut_from (suc (length bytes)) count bytes
