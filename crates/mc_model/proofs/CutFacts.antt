-- The cut that is worked out frame by frame is the cut of the bytes.
use Rattle.std.proofs.Common.{◌≡◌, ℕ, zero, suc, ◌+◌, ◌-◌, ◌<◌, List, [], length, Ok, Err, refl}
use Rattle.std.proofs.Common.{sym, subst, ap, arith}
use Rattle.std.proofs.lemmas.List.{length-append}
use Rattle.mc_bytes.specs.Reading.{Field, IsBytes}
use Rattle.mc_frame.specs.Frame.{frame_read}
use Rattle.mc_frame.specs.FrameLaws.{frame_found}
use Rattle.mc_frame.specs.Cut.{IsCutAt, kept_count}
use Rattle.mc_frame.proofs.Stops.{frame_stopped}
use Rattle.mc_frame.proofs.Cuts.{framed_cut, stopped_ends, frame_some}
use Rattle.mc_model.specs.Cutting.{cut_by, cut_from, cut_of}

-- with fuel above the number of the bytes
pub cut_worked_out : (fuel count : ℕ) (bytes : List ℕ) → length bytes < fuel → IsBytes bytes
    → IsCutAt count bytes (cut_from fuel count bytes)
cut_worked_out zero count bytes less fits = absurd (omega (arith, less))
cut_worked_out (suc fuel) count bytes less fits =
    step (frame_read bytes) refl (λ n after. cut_worked_out fuel n after)
  where
    step : (read : Field (List ℕ)) → frame_read bytes ≡ read
        → ((n : ℕ) (after : List ℕ) → length after < fuel → IsBytes after →
        IsCutAt n after (cut_from fuel n after))
        → IsCutAt count bytes (cut_by count bytes read (λ n after. cut_from fuel n after))
    step (Ok x) is rest =
        let f = frame_found bytes x fits is in
        let all = ap length f.parts in
        let shorter : length x.1 < fuel =
        omega (arith, less, all, length-append f.front x.1, frame_some x.0 f.front f.spelled) in
        let counted : length f.front ≡ length bytes - length x.1 =
        omega (arith, all, length-append f.front x.1) in
        let P : ℕ → Type 0 = λ n. IsCutAt n x.1
        (cut_from fuel (count + (length bytes - length x.1)) x.1) in
        framed_cut count bytes x.0 f.front x.1
        (cut_from fuel (count + (length bytes - length x.1)) x.1) f.parts f.spelled
        (subst P (ap (λ (n : ℕ). count + n) (sym counted))
        (rest (count + (length bytes - length x.1)) x.1 shorter f.rest_fits))
    step (Err stop) is rest = record {
      front = [];
      parts = refl;
      framed = refl;
      ends = stopped_ends stop.kind (count + 0) (kept_count count) bytes
          (ap kept_count (omega arith)) (frame_stopped bytes stop fits is);
    }

-- with as much as is enough
pub cut_of_bytes : (count : ℕ) (bytes : List ℕ) → IsBytes bytes →
    IsCutAt count bytes (cut_of count bytes)
unfolding cut_of
cut_of_bytes count bytes fits = cut_worked_out (suc (length bytes)) count bytes (omega arith) fits
