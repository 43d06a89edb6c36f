-- A part whose writer may have begun it leaves what stood before it.
use Rattle.std.proofs.Common.{◌≡◌, List, ℕ, length, take, OnOk, Result, Ok, Err, ◌∙◌}
use Rattle.mc_bytes.proofs.Kept.{kept_past}

pub kept_through : (start now new : List ℕ) → take (length now) new ≡ now →
    take (length start) now ≡ start → take (length start) new ≡ start
kept_through start now new h k = kept_past start now new k h

-- where what was written is an equal list
pub ok_as : {T E : Type 0} (r : Result T E) (new x y : List ℕ) → x ≡ y → OnOk r (new ≡ x) →
    OnOk r (new ≡ y)
ok_as (Ok v) new x y e h = h ∙ e
ok_as (Err d) new x y e h = tt
