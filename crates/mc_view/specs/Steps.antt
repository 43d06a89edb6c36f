-- Differences that signed bytes hold, as the code finds them.
use Rattle.std.specs.Prelude.{Option, Some, None, if◌then◌else◌}
use lib.IntN.{ℤ}
use Rattle.mc_view.specs.Forms.{are_bytes, is_byte}

abbrev pub byte_between : ℤ → Option ℤ
byte_between d = if is_byte d then Some d else None

abbrev pub bytes_between : ℤ → ℤ → ℤ → Option (ℤ × ℤ × ℤ)
bytes_between dx dy dz = if are_bytes dx dy dz then Some (dx, dy, dz) else None
