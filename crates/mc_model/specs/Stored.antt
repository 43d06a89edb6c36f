-- How the changed cells are stored where a model has them in a field.
use Rattle.std.specs.Prelude.{ℕ}
use Rattle.std.specs.Coded.{Coded, coded_ℕ}
use Rattle.std.specs.FinMap.{FinMap, code}
use Rattle.mc_land.specs.Places.{key_cmp}
use Rattle.mc_land.specs.LandCode.{coded_key}

abbrev pub coded_edits : Coded (FinMap key_cmp ℕ)
coded_edits = code coded_key coded_ℕ
