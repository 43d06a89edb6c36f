-- The format of all bytes that are left: the last field of a frame.
use Rattle.std.specs.Prelude.{ℕ, List, ◌++◌, length, refl}
use Rattle.mc_bytes.specs.Format.{Format, Nothing}
use Rattle.mc_bytes.specs.RestBytes.{rest_spells, rest_read}
use Rattle.mc_bytes.specs.RestLaws.{rest_found, rest_only, rest_bounded}

abbrev pub rest : Format Nothing (List ℕ)
rest = record {
  spells = rest_spells;
  read = rest_read;
  fits = λ value. Unit {0};
  spelling = λ value. value;
  append = λ value out. out ++ value;
  most = length;
  found = rest_found;
  only = rest_only;
  fit = λ value bytes s. tt;
  spelled = λ value fits. refl;
  appended = λ value out. refl;
  bounded = rest_bounded;
}
