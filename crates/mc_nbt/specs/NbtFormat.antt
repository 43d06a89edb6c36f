-- The format of a named compound, for the formats that hold one, and how it is stored.
use Rattle.std.specs.Prelude.{ℕ, List, ◌++◌, length, refl}
use Rattle.std.specs.Coded.{Coded, code_by, coded_list, coded×, coded_ℕ}
use Rattle.mc_bytes.specs.Format.{Format}
use Rattle.mc_nbt.specs.Tree.{Tree}
use Rattle.mc_nbt.specs.TreeCode.{coded_tree}
use Rattle.mc_nbt.specs.Nbt.{Named, IsNbt, nbt_spelling, SpellsNbt}
use Rattle.mc_nbt.specs.NbtReading.{nbt_at}
use Rattle.mc_nbt.specs.NbtAgainLaws.{nbt_only}
use Rattle.mc_nbt.specs.NbtTakesLaws.{nbt_found}
use Rattle.mc_nbt.specs.NbtLaws.{nbt_bounded}

abbrev pub nbt : {Rest : List ℕ → Type 0} → Format Rest Named
nbt {Rest} = record {
  spells = SpellsNbt;
  read = nbt_at;
  fits = IsNbt;
  spelling = nbt_spelling;
  append = λ value out. out ++ nbt_spelling value;
  most = λ value. length (nbt_spelling value);
  found = nbt_found;
  only = λ value front rest ends s. nbt_only value front rest tt s;
  fit = λ value bytes s. s.is_nbt;
  spelled = λ value fits. record { is_nbt = fits; bytes_are = refl };
  appended = λ value out. refl;
  bounded = nbt_bounded;
}

abbrev pub coded_named : Coded Named
coded_named =
    code_by (List ℕ × List (List ℕ × Tree))
    (coded× (coded_list coded_ℕ) (coded_list (coded× (coded_list coded_ℕ) coded_tree)))
    (λ value. (value.name, value.entries)) (λ parts. record { name = parts.0; entries = parts.1 })
    (λ value. refl)
