-- The formats of the tag of a stack and of the parts of a slot: their definitions beside the laws
-- of these.
use Rattle.std.specs.Prelude.{ℕ, List, ◌++◌, Option, refl}
use Rattle.std.specs.Int.{w8, w16}
use Rattle.mc_bytes.specs.Format.{Format}
use Rattle.mc_bytes.specs.Combine.{◌then◌}
use Rattle.mc_bytes.specs.Optional.{when}
use Rattle.mc_bytes.specs.NumberLaws.{wide_8, wide_16}
use Rattle.mc_bytes.specs.Naturals.{is_natural}
use Rattle.mc_bytes.specs.Signed.{signed}
use Rattle.mc_nbt.specs.Nbt.{Named}
use Rattle.mc_slots.specs.Slot.{SpellsTag, FitsTag, tag_spelling, tag_most, tag_read, Parts}
use Rattle.mc_slots.specs.TagLaws.{tag_found, tag_only, tag_fit, tag_spelled, tag_bounded}

abbrev pub tag : {Rest : List ℕ → Type 0} → Format Rest (Option Named)
tag {Rest} = record {
  spells = SpellsTag;
  read = tag_read;
  fits = FitsTag;
  spelling = tag_spelling;
  append = λ value out. out ++ tag_spelling value;
  most = tag_most;
  found = tag_found;
  only = tag_only Rest;
  fit = tag_fit;
  spelled = tag_spelled;
  appended = λ value out. refl;
  bounded = tag_bounded;
}

-- an id, and after one that is not negative a count, a damage and a tag
abbrev pub parts : {Rest : List ℕ → Type 0} → Format Rest Parts
parts {Rest} = signed w16 wide_16 then λ id. when (is_natural id) (signed w8 wide_8 then
    λ _. signed w16 wide_16 then λ _. tag)
