-- The format of texts, of the page 'Data types' of wiki.vg for protocol 47.
use Rattle.std.specs.Prelude.{ℕ, ◌+◌, List, ◌++◌, length, refl}
use Rattle.mc_bytes.specs.Format.{Format}
use Rattle.mc_fields.specs.declared.field.TheConstants.{STRING_MAX}
use Rattle.mc_fields.specs.Text.{SpellsText, text_read, text_spelling}
use Rattle.mc_fields.specs.Text.{SpellableText}
use Rattle.mc_fields.specs.TextLaws.{text_found, text_only, text_fit, text_spelled, text_bounded}
pub use Rattle.mc_fields.specs.Text.{SpellableText}

-- a text with so many code points at most
abbrev pub text : {Rest : List ℕ → Type 0} → ℕ → Format Rest (List ℕ)
text {Rest} points = record {
  spells = SpellsText points;
  read = text_read points;
  fits = SpellableText points;
  spelling = text_spelling;
  append = λ value out. out ++ text_spelling value;
  most = λ text. 5 + length text;
  found = text_found points;
  only = text_only points Rest;
  fit = text_fit points;
  spelled = text_spelled points;
  appended = λ value out. refl;
  bounded = text_bounded points;
}

-- a text whose field names no limit
abbrev pub string : {Rest : List ℕ → Type 0} → Format Rest (List ℕ)
string {Rest} = text {Rest = Rest} STRING_MAX
