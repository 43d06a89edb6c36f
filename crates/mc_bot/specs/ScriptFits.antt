-- What holds of each script that was read: all that it sends is in the range of its packets.
use Rattle.std.specs.Prelude.{ℕ, List, Option, Some, None}
use Rattle.std.specs.List.{All}
use Rattle.mc_fields.specs.Text.{FitsText}
use Rattle.mc_bot.specs.declared.act.Line.{Line}
use Rattle.mc_bot.specs.declared.act.Said.{Said}
use Rattle.mc_bot.specs.declared.act.Said.TheVariants.{Join, Does}
use Rattle.mc_bot.specs.Asked.{IsInRange}

abbrev pub SaidFits : Said → Type 0
SaidFits (Join name) = FitsText 16 name
SaidFits (Does act) = IsInRange act

abbrev pub LinesFit : List Line → Type 0
LinesFit lines = All (λ line. IsInRange line.act) lines

-- of some first lines, in which a name may have joined
abbrev pub NameFits : Option (List ℕ) → Type 0
NameFits None = Unit {0}
NameFits (Some name) = FitsText 16 name
