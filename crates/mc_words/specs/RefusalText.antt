-- Why a bot was refused, as the last line says it.
use Rattle.std.specs.Prelude.{ℕ, List, ◌++◌, Some, None, codes, decimal}
use Rattle.mc_words.specs.declared.refusal.Refusal.{Refusal}
use Rattle.mc_words.specs.declared.refusal.Refusal.TheVariants as refusals

abbrev pub refusal_text : Refusal → List ℕ
refusal_text refusals.Closed = codes "closed"
refusal_text refusals.Frame = codes "frame"
refusal_text refusals.Packet = codes "packet"
refusal_text refusals.Body = codes "body"
refusal_text (refusals.Expect line want None) =
    codes "expect line " ++ decimal line ++ codes " want " ++ decimal want ++ codes " have none"
refusal_text (refusals.Expect line want (Some have)) =
    codes "expect line " ++ decimal line ++ codes " want " ++ decimal want ++ codes " have "
    ++ decimal have
