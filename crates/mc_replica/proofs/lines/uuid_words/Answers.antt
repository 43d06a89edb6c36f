use Rattle.std.proofs.Common.{ap, ◌∙◌}
use Rattle.uuid.specs.Text.{hyphenated_text, lower}
use Rattle.mc_model.specs.Names.{uuid_text}
use Rattle.mc_replica.proofs.lines.uuid_words.Goals as goal

pub returns : goal.returns
unfolding uuid_text
returns c =
    c.in_ok-from_str.ensures.ok ∙ (c.encode_lower-text.ensures.text
    ∙ ap (hyphenated_text lower) (c.hyphenated-hyphenated.ensures ∙ c.from_u128.ensures))
