use Rattle.std.proofs.Common.{ap, ◌∙◌}
use Rattle.uuid.specs.Text.{hyphenated_text, lower}
use Rattle.std.proofs.lemmas.Result.{IfOk-weaker}
use Rattle.mc_model.specs.Names.{uuid_text}
use Rattle.mc_session.proofs.identity.uuid_text.Goals as goal

pub returns : goal.returns
unfolding uuid_text
returns c =
    IfOk-weaker c.from_str.result _ _
    (λ text is. is ∙ (c.encode_lower-text.ensures.text
    ∙ ap (hyphenated_text lower) (c.hyphenated-hyphenated.ensures ∙ c.from_u128.ensures)))
    c.from_str.ensures
