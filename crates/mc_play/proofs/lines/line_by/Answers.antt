use Rattle.std.proofs.Common.{◌≡◌, ◌++◌, ℕ, List, codes, rules, subst, sym, ap, ◌∙◌}
use Rattle.std.specs.Str.{IsUtf8}
use Rattle.mc_model.specs.Chat.{line_of}
use Rattle.mc_model.specs.Texts.{chat_json}
use Rattle.mc_model.proofs.FitsChat.{LineFits, line_clear}
use Rattle.mc_play.proofs.Names.{name_few}
use Rattle.mc_play.proofs.lines.line_by.Goals as goal

pub returns-clause-clear : goal.returns-clause-clear
returns-clause-clear c =
    let name = c.args.name.now in
    let text = c.args.text.now in
    let said : c.as_str.result.now ≡ codes "<" ++ (name ++ (codes "> " ++ text)) = search rules in
    let made : c.in_ok-json.json ≡ line_of name text =
    c.in_ok-json.ensures ∙ ap chat_json said in
    subst (λ (line : List ℕ). LineFits line) (sym made)
    (line_clear name text
    (subst IsUtf8 c.text.ensures.value c.as_str-name.ensures.utf8) c.as_str-text.ensures.utf8
    (name_few name c.text.ensures.name) c.requires)
