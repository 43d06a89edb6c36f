use Rattle.std.proofs.Common.{rules, ◌≤◌, length}
use Rattle.std.specs.Str.{IsUtf8}
use Rattle.mc_scenes.proofs.Said.{said_clear}
use Rattle.mc_scenes.proofs.flushes.is_line.Goals as goal

pub returns : goal.returns
returns c = λ t.
    let utf8 : IsUtf8 c.args.text.now = search rules in
    let few : length c.args.text.now ≤ 400 = search rules in
    said_clear c.args.text.now utf8 few
