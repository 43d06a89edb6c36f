use Rattle.std.proofs.Common.{rules, ◌≡◌, ◌↔◌, false, is_some, ◌∙◌}
use Rattle.std.specs.FinSet as set
use Rattle.mc_scenes.proofs.Tried.{same_answer}
use Rattle.mc_scenes.proofs.flushes.is_there.Goals as goal

pub returns : goal.returns
returns g c =
    let ready = set.contains c.args.land.now.ready c.args.place.now in
    let none : (is_some c.column.result ≡ false) ↔ (ready ≡ false) = search rules in
    c.is_some.ensures ∙ same_answer (is_some c.column.result) ready none
