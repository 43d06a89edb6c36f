-- A name that is not known gets the kit.
use Rattle.std.proofs.Common.{rules, ◌≡◌, ◌∙◌, None}
use Rattle.std.specs.FinMap.{get}
use Rattle.mc_windows.specs.Pack.{kit_pack}
use Rattle.std.specs.String.{string_bytes}
use Rattle.mc_play.proofs.NamedPacks.{admitted, again, lent_none, lent_some}
use Rattle.mc_play.proofs.packs.Packs.admit.Goals as goal

pub returns-then-is_some-clause-ok : goal.returns-then-is_some-clause-ok
returns-then-is_some-clause-ok c = again c.args.name.now kit_pack c.args.self.now
    (lent_some c.get.result (get c.args.self.now c.args.name.now) c.is_some.result
    c.get.ensures (search rules) (search rules))

pub returns-clause-ok : goal.returns-clause-ok
returns-clause-ok c =
    let name : string_bytes c.in_ok-name.name ≡ c.args.name.now =
    c.in_ok-name.ensures.ok ∙ c.as_str.ensures.value in
    let none : get c.args.self.now c.args.name.now ≡ None =
    lent_none c.get.result (get c.args.self.now c.args.name.now) c.is_some.result
    c.get.ensures (search rules) (search rules) in
    admitted c.args.name.now c.kit.result kit_pack c.self.inside.by_name.entries
    c.insert.new.self.entries c.args.self.now c.in_ok-name.name c.self.view_is name none
    c.kit.ensures c.in_ok-insert.ensures.entries
