-- Where the name is there, its pack is another; else nothing is.
use Rattle.std.proofs.Common.{◌∙◌, sym, ap}
use Rattle.std.specs.Option.{option_copied_mut}
use Rattle.std.specs.FinMap.{get}
use Rattle.mc_windows.specs.Pack.{PackValue}
use Rattle.mc_model.specs.Maps.{modify}
use Rattle.mc_play.specs.Named.{packs_of}
use Rattle.mc_play.specs.contracts.packs.Packs.{the_view}
use Rattle.mc_play.proofs.NamedPacks.{looked_up, unwritten, written}
use Rattle.mc_play.proofs.packs.Packs.put.Goals as goal
use Rattle.mc_play.proofs.packs.Packs.put.Goals.{in-Some, in_default}

pub returns : goal.returns
returns c = elim c.match-get_mut.branch [
  | in-Some w ↦ ap the_view w.self-inside-is
      ∙ ap packs_of (c.get_mut.follows.holds c.args.pack).0
      ∙ written c.as_str.result.now c.args.pack c.self.inside.by_name.entries
      ∙ (λ i. modify (c.as_str.ensures.value i) (λ (old : PackValue). c.args.pack)
      (c.self.view_is i))
  | in_default w ↦ ap the_view w.self-inside-is
      ∙ ap (λ m. packs_of m.entries) c.get_mut.follows.holds-at-none
      ∙ c.self.view_is
      ∙ sym (unwritten c.args.name.now c.args.pack c.args.self.now
      (sym (looked_up c.as_str.result.now c.self.inside.by_name.entries
      ∙ (λ i. get (c.self.view_is i) (c.as_str.ensures.value i)))
      ∙ sym c.get_mut.ensures.value ∙ ap option_copied_mut w.in_default.is))
]
