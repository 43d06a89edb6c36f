use Rattle.std.proofs.Common.{◌≡◌, ◌∙◌, ◌∷◌, ◌+◌, List, ap, drop, rules, subst, sym}
use Rattle.std.proofs.lemmas.List.{drop_more}
use Rattle.std.specs.List.{filter_map}
use Rattle.mc_slots.specs.declared.pile.Item.{Item}
use Rattle.mc_slots.specs.declared.pile.Pile.{Pile}
use Rattle.mc_slots.specs.declared.pile.Pile.TheVariants.{Empty}
use Rattle.mc_model.specs.Digging.{item_of}
use Rattle.mc_play.proofs.Falling.{IsFalling, falls_next}
use Rattle.mc_play.proofs.game.Game.drop_all.Goals.{in-Full, in_default}
use Rattle.mc_play.proofs.game.Game.drop_all.Goals as goal

pub loop-i-preserved : goal.loop-i-preserved
loop-i-preserved c =
    let piles : List Pile = c.args.chest.now in
    let i = c.loop-i.i in
    let all : List Item = filter_map item_of piles in
    let after : Pile → List Item = λ pile. filter_map item_of (pile ∷ drop (i + 1) piles) in
    let next : filter_map item_of (drop i piles) ≡ after c.get.result =
    ap (filter_map item_of) (drop_more piles i Empty (search rules))
    ∙ ap after (sym c.get.ensures.pile) in
    elim c.match-get.branch [
      | in-Full w ↦ subst (IsFalling all (after Empty) c.args.spot c.args.self.now) (sym w.self-is)
          (falls_next all _ _ w.in-Full.item c.args.spot c.args.self.now c.loop-i.self
          w.drop_item.new.self (next ∙ ap after w.in-Full.is) c.loop-i.invariant
          w.drop_item.ensures.is w.drop_item.ensures.rest w.drop_item.ensures.one.1)
      | in_default w ↦ subst (IsFalling all (after Empty) c.args.spot c.args.self.now)
          (sym w.self-is) (subst
          (λ (items : List Item). IsFalling all items c.args.spot c.args.self.now c.loop-i.self)
          (next ∙ ap after w.in_default.is) c.loop-i.invariant)
    ]
