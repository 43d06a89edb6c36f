use Rattle.std.proofs.Common.{◌≡◌, ◌∙◌, ap, subst, sym}
use Rattle.std.specs.Prelude.{Some, min}
use Rattle.std.specs.FinMap.{get}
use Rattle.mc_slots.specs.declared.pile.Pile.{Pile}
use Rattle.mc_entities.specs.Folk.{FolkState}
use Rattle.mc_slots.specs.declared.pile.Pile.TheVariants.{Full}
use Rattle.mc_slots.specs.Pile.{count_of, part, without}
use Rattle.mc_model.specs.declared.player.Player.{Player}
use Rattle.mc_model.specs.Game.{Game, held_by}
use Rattle.mc_model.specs.Digging.{drop_held}
use Rattle.mc_play.specs.Kept.{GameValue, played}
use Rattle.mc_play.specs.contracts.game.Game.{the_view}
use Rattle.mc_play.proofs.Dropping.{by_some, carried_room, drop_nothing, drops}
use Rattle.mc_play.proofs.game.Game.drop_held.Goals as goal

pub returns-in_default-split-clause-ok : goal.returns-in_default-split-clause-ok
returns-in_default-split-clause-ok c =
    let u : GameValue = c.args.self.now in
    let k = c.args.connection in
    let p : Player = c.in-Some.player.now in
    let plays : get u.game.players k ≡ Some p =
    subst (λ (w : GameValue). get w.game.players k ≡ Some p) c.self.view_is
    (sym c.in-Some.ensures) in
    ap (λ (g : Game). played u g u.aside)
    (drop_nothing k p c.args.n c.held_by-left.result u.game c.requires
    c.held_by-left.ensures.range c.in_default-split.ensures.taken
    ∙ ap (λ (held : Pile). drop_held k p c.args.n held u.game) c.held_by-left.ensures.is
    ∙ sym (by_some k (λ (q : Player) (g : Game). drop_held k q c.args.n (held_by g q) g) u.game p
    plays))

pub drop_item-requires-clause-room : goal.drop_item-requires-clause-room
drop_item-requires-clause-room c =
    let w : GameValue = the_view (record c.self.inside { entities = c.reserve.new.self }) in
    carried_room c.args.connection c.split.new.pile w c.carry.new.self c.args.self.now.game
    c.carry.ensures
    (ap (λ (s : FolkState). (the_view (record c.self.inside {
      entities = record { state = s; reserve = c.reserve.new.self.reserve };
    })).game) c.reserve.ensures.same ∙ ap (λ (v : GameValue). v.game) c.self.view_is)
    c.if-not-may_drop.ensures

pub returns-clause-ok : goal.returns-clause-ok
returns-clause-ok c =
    let u : GameValue = c.args.self.now in
    let k = c.args.connection in
    let p : Player = c.in-Some.player.now in
    let w : GameValue = the_view (record c.self.inside { entities = c.reserve.new.self }) in
    let plays : get u.game.players k ≡ Some p =
    subst (λ (v : GameValue). get v.game.players k ≡ Some p) c.self.view_is
    (sym c.in-Some.ensures) in
    drops k p c.args.n c.split.new.pile c.in-Full.item c.feet_of-spot.result u w
    c.carry.new.self c.drop_item.new.self plays
    (ap (λ (s : FolkState). (the_view (record c.self.inside {
      entities = record { state = s; reserve = c.reserve.new.self.reserve };
    })).game) c.reserve.ensures.same ∙ ap (λ (v : GameValue). v.game) c.self.view_is)
    (ap (λ (v : GameValue). v.settled) c.self.view_is)
    (subst (λ (held : Pile). Full c.in-Full.item ≡ part held (min c.args.n (count_of held)))
    c.held_by-left.ensures.is c.in-Full.ensures.taken)
    (subst (λ (held : Pile). c.split.new.pile ≡ without held (min c.args.n (count_of held)))
    c.held_by-left.ensures.is c.split.ensures.left)
    c.if-not-may_drop.ensures c.feet_of-spot.ensures.is c.carry.ensures c.drop_item.ensures.is
