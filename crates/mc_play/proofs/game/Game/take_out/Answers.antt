use Rattle.std.proofs.Common.{◌≡◌, ◌∙◌, List, ap, arith, length}
use Rattle.std.specs.List.{filter_map}
use Rattle.mc_slots.specs.declared.pile.Pile.{Pile}
use Rattle.mc_model.specs.Digging.{item_of}
use Rattle.mc_play.proofs.Reaching.{digs, dug_room}
use Rattle.mc_play.proofs.game.Game.take_out.Goals as goal

pub drop_item-requires-clause-room : goal.drop_item-requires-clause-room
drop_item-requires-clause-room c =
    let lay = filter_map item_of c.chest_at-chest.result in
    let stacks : c.stacks_in-stacks.result ≡ length lay = c.stacks_in-stacks.ensures
    ∙ ap (λ (piles : List Pile). length (filter_map item_of piles)) c.as_slice.ensures.piles in
    let has = dug_room c.args.cell lay (length c.as_slice-2.result.now) c.args.self.now
    c.reserve.new.self c.set_state.new.self c.requires.room c.chest_at-chest.ensures
    (omega (arith, stacks, c.in_ok-places.ensures, c.in_ok-reserve.ensures.ok))
    c.reserve.ensures.is c.in_ok-set_state.ensures.ok c.set_state.ensures.places in
    let some = has.room in
    omega (arith, some)

pub drop_all-requires-clause-room : goal.drop_all-requires-clause-room
drop_all-requires-clause-room c =
    let lay = filter_map item_of c.chest_at-chest.result in
    let stacks : c.stacks_in-stacks.result ≡ length lay = c.stacks_in-stacks.ensures
    ∙ ap (λ (piles : List Pile). length (filter_map item_of piles)) c.as_slice.ensures.piles in
    c.drop_item.ensures.rest (length lay)
    (dug_room c.args.cell lay (length c.as_slice-2.result.now) c.args.self.now
    c.reserve.new.self c.set_state.new.self c.requires.room c.chest_at-chest.ensures
    (omega (arith, stacks, c.in_ok-places.ensures, c.in_ok-reserve.ensures.ok))
    c.reserve.ensures.is c.in_ok-set_state.ensures.ok c.set_state.ensures.places)

pub returns-clause-ok : goal.returns-clause-ok
returns-clause-ok c =
    digs c.args.cell c.args.state c.as_slice-3.result.now c.block_item.result
    (filter_map item_of c.chest_at-chest.result) c.floor_of-spot.result c.args.self.now
    c.reserve.new.self c.set_state.new.self c.drop_item.new.self c.drop_all.new.self
    c.shut_all.new.self c.requires.is (c.as_slice-3.ensures.value ∙ c.in_ok-viewers.ensures)
    c.block_item.ensures c.chest_at-chest.ensures c.floor_of-spot.ensures.is
    c.reserve.ensures.is c.in_ok-set_state.ensures.ok c.drop_item.ensures.is
    c.drop_all.ensures.is c.shut_all.ensures
