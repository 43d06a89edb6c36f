use Rattle.std.proofs.Common.{◌∙◌, refl, None, Some}
use Rattle.mc_slots.specs.Chest.{empty_chest}
use Rattle.mc_land.specs.Places.{Key}
use Rattle.mc_land.proofs.PutFacts.{after_made, changed_chests, put_cell, chest_at, none_of}
use Rattle.mc_land.proofs.PutFacts.{back_again, same_chests}
use Rattle.mc_land.proofs.land.Land.put_chest.Goals as goal

pub invariant_of-self-in-Ok : goal.invariant_of-self-in-Ok
invariant_of-self-in-Ok c =
    let was = rw (← c.self.view_is) at c.requires.was in
    let each = λ (q : Key). changed_chests c.self.inside.chests.entries c.insert.new.self.entries _
    _ q (Some empty_chest) (c.in_ok-_none.ensures.updates.0 q ∙ rw c.new.ensures.value refl)
    c.key_of-key.ensures.is in
    let are = after_made c.self.inside.chests.entries c.insert.new.self.entries _ _ c.args.state
    c.insert.ensures.ordered was c.requires.is each in (
      (put_cell c.self.inside.terrain c.self.inside.columns.items c.put_state.new.columns.items
          c.self.inside.chests.entries _ c.args.cell.now.x c.args.cell.now.y c.args.cell.now.z
          c.args.state c.requires.inside c.self.invariant.0 c.in-Ok.ensures.ok are).1,
      c.put_state.ensures.indexed,
      c.put_state.ensures.upkeep,
    )

pub invariant_of-self-in-Err : goal.invariant_of-self-in-Err
invariant_of-self-in-Err c =
    let was = rw (← c.self.view_is) at c.requires.was in
    let none = none_of _ (chest_at c.self.inside.terrain c.self.inside.columns.items
    c.self.inside.chests.entries c.args.cell.now.x c.args.cell.now.y c.args.cell.now.z
    c.requires.inside c.self.invariant.0 ∙ was) in
    let made = λ (q : Key). changed_chests c.self.inside.chests.entries c.insert.new.self.entries _
    _ q (Some empty_chest) (c.in_ok-_none.ensures.updates.0 q ∙ rw c.new.ensures.value refl)
    c.key_of-key.ensures.is in
    let back = λ (q : Key). changed_chests c.insert.new.self.entries c.remove-chest.new.self.entries
    _ _ q None (c.remove-chest.ensures.updates.0 q) c.key_of-key.ensures.is in (
      (same_chests c.self.inside.terrain c.self.inside.columns.items c.put_state.new.columns.items
          c.self.inside.chests.entries c.remove-chest.new.self.entries c.in-Err.ensures.err
          c.self.invariant.0 c.remove-chest.ensures.ordered (back_again _ _ _ _ none made back)).1,
      c.put_state.ensures.indexed,
      c.put_state.ensures.upkeep,
    )

pub returns-in-Ok-clause-ok : goal.returns-in-Ok-clause-ok
returns-in-Ok-clause-ok c =
    let was = rw (← c.self.view_is) at c.requires.was in
    let each = λ (q : Key). changed_chests c.self.inside.chests.entries c.insert.new.self.entries _
    _ q (Some empty_chest) (c.in_ok-_none.ensures.updates.0 q ∙ rw c.new.ensures.value refl)
    c.key_of-key.ensures.is in
    let are = after_made c.self.inside.chests.entries c.insert.new.self.entries _ _ c.args.state
    c.insert.ensures.ordered was c.requires.is each in
    rw (← c.self.view_is) (put_cell c.self.inside.terrain c.self.inside.columns.items
    c.put_state.new.columns.items c.self.inside.chests.entries _ c.args.cell.now.x
    c.args.cell.now.y c.args.cell.now.z c.args.state c.requires.inside c.self.invariant.0
    c.in-Ok.ensures.ok are).0

pub returns-in-Err-clause-err : goal.returns-in-Err-clause-err
returns-in-Err-clause-err c =
    let was = rw (← c.self.view_is) at c.requires.was in
    let none = none_of _ (chest_at c.self.inside.terrain c.self.inside.columns.items
    c.self.inside.chests.entries c.args.cell.now.x c.args.cell.now.y c.args.cell.now.z
    c.requires.inside c.self.invariant.0 ∙ was) in
    let made = λ (q : Key). changed_chests c.self.inside.chests.entries c.insert.new.self.entries _
    _ q (Some empty_chest) (c.in_ok-_none.ensures.updates.0 q ∙ rw c.new.ensures.value refl)
    c.key_of-key.ensures.is in
    let back = λ (q : Key). changed_chests c.insert.new.self.entries c.remove-chest.new.self.entries
    _ _ q None (c.remove-chest.ensures.updates.0 q) c.key_of-key.ensures.is in
    rw (← c.self.view_is) (same_chests c.self.inside.terrain c.self.inside.columns.items
    c.put_state.new.columns.items c.self.inside.chests.entries c.remove-chest.new.self.entries
    c.in-Err.ensures.err c.self.invariant.0 c.remove-chest.ensures.ordered
    (back_again _ _ _ _ none made back)).0
