use Rattle.mc_land.proofs.PutFacts.{after_alike, chest_at, put_cell}
use Rattle.mc_land.proofs.land.Land.put_alike.Goals as goal

pub invariant_of-self-2 : goal.invariant_of-self-2
invariant_of-self-2 c =
    let alike = rw (← c.self.view_is) at c.requires.alike in
    let there = chest_at c.self.inside.terrain c.self.inside.columns.items
    c.self.inside.chests.entries c.args.cell.now.x c.args.cell.now.y c.args.cell.now.z
    c.requires.inside c.self.invariant.0 in
    let are = after_alike c.self.inside.chests.entries _ _ c.args.state
    c.self.invariant.0.chests_ordered alike there in (
      (put_cell c.self.inside.terrain c.self.inside.columns.items c.put_state.new.columns.items
          c.self.inside.chests.entries _ c.args.cell.now.x c.args.cell.now.y c.args.cell.now.z
          c.args.state c.requires.inside c.self.invariant.0 c.in_ok-put_state.ensures.ok are).1,
      c.put_state.ensures.indexed,
      c.put_state.ensures.upkeep,
    )

pub returns-clause-ok : goal.returns-clause-ok
returns-clause-ok c =
    let alike = rw (← c.self.view_is) at c.requires.alike in
    let there = chest_at c.self.inside.terrain c.self.inside.columns.items
    c.self.inside.chests.entries c.args.cell.now.x c.args.cell.now.y c.args.cell.now.z
    c.requires.inside c.self.invariant.0 in
    let are = after_alike c.self.inside.chests.entries _ _ c.args.state
    c.self.invariant.0.chests_ordered alike there in
    rw (← c.self.view_is) (put_cell c.self.inside.terrain c.self.inside.columns.items
    c.put_state.new.columns.items c.self.inside.chests.entries _ c.args.cell.now.x
    c.args.cell.now.y c.args.cell.now.z c.args.state c.requires.inside c.self.invariant.0
    c.in_ok-put_state.ensures.ok are).0
