use Rattle.std.proofs.Common.{None}
use Rattle.mc_land.proofs.PutFacts.{after_gone, changed_chests, put_cell}
use Rattle.mc_land.proofs.land.Land.put_over_chest.Goals as goal

pub invariant_of-self-2 : goal.invariant_of-self-2
invariant_of-self-2 c =
    let are = after_gone c.self.inside.chests.entries c.remove-chest.new.self.entries _ _
    c.args.state c.remove-chest.ensures.ordered c.requires.is (λ q. changed_chests _ _ _ _ q
    None (c.remove-chest.ensures.updates.0 q) c.key_of.ensures.is) in (
      (put_cell c.self.inside.terrain c.self.inside.columns.items c.put_state.new.columns.items
          c.self.inside.chests.entries _ c.args.cell.now.x c.args.cell.now.y c.args.cell.now.z
          c.args.state c.requires.inside c.self.invariant.0 c.in_ok-put_state.ensures.ok are).1,
      c.put_state.ensures.indexed,
      c.put_state.ensures.upkeep,
    )

pub returns-clause-ok : goal.returns-clause-ok
returns-clause-ok c =
    let are = after_gone c.self.inside.chests.entries c.remove-chest.new.self.entries _ _
    c.args.state c.remove-chest.ensures.ordered c.requires.is (λ q. changed_chests _ _ _ _ q
    None (c.remove-chest.ensures.updates.0 q) c.key_of.ensures.is) in
    rw (← c.self.view_is) (put_cell c.self.inside.terrain c.self.inside.columns.items
    c.put_state.new.columns.items c.self.inside.chests.entries _ c.args.cell.now.x
    c.args.cell.now.y c.args.cell.now.z c.args.state c.requires.inside c.self.invariant.0
    c.in_ok-put_state.ensures.ok are).0
