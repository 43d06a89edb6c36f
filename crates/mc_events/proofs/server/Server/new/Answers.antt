use Rattle.std.proofs.Common.{ℕ, List, [], subst, sym}
use Rattle.std.specs.Prelude.{None}
use Rattle.std.specs.FinMap.{FinMap}
use Rattle.std.specs.Ordering.{nat_cmp}
use Rattle.mc_links.specs.Kept.{ConnectionValue}
use Rattle.mc_events.specs.Served.{AreNumbers}
use Rattle.mc_events.proofs.Numbers.{numbers_none}
use Rattle.mc_events.proofs.Standing.{new_stands}
use Rattle.mc_events.proofs.server.Server.new.Goals as goal

pub invariant_of-result : goal.invariant_of-result
invariant_of-result c = subst (λ (ids : List ℕ). AreNumbers ids c.new-3.result None)
    (sym c.new-2.ensures.items)
    (subst (λ (m : FinMap nat_cmp ConnectionValue). AreNumbers [] m None) (sym c.new-3.ensures)
    numbers_none)

pub returns : goal.returns
returns c = λ plans count. rw (c.new-3.ensures, c.new-4.ensures)
    (new_stands c.args.settings c.args.mobs c.in_ok-game.game plans c.requires.settings
    c.requires.mobs c.in_ok-game.ensures count)
