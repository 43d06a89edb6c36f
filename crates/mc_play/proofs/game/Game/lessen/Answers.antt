use Rattle.std.proofs.Common.{◌≡◌, ℤ, cond, refl, subst, true, w32}
use Rattle.std.proofs.lemmas.Int.{to_z-of_z}
use Rattle.std.specs.Ordering.{int_cmp, is_eq}
use Rattle.mc_entities.specs.Numbers.{is_among}
use Rattle.mc_play.proofs.Stowing.{empty_goes, rest_stays}
use Rattle.mc_play.proofs.game.Game.lessen.Goals as goal

pub returns-in_ok-insert-in-Empty-clause-is : goal.returns-in_ok-insert-in-Empty-clause-is
returns-in_ok-insert-in-Empty-clause-is c = rw c.in-Empty.is (empty_goes c.args.gone.now.keys
    c.insert.new.self.keys c.args.eid c.args.self.now.game _ refl (subst (λ (n : ℤ). (k : ℤ) →
    is_among c.insert.new.self.keys k ≡ cond (is_eq (int_cmp n k)) true
    (is_among c.args.gone.now.keys k)) (to_z-of_z w32 c.args.eid c.ranges.eid)
    c.in_ok-insert-in-Empty.ensures.updates.0))

pub returns-in-Full-clause-is : goal.returns-in-Full-clause-is
returns-in-Full-clause-is c = rw (
  c.in-Full.is,
  ← c.self.view_is,
  c.lie_as.ensures,
  to_z-of_z w32 c.args.eid c.ranges.eid,
) (rest_stays c.args.gone.now.keys c.args.eid c.in-Full.item _)
