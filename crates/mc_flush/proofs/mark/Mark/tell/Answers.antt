use Rattle.mc_flush.proofs.mark.Mark.tell.Goals as goal

pub returns-clause-gone : goal.returns-clause-gone
returns-clause-gone c =
    rw (
      ← c.self.view_is,
      ← c.entities.ensures.folk,
      ← c.entities.ensures.me,
      ← c.entities.ensures.view,
    ) c.tell.ensures.gone
