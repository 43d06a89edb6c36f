use Rattle.std.proofs.Common.{sym, ◌∙◌}
use Rattle.mc_status.proofs.Seats.{ends_at, inside_at_once}
use Rattle.mc_status.proofs.playing.Client.is_inside.Goals as goal

pub returns : goal.returns
returns c most start held x m =
    let h = m.has in
    c.is_inside.ensures h.world h.stands ∙ inside_at_once h.world m.seat h.sits
    ∙ ends_at h.world m.seat h.sits ∙ sym (ends_at x.world m.seat m.exchange)
