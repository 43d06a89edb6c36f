use Rattle.mc_flush.proofs.client_view.flush.Goals as goal

pub flush_with-done-requires-clause-frames : goal.flush_with-done-requires-clause-frames
flush_with-done-requires-clause-frames g c =
    let v = c.args.view.now in c.new-encoded.ensures.frames v.land.now v.list.now
