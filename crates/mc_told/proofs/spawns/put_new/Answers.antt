use Rattle.std.proofs.Common.{◌++◌, ◌∙◌, ℕ, List, ap}
use Rattle.mc_told.proofs.EntityFrames.{spawn_found}
use Rattle.mc_told.proofs.spawns.put_new.Goals as goal

pub returns-in_ok-extend_from_slice-in-Some : goal.returns-in_ok-extend_from_slice-in-Some
returns-in_ok-extend_from_slice-in-Some c =
    let is = spawn_found c.args.encoded.now.encoded c.args.row.now c.in-Some.frames.now c.requires.frames
    c.in-Some.ensures in
    c.in_ok-extend_from_slice-in-Some.ensures.items
    ∙ ap (λ (bytes : List ℕ). c.args.out.now.items ++ bytes) (c.deref.ensures ∙ is)
