use Rattle.std.proofs.Common.{ℕ, List, ◌++◌, ◌∙◌, ap, w32}
use Rattle.std.proofs.lemmas.Int.{to_z-of_z}
use Rattle.mc_told.specs.Runs.{LooksValue}
use Rattle.mc_told.proofs.Runs.{frames_at, run_next}
use Rattle.mc_told.proofs.encoded_looks.EncodedLooks.follow.Goals as goal

pub returns-then-at-self-clause-due : goal.returns-then-at-self-clause-due
returns-then-at-self-clause-due c =
    let looks = c.args.self.now in
    let at = c.in-Some.at in
    run_next looks.encoded.moves c.args.out.now.items looks.due _ c.go_on.new.self.due looks.place at
    c.go_on.ensures.due
    (c.if-at-self.true ∙ ap (λ (v : LooksValue). v.place) c.self.view_is)
    (frames_at looks.encoded c.args.eid _ c.args.from.now c.args.to.now at
    (to_z-of_z w32 c.args.eid c.ranges.eid) c.requires c.in-Some.ensures)

pub returns-clause-due : goal.returns-clause-due
returns-clause-due c =
    let looks = c.args.self.now in
    c.in_ok-begin.ensures.due
    ∙ ap (λ (more : List ℕ). (c.args.out.now.items ++ looks.due) ++ more)
    (frames_at looks.encoded c.args.eid _ c.args.from.now c.args.to.now c.in-Some.at
    (to_z-of_z w32 c.args.eid c.ranges.eid) c.requires c.in-Some.ensures)
