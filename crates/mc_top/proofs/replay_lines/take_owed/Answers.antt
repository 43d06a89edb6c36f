use Rattle.std.proofs.Common.{◌≡◌, true, false, refl, inl, rules, ◌∙◌}
use Rattle.std.proofs.lemmas.Result.{err_from_is_err_and}
use Rattle.mc_wire.proofs.Counts.{StandsOrRises-trans}
use Rattle.mc_text.proofs.Passing.{breaks_here}
use Rattle.mc_top.proofs.Tellings.{taking_start, taking_next, taking_done, taking_breaks}
use Rattle.mc_top.proofs.replay_lines.take_owed.Goals as goal

pub loop-piece-init : goal.loop-piece-init
loop-piece-init g c = record {
  taking = λ w s. taking_start c.args.connection w c.args.server.now _ c.args.lines.now.items s;
  age = refl;
  counts = inl refl;
}

pub returns-in_err-take_front-clause-breaks : goal.returns-in_err-take_front-clause-breaks
returns-in_err-take_front-clause-breaks g c w s =
    let p = err_from_is_err_and c.from_residual.result c.from_residual.ensures.1 in
    rw p.1 (taking_breaks c.args.connection w c.loop-piece.server _ _
    _ c.args.lines.now.items c.loop-piece.lines.items
    (c.loop-piece.invariant.taking w s) c.in_err-take_front.ensures.breaks)

pub returns-then-not-branch-clause-taken : goal.returns-then-not-branch-clause-taken
returns-then-not-branch-clause-taken g c w s =
    let more : c.in_ok-take_front.field-0 ≡ false = search rules in
    taking_done c.args.connection w c.loop-piece.server c.take_front.new.server
    _ _ _ c.args.lines.now.items c.loop-piece.lines.items c.take_front.new.lines.items
    c.in_ok-take_front.field-0 more
    (c.loop-piece.invariant.taking w s) c.in_ok-take_front.ensures.taken

pub loop-piece-preserved : goal.loop-piece-preserved
loop-piece-preserved g c =
    let more : c.in_ok-take_front.field-0 ≡ true = search rules in
    record {
      taking = λ w s. taking_next c.args.connection
          w c.loop-piece.server c.take_front.new.server _ _ _ c.args.lines.now.items
          c.loop-piece.lines.items c.take_front.new.lines.items c.in_ok-take_front.field-0 more
          (c.loop-piece.invariant.taking w s) c.in_ok-take_front.ensures.taken;
      age = c.in_ok-take_front.ensures.age ∙ c.loop-piece.invariant.age;
      counts = StandsOrRises-trans _ _ _ c.loop-piece.invariant.counts c.take_front.ensures.counts;
    }

pub returns-clause-breaks : goal.returns-clause-breaks
returns-clause-breaks g c w s = breaks_here _ _ _ _ _ _ (c.loop-piece.invariant.taking w s).lines
