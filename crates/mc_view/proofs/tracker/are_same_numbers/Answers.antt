use Rattle.std.proofs.Common.{rules, ◌≡◌, ◌≤◌, length, arith}
use Rattle.mc_view.proofs.LostFacts.{numbers_alike}
use Rattle.mc_view.proofs.tracker.are_same_numbers.Goals as goal

pub returns : goal.returns
returns c = λ t.
    let es = c.args.entries.now in
    let fs = c.args.others.now in
    let same : length es ≡ length fs = search rules in
    let all : length es ≤ c.loop-i.i = search rules in
    numbers_alike es fs same (λ j d lt. c.loop-i.invariant j d (omega (arith, lt, all)))
