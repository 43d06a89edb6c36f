use Rattle.std.proofs.Common.{◌≡◌, length, rules}
use Rattle.mc_frame.specs.Kept.{kept_bytes}
use Rattle.mc_frame.proofs.Pieces.{in_joined}
use Rattle.mc_frame.proofs.outbox.drop_before.Goals as goal

pub returns-clause-in_first : goal.returns-clause-in_first
returns-clause-in_first c = λ small within.
    let none : length c.loop-first.pieces.items ≡ 0 = search rules in
    in_joined c.loop-first.pieces.items c.args.place c.loop-first.at small
    (kept_bytes c.args.pieces.now.items small) none (c.loop-first.invariant.rest small) within
