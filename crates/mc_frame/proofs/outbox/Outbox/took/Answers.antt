use Rattle.std.proofs.Common.{◌≡◌, ◌+◌, ◌<◌, ◌∙◌, length, sym, ap, arith}
use Rattle.mc_frame.specs.Kept.{kept_bytes}
use Rattle.mc_frame.proofs.Pieces.{kept_took, shown_len}
use Rattle.mc_frame.proofs.outbox.Outbox.took.Goals as goal

pub invariant_of-self-2 : goal.invariant_of-self-2
invariant_of-self-2 c =
    let o = c.self.inside in
    let len : length c.args.self.now ≡ o.len = ap length (sym c.self.view_is) ∙
    shown_len o.pieces.items o.joined.items o.at o.len c.self.invariant in
    let less : c.args.n < o.len = omega (arith, len, c.requires, c.if-n-self.false) in
    let all = c.self.invariant.counted in
    let within : o.at + c.args.n < length (kept_bytes o.pieces.items o.joined.items) =
    omega (arith, less, all) in
    let after = c.drop_before-self-inside.ensures in
    kept_took o.pieces.items c.drop_before-self-inside.new.pieces.items o.joined.items o.at
    c.drop_before-self-inside.result o.len c.args.n less c.self.invariant
    (after.rest o.joined.items) (after.in_first o.joined.items within) after.pieces_fit
