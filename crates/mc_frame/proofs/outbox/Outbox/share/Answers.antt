use Rattle.std.proofs.Common.{◌≡◌, ◌+◌, ◌≤◌, ℕ, List, ◌++◌, length, sym, ap, ◌∙◌, arith}
use Rattle.mc_frame.specs.Kept.{kept_bytes, outbox_max}
use Rattle.mc_frame.proofs.Pieces.{kept_share, shared-bytes, shown_len, shown_more}
use Rattle.mc_frame.proofs.outbox.Outbox.share.Goals as goal

pub invariant_of-self : goal.invariant_of-self
invariant_of-self c =
    c.seal.ensures.kept c.self.inside.at c.self.inside.len c.self.invariant

pub invariant_of-self-in_err-push_back : goal.invariant_of-self-in_err-push_back
invariant_of-self-in_err-push_back c =
    rw c.in_err-push_back.ensures.items
    (c.seal.ensures.kept c.self.inside.at c.self.inside.len c.self.invariant)

pub invariant_of-self-2 : goal.invariant_of-self-2
invariant_of-self-2 c =
    let o = c.self.inside in
    let len : length c.args.self.now ≡ o.len = ap length (sym c.self.view_is) ∙
    shown_len o.pieces.items o.joined.items o.at o.len c.self.invariant in
    let room : o.len + length c.args.piece ≤ outbox_max = omega (arith, len, c.requires.room) in
    rw c.len-len.ensures.value (kept_share c.seal.new.pieces.items c.push_back.new.self.items
    c.seal.new.joined.items c.args.piece o.at o.len c.in_ok-push_back.ensures.items
    c.in_ok-seal.ensures.fewer c.requires.large room
    (c.seal.ensures.kept o.at o.len c.self.invariant))

pub returns-clause-ok : goal.returns-clause-ok
returns-clause-ok c =
    let o = c.self.inside in
    shown_more (kept_bytes o.pieces.items o.joined.items)
    (kept_bytes c.push_back.new.self.items c.seal.new.joined.items) c.args.piece c.args.self.now
    o.at o.len c.self.invariant.counted
    (shared-bytes c.seal.new.pieces.items c.push_back.new.self.items c.seal.new.joined.items
    c.args.piece c.in_ok-push_back.ensures.items c.in_ok-seal.ensures.fewer
    ∙ ap (λ (t : List ℕ). t ++ c.args.piece) c.seal.ensures.same)
    c.self.view_is
