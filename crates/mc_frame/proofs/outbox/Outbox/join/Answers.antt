use Rattle.std.proofs.Common.{◌≡◌, ℕ, List, ◌++◌, length, sym, ap, ◌∙◌, arith}
use Rattle.mc_frame.specs.Kept.{kept_bytes}
use Rattle.mc_frame.proofs.Pieces.{kept-small, kept_join, shown_len, shown_more}
use Rattle.mc_frame.proofs.outbox.Outbox.join.Goals as goal

pub invariant_of-self : goal.invariant_of-self
invariant_of-self c =
    c.seal.ensures.kept c.self.inside.at c.self.inside.len c.self.invariant

pub invariant_of-self-in_err-extend_from_slice : goal.invariant_of-self-in_err-extend_from_slice
invariant_of-self-in_err-extend_from_slice c =
    rw c.in_err-extend_from_slice.ensures.items
    (c.seal.ensures.kept c.self.inside.at c.self.inside.len c.self.invariant)

pub invariant_of-self-2 : goal.invariant_of-self-2
invariant_of-self-2 c =
    let o = c.self.inside in
    let len : length c.args.self.now ≡ o.len = ap length (sym c.self.view_is) ∙
    shown_len o.pieces.items o.joined.items o.at o.len c.self.invariant in
    kept_join c.seal.new.pieces.items c.seal.new.joined.items c.args.piece.now
    c.extend_from_slice.new.self.items o.at o.len c.in_ok-extend_from_slice.ensures.items
    c.in_ok-seal.ensures.fewer c.requires.small (omega (arith, len, c.requires.room))
    (c.seal.ensures.kept o.at o.len c.self.invariant)

pub returns-clause-ok : goal.returns-clause-ok
returns-clause-ok c =
    let o = c.self.inside in
    let piece = c.args.piece.now in
    shown_more (kept_bytes o.pieces.items o.joined.items)
    (kept_bytes c.seal.new.pieces.items c.extend_from_slice.new.self.items) piece c.args.self.now
    o.at o.len c.self.invariant.counted
    (ap (kept_bytes c.seal.new.pieces.items) c.in_ok-extend_from_slice.ensures.items
    ∙ kept-small c.seal.new.pieces.items c.seal.new.joined.items piece
    ∙ ap (λ (t : List ℕ). t ++ piece) c.seal.ensures.same)
    c.self.view_is
