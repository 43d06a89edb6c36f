use Rattle.std.proofs.Common.{◌<◌, ℕ, List, length, ◌∙◌, arith}
use Rattle.mc_frame.proofs.Pieces.{kept_seal, sealed-bytes}
use Rattle.mc_frame.proofs.outbox.seal.Goals as goal

pub returns-clause-same : goal.returns-clause-same
returns-clause-same c =
    let pieces : List (List ℕ) = c.args.pieces.now.items in
    let same = c.in_ok-piece.ensures ∙ c.as_slice.ensures.value in
    sealed-bytes pieces c.push_back.new.self.items c.args.joined.now.items c.clear.new.self.items
    (rw (← same) c.in_ok-push_back.ensures.items) c.clear.ensures.items

pub returns-clause-kept : goal.returns-clause-kept
returns-clause-kept c =
    let pieces : List (List ℕ) = c.args.pieces.now.items in
    let same = c.in_ok-piece.ensures ∙ c.as_slice.ensures.value in
    let some : 0 < length c.args.joined.now.items =
    omega (arith, c.len.ensures, c.if-len-least.false, c.requires, c.args.joined.now.ok.0) in
    kept_seal pieces c.push_back.new.self.items c.args.joined.now.items c.clear.new.self.items
    (rw (← same) c.in_ok-push_back.ensures.items) c.clear.ensures.items some
