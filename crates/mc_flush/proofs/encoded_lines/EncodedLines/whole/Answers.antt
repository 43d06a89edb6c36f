use Rattle.std.proofs.Common.{◌≡◌, ℕ, IfSome, List, Option, rules, sym, subst}
use Rattle.mc_sending.specs.Sending.{play_bytes}
use Rattle.mc_flush.specs.LineFrames.{AreLines, texts_of}
use Rattle.mc_flush.specs.Seeing.{line_packets}
use Rattle.mc_flush.proofs.LineFrames.{piece_is}
use Rattle.mc_flush.proofs.encoded_lines.EncodedLines.whole.Goals as goal

pub returns : goal.returns
returns c = λ are.
    let lines = c.self.inside.lines.items in
    let all : AreLines lines = subst AreLines (sym c.self.view_is) are in
    let same : texts_of lines ≡ c.args.texts.now = search rules in
    subst (λ (piece : Option (List ℕ)). IfSome piece
    (λ bytes. bytes ≡ play_bytes (line_packets c.args.texts.now))) (sym c.as_ref.ensures.value)
    (piece_is c.self.inside.piece lines c.args.texts.now c.self.invariant all same)
