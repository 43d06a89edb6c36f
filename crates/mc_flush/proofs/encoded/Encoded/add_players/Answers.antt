use Rattle.std.proofs.Common.{◌≡◌, ℕ, List, Some, sym, subst, ap, ◌∙◌}
use Rattle.mc_flush.specs.Encoding.{AreFrames, EncodedValue, player_bytes, with_players}
use Rattle.mc_flush.proofs.Encodings.{players_added}
use Rattle.mc_flush.proofs.encoded.Encoded.add_players.Goals as goal

pub returns-clause-frames : goal.returns-clause-frames
returns-clause-frames c = λ land frames.
    let list = c.args.list.now in
    let inside = c.self.inside in
    let loads = inside.columns.loads in
    let changes = inside.columns.changes in
    let entities = inside.entities in
    let lines = inside.lines in
    let made : EncodedValue = record {
      players = Some c.in_ok-piece.piece;
      loads = loads;
      changes = changes;
      entities = entities;
      lines = lines;
    } in
    let is : made ≡ with_players c.args.self.now list =
    ap (λ (bytes : List ℕ). record {
      players = Some bytes;
      loads = loads;
      changes = changes;
      entities = entities;
      lines = lines;
    })
    c.in_ok-piece.ensures
    ∙ ap (λ (e : EncodedValue). record e { players = Some (player_bytes list) }) c.self.view_is in
    subst (AreFrames land list) (sym is) (players_added land list c.args.self.now frames)
