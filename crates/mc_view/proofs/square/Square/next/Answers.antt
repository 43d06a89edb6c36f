use Rattle.std.proofs.Common.{sym, ap, ◌∙◌, ◌∷◌, ◌+◌, arith}
use Rattle.mc_column.specs.Places.{Place}
use Rattle.mc_view.specs.Squares.{rest_of}
use Rattle.mc_view.proofs.Rows.{in_row}
use Rattle.mc_view.proofs.square.Square.next.Goals as goal

pub returns-then-self-2 : goal.returns-then-self-2
returns-then-self-2 c =
    let s = c.self.inside in
    sym c.self.view_is ∙ in_row s.corner.west s.corner.north s.side s.row s.left s.at (omega arith)
    ∙ ap (λ (x : Place). x ∷ rest_of s.corner.west s.corner.north s.side s.row s.left (s.at + 1))
    (sym c.column_at-column.ensures)
