use Rattle.std.proofs.Common.{◌≡◌, ℕ, length, true, sym, ap, ◌∙◌}
use Rattle.mc_column.specs.Cells.{ColumnValue, HasSizes}
use Rattle.mc_column.specs.Body.{body_size}
use Rattle.mc_column.specs.Sent.{column_mask, column_bytes}
use Rattle.mc_column.proofs.ColumnFacts.{kept_sizes}
use Rattle.mc_column.proofs.SentFacts.{body_bytes_spell}
use Rattle.mc_column.proofs.column.Column.sent_size.Goals as goal

-- the size of the body for a column's mask is that of its bytes
sized : (column : ColumnValue) (mask size : ℕ) → HasSizes column → mask ≡ column_mask column →
    size ≡ body_size mask true true → size ≡ length (column_bytes column)
sized column mask size sizes same is = is ∙ ap (λ (m : ℕ). body_size m true true) same ∙
    sym (body_bytes_spell column (column_mask column) sizes).body.size

pub returns : goal.returns
returns c = sized _ _ _ (rw (← c.self.view_is) (kept_sizes _ _ c.self.invariant)) c.requires
    c.body_size.ensures
