use Rattle.std.proofs.Common.{◌≡◌, ℕ, List, ◌++◌, sym, refl, ◌∙◌}
use Rattle.mc_column.specs.Cells.{ColumnValue}
use Rattle.mc_column.specs.KeptColumn.{kept_column}
use Rattle.mc_column.specs.Sent.{column_mask, column_bytes, body_bytes}
use Rattle.mc_column.proofs.ColumnFacts.{kept_sizes}
use Rattle.mc_column.proofs.SentFacts.{kept_mask, kept_left_out, column_mask_names}
use Rattle.mc_column.proofs.SentFacts.{body_bytes_spell}
use Rattle.mc_column.proofs.column.Column.write_body.Goals as goal

-- what was appended is the body of the column
appended : (sections : List (List ℕ)) (biomes given : List ℕ) (column : ColumnValue) (mask : ℕ)
    (out reserved new : List ℕ) → kept_column sections biomes ≡ column →
    mask ≡ column_mask (kept_column sections biomes) → reserved ≡ out → given ≡ biomes →
    new ≡ reserved ++ body_bytes (kept_column sections given) mask →
    new ≡ out ++ column_bytes column
appended sections biomes given column mask out reserved new view is same whole put =
    put ∙ rw (same, whole, is, view) refl

pub returns-in_err-reserve-clause-names : goal.returns-in_err-reserve-clause-names
returns-in_err-reserve-clause-names c =
    rw (← c.self.view_is) (column_mask_names _ (kept_sizes _ _ c.self.invariant))

pub returns-in_err-reserve-clause-spelled : goal.returns-in_err-reserve-clause-spelled
returns-in_err-reserve-clause-spelled c =
    rw (← c.self.view_is) (body_bytes_spell _ _ (kept_sizes _ _ c.self.invariant))

pub returns-in_err-reserve-clause-sizes : goal.returns-in_err-reserve-clause-sizes
returns-in_err-reserve-clause-sizes c = rw (← c.self.view_is) (kept_sizes _ _ c.self.invariant)

pub append_body-requires-clause-air : goal.append_body-requires-clause-air
append_body-requires-clause-air c i lt left_out = kept_left_out c.self.inside.sections.items
    c.sent_mask-mask.result i c.sent_mask-mask.ensures lt left_out

pub returns-clause-mask : goal.returns-clause-mask
returns-clause-mask c = rw (← c.self.view_is) (c.sent_mask-mask.ensures ∙
    sym (kept_mask _ _ c.self.invariant))

pub returns-clause-ok : goal.returns-clause-ok
returns-clause-ok c =
    appended _ _ _ _ _ _ _ _ c.self.view_is (c.sent_mask-mask.ensures ∙
    sym (kept_mask _ _ c.self.invariant)) c.reserve.ensures.items c.deref.ensures.value
    c.append_body.ensures

pub returns-clause-names : goal.returns-clause-names
returns-clause-names c =
    rw (← c.self.view_is) (column_mask_names _ (kept_sizes _ _ c.self.invariant))

pub returns-clause-spelled : goal.returns-clause-spelled
returns-clause-spelled c =
    rw (← c.self.view_is) (body_bytes_spell _ _ (kept_sizes _ _ c.self.invariant))

pub returns-clause-sizes : goal.returns-clause-sizes
returns-clause-sizes c = rw (← c.self.view_is) (kept_sizes _ _ c.self.invariant)
