use Rattle.std.proofs.Common.{rules, ◌∙◌, ap, w32, to_z, of_z}
use Rattle.std.proofs.lemmas.Int.{to_z-of_z}
use Rattle.std.specs.Ordering.{int_cmp}
use Rattle.std.specs.FinMap.{from_sorted, insert}
use lib.IntN.{ℤ}
use Rattle.mc_told.proofs.KeptRows.{put_in_gap, put_over}
use Rattle.mc_told.proofs.numbered.put_row.Goals as goal

pub returns-in-Ok-clause-rising : goal.returns-in-Ok-clause-rising
returns-in-Ok-clause-rising g c =
    let es = c.args.rows.now.items in
    let eid = to_z w32 (of_z w32 c.args.eid) in
    (put_over es c.in-Ok.at eid c.args.value c.requires.rising (search rules)).rises

pub returns-in-Ok-clause-ok : goal.returns-in-Ok-clause-ok
returns-in-Ok-clause-ok g c =
    let es = c.args.rows.now.items in
    let eid = to_z w32 (of_z w32 c.args.eid) in
    (put_over es c.in-Ok.at eid c.args.value c.requires.rising (search rules)).is
    ∙ ap (λ (k : ℤ). insert (from_sorted {R = int_cmp} es) k c.args.value)
    (to_z-of_z w32 c.args.eid c.ranges.eid)

pub returns-in_ok-insert-in-Err-clause-rising : goal.returns-in_ok-insert-in-Err-clause-rising
returns-in_ok-insert-in-Err-clause-rising g c =
    let es = c.args.rows.now.items in
    let eid = to_z w32 (of_z w32 c.args.eid) in
    rw c.in_ok-insert-in-Err.ensures.items
    (put_in_gap es c.in-Err.at eid c.args.value c.requires.rising (search rules)).rises

pub returns-in_ok-insert-in-Err-clause-ok : goal.returns-in_ok-insert-in-Err-clause-ok
returns-in_ok-insert-in-Err-clause-ok g c =
    let es = c.args.rows.now.items in
    let eid = to_z w32 (of_z w32 c.args.eid) in
    rw c.in_ok-insert-in-Err.ensures.items
    ((put_in_gap es c.in-Err.at eid c.args.value c.requires.rising (search rules)).is
    ∙ ap (λ (k : ℤ). insert (from_sorted {R = int_cmp} es) k c.args.value)
    (to_z-of_z w32 c.args.eid c.ranges.eid))
