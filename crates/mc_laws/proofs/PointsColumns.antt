-- What the packets of columns that go and come make of what a client sees.
use Rattle.std.proofs.Common.{◌≡◌, Bool, true, false, cond, not, List, [], ◌∷◌, map, refl, ap, ◌∙◌}
use Rattle.std.proofs.Common.{arith}
use Rattle.std.specs.List.{filter, fold, AllByRecursion}
use Rattle.std.specs.FinMap.{insert, remove, entries, entries_sorted, contains_key, get-entries}
use Rattle.std.proofs.lemmas.Bool.Decides.{eqb_tells, nat_tests}
use Rattle.mc_column.specs.Cells.{ColumnValue, HasSizes}
use Rattle.mc_column.specs.Sent.{column_mask, column_bytes}
use Rattle.mc_column.proofs.SentFacts.{column_mask_names, column_read, column_again}
use Rattle.mc_land.specs.Places.{Place}
use Rattle.mc_land.proofs.Orders.{places_total}
use Rattle.mc_model.specs.Sight.{Sight}
use Rattle.mc_model.specs.Replica.{Columns, apply, replay, seeing, with_chunk}
use Rattle.mc_model.specs.Delta.{Follows, unload, load, unloads_point, loads_point}
use Rattle.mc_model.proofs.Maps.Sorted.{take_out, put_in, is_without, each_found}
use Rattle.mc_laws.proofs.Leading.{Leads}

-- unloading takes columns out
pub unloads_lead : (s : Sight) (test : Place → Bool) (es : List (Place × ColumnValue)) →
    replay (seeing s) (map unload (filter test (map (λ e. e.0) es)))
    ≡ seeing (record s { columns = fold take_out s.columns (filter (λ e. test e.0) es) })
unfolding apply
unloads_lead s test [] = refl
unloads_lead s test (e ∷ es) =
    elim (test e.0) as (λ b. replay (seeing s)
    (map unload (cond b (e.0 ∷ filter test (map (λ f. f.0) es))
    (filter test (map (λ f. f.0) es))))
    ≡ seeing (record s {
      columns = fold take_out s.columns
          (cond b (e ∷ filter (λ f. test f.0) es) (filter (λ f. test f.0) es));
    })) [
      | true ↦ unloads_lead (record s { columns = remove s.columns e.0 }) test es
      | false ↦ unloads_lead s test es
    ]

-- the body of a column that is loaded makes that column stand at its place
column_loaded : (columns : Columns) (place : Place) (column : ColumnValue) → HasSizes column →
    with_chunk true columns place true (column_mask column)
    (column_bytes column) ≡ insert columns place column
column_loaded columns place column sizes =
    grind (arith, nat_tests, eqb_tells, column_mask_names, column_read, column_again)

-- loading puts columns in
pub loads_lead : (s : Sight) (es : List (Place × ColumnValue)) →
    AllByRecursion (λ e. HasSizes e.1) es →
    replay (seeing s) (map load es) ≡ seeing (record s { columns = fold put_in s.columns es })
unfolding apply
loads_lead s [] sizes = refl
loads_lead s (e ∷ es) sizes =
    ap (λ (columns : Columns). replay (seeing (record s { columns = columns })) (map load es))
    (column_loaded s.columns e.0 e.1 sizes.0)
    ∙ loads_lead (record s { columns = insert s.columns e.0 e.1 }) es sizes.1

-- the columns that the second has not are taken out
pub unloads_point_leads : (p q s : Sight) →
    Leads (record s { columns = p.columns }) (unloads_point p q) (record s {
      columns =
          fold take_out p.columns (filter (is_without q.columns) (entries p.columns));
    })
unloads_point_leads p q s = record {
  is = unloads_lead (record s { columns = p.columns })
      (λ (place : Place). not (contains_key q.columns place)) (entries p.columns);
}

-- and those that the first has not are put in
pub loads_point_leads : (p q s : Sight) → Follows p q →
    Leads (record s {
      columns = fold take_out p.columns
          (filter (is_without q.columns) (entries p.columns));
    }) (loads_point p q) (record s {
      columns = fold put_in (fold take_out p.columns
          (filter (is_without q.columns) (entries p.columns)))
          (filter (is_without p.columns) (entries q.columns));
    })
loads_point_leads p q s follows = record {
  is = loads_lead (record s {
    columns =
        fold take_out p.columns (filter (is_without q.columns) (entries p.columns));
  })
      (filter (is_without p.columns) (entries q.columns))
      (each_found places_total (λ (e : Place × ColumnValue). HasSizes e.1) (is_without p.columns)
      (entries q.columns)
      (entries_sorted q.columns) (λ place column found. follows.new.sizes place column
      (get-entries q.columns place ∙ found)));
}
