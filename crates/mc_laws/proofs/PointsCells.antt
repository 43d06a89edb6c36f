-- What the packets of changed cells make of what a client sees: each column that stays is as it is
-- wanted.
use Rattle.std.proofs.Common.{◌≡◌, ℕ, List, [], ◌∷◌, Option, Some, None, refl, sym, ap, ◌∙◌, arith}
use Rattle.std.specs.Prelude.{slice_index}
use Rattle.std.specs.List.{filter, fold, AllByRecursion}
use Rattle.std.specs.FinMap.{get, entries, entries_sorted, get-entries}
use Rattle.std.proofs.lemmas.Bool.Decides.{nat_tests}
use Rattle.mc_column.specs.Cells.{ColumnValue}
use Rattle.mc_land.specs.Places.{Place}
use Rattle.mc_land.proofs.Orders.{places_total, exact_places}
use Rattle.mc_model.specs.Sight.{Sight}
use Rattle.mc_model.specs.Replica.{Columns, apply, seeing}
use Rattle.mc_model.specs.Delta.{Follows, differing, cell_packets, column_changes, cells_point}
use Rattle.mc_model.proofs.Maps.Sorted.{take_out, put_in, is_without, joined, get_joined}
use Rattle.mc_model.proofs.Maps.Sorted.{all_put_in, put_there}
use Rattle.mc_model.proofs.FitsCells.{CellFits, differing_fit}
use Rattle.mc_model.proofs.PointsCells.{all_set, change_set, records_set, set_cells, with_column}
use Rattle.mc_laws.proofs.Leading.{Leads, no_packets, led, walked}

-- the packets of some cells of a column set them
cells_lead : (s : Sight) (m : Columns) (place : Place) (column : ColumnValue)
    (states indices : List ℕ) → AllByRecursion (CellFits states) indices →
    Leads (with_column s m place column) (cell_packets place states indices)
    (with_column s m place
    (record column { states = set_cells states column.states indices }))
unfolding apply
cells_lead s m place column states [] f = record { is = refl }
cells_lead s m place column states (i ∷ []) f = record {
  is = ap (λ (columns : Columns). seeing (record s { columns = columns }))
      (change_set m place column i (slice_index states i) f.0.index f.0.state);
}
cells_lead s m place column states (i ∷ j ∷ later) f = record {
  is = ap (λ (columns : Columns). seeing (record s { columns = columns }))
      (records_set m place column states (i ∷ j ∷ later) f);
}

-- ---- all of them

-- once the columns are those that are wanted, the packets of changed cells make each of them so
pub cells_point_leads : (p q s : Sight) → Follows p q →
    Leads (record s {
      columns = fold put_in (fold take_out p.columns
          (filter (is_without q.columns) (entries p.columns)))
          (filter (is_without p.columns) (entries q.columns));
    }) (cells_point p q) (record s { columns = q.columns })
cells_point_leads p q s follows =
    let loaded : Columns = fold put_in (fold take_out p.columns
    (filter (is_without q.columns) (entries p.columns)))
    (filter (is_without p.columns) (entries q.columns)) in
    led refl
    (ap (λ (m : Columns). record s { columns = m })
    (all_put_in places_total exact_places loaded q.columns
    (λ place none. get_joined places_total exact_places p.columns q.columns place
    ∙ ap (joined (get p.columns place)) none)))
    (walked places_total (λ (m : Columns). record s { columns = m })
    (λ (e : Place × ColumnValue). column_changes e.0 (get p.columns e.0) e.1)
    (λ (place : Place) (v : ColumnValue) (o : Option ColumnValue).
    (o ≡ joined (get p.columns place) (Some v)) × (get q.columns place ≡ Some v))
    (λ m place v before. cases m place v before.1 (get p.columns place) refl before.0)
    (entries q.columns) (entries_sorted q.columns) loaded
    (λ place v found. (
      get_joined places_total exact_places p.columns q.columns place
          ∙ ap (joined (get p.columns place)) (get-entries q.columns place ∙ found),
      get-entries q.columns place ∙ found,
    )))
  where
    cases : (m : Columns) (place : Place) (v : ColumnValue) → get q.columns place ≡ Some v →
        (old : Option ColumnValue) → get p.columns place ≡ old →
        get m place ≡ joined (get p.columns place) (Some v) →
        Leads (record s { columns = m }) (column_changes place old v) (with_column s m place v)
    cases m place v wanted None e before =
        led refl (ap (λ (n : Columns). record s { columns = n })
        (sym (put_there places_total exact_places m place v
        (before ∙ ap (λ (o : Option ColumnValue). joined o (Some v)) e))))
        (no_packets (record s { columns = m }))
    cases m place v wanted (Some old) e before =
        let was = follows.old.sizes place old e in
        let are = follows.new.sizes place v wanted in
        let same : record old {
          states = set_cells v.states old.states
              (differing old.states v.states);
        } ≡ v = grind (arith, nat_tests, all_set) in
        led (ap (λ (n : Columns). record s { columns = n })
        (sym (put_there places_total exact_places m place old
        (before ∙ ap (λ (o : Option ColumnValue). joined o (Some v)) e))))
        (ap (with_column s m place) same)
        (cells_lead s m place old v.states (differing old.states v.states)
        (differing_fit old.states v.states are.states_are (follows.new.states place v wanted)))
