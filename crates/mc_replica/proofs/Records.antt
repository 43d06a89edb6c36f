-- Changes of one column, one after another, are one change of the map of columns.
use Rattle.std.proofs.Common.{◌≡◌, Bool, true, false, cond, List, [], ◌∷◌, Option, Some, None, refl}
use Rattle.std.proofs.Common.{sym, ap, ◌∙◌}
use Rattle.std.specs.declared.cmp.Ordering.{Ordering}
use Rattle.std.specs.declared.cmp.Ordering.TheVariants.{Less, Equal, Greater}
use Rattle.std.specs.Ordering.{is_eq, eq_by_cmp}
use Rattle.std.specs.Cmp.{IsTotalOrder, tied_itself}
use Rattle.std.specs.FinMap.{FinMap, IsAntisymmetric, get, get-insert, insert, same_map}
use Rattle.mc_column.specs.Cells.{ColumnValue, with_state}
use Rattle.mc_land.specs.Places.{Place, place_cmp}
use Rattle.mc_land.proofs.Orders.{exact_places, places_total}
use Rattle.mc_packets.specs.declared.record.Record.{Record}
use Rattle.mc_model.specs.Replica.{Columns, altered, altered_from, low_state, record_index}
use Rattle.mc_model.specs.Replica.{with_records}
use Rattle.mc_replica.specs.Cells.{recorded}

equal : (r : Ordering) → is_eq r ≡ true → r ≡ Equal
equal Less e = absurd cc
equal Equal e = refl
equal Greater e = absurd cc

module _ {K X : Type 0} (R : K → K → Ordering) (o : IsTotalOrder R) (exact : IsAntisymmetric R)
  where
    -- what stands there is put there
    put_same : (m : FinMap R X) (k : K) (v : X) → get m k ≡ Some v → m ≡ insert m k v
    put_same m k v there =
        same_map o exact m (insert m k v) (λ q. step q (eq_by_cmp R q k) refl
        ∙ sym (get-insert o m k v q))
      where
        step : (q : K) (t : Bool) → eq_by_cmp R q k ≡ t → get m q ≡ cond t (Some v) (get m q)
        step q true tied = ap (get m) (exact q k (equal (R q k) tied)) ∙ there
        step q false tied = refl

    put_twice : (m : FinMap R X) (k : K) (v w : X) → insert (insert m k v) k w ≡ insert m k w
    put_twice m k v w =
        same_map o exact (insert (insert m k v) k w) (insert m k w) (λ q.
        get-insert o (insert m k v) k w q
        ∙ ap (cond (eq_by_cmp R q k) (Some w)) (get-insert o m k v q)
        ∙ step (eq_by_cmp R q k) q ∙ sym (get-insert o m k w q))
      where
        step : (t : Bool) (q : K) →
            cond t (Some w) (cond t (Some v) (get m q)) ≡ cond t (Some w) (get m q)
        step true q = refl
        step false q = refl

    got_put : (m : FinMap R X) (k : K) (v : X) → get (insert m k v) k ≡ Some v
    got_put m k v =
        get-insert o m k v k
        ∙ ap (λ (r : Ordering). cond (is_eq r) (Some v) (get m k)) (tied_itself o k)

    pub altered_none : (m : FinMap R X) (k : K) → m ≡ altered m k (λ v. v)
    altered_none m k = step (get m k) refl
      where
        step : (was : Option X) → get m k ≡ was → m ≡ altered_from m k (λ v. v) was
        step None e = refl
        step (Some v) e = put_same m k v e

    pub altered_twice : (m : FinMap R X) (k : K) (f g : X → X) →
        altered m k (λ v. g (f v)) ≡ altered (altered m k f) k g
    altered_twice m k f g = step (get m k) refl
      where
        step : (was : Option X) → get m k ≡ was → altered_from m k (λ v. g (f v)) was ≡
            altered (altered_from m k f was) k g
        step None e = ap (altered_from m k g) (sym e)
        step (Some v) e =
            sym (put_twice m k (f v) (g (f v)))
            ∙ ap (altered_from (insert m k (f v)) k g) (sym (got_put m k (f v)))

pub recorded_at_once : (columns : Columns) (place : Place) (records : List Record) →
    altered columns place (recorded records) ≡ with_records columns place records
recorded_at_once columns place [] =
    sym (altered_none place_cmp places_total exact_places columns place)
recorded_at_once columns place (r ∷ records) =
    altered_twice place_cmp places_total exact_places columns place
    (λ (c : ColumnValue). with_state c (record_index r) (low_state r.state)) (recorded records)
    ∙ recorded_at_once (altered columns place
    (λ (c : ColumnValue). with_state c (record_index r) (low_state r.state))) place records
