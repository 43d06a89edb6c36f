-- Entities row by row: the rows of rising entities rise, and what is shown is shown by them.
use Rattle.std.proofs.Common.{◌≡◌, T, List, [], ◌∷◌, map, Option}
use Rattle.std.proofs.Common.{true, false, cond, refl, sym, subst, ap, ◌∙◌, arith}
use Rattle.std.specs.Prelude.{is_some, option_map}
use Rattle.std.specs.List.{flat_map}
use Rattle.std.specs.Ordering.{int_cmp}
use Rattle.std.proofs.lemmas.Cmp.{int_cmp_total}
use Rattle.std.proofs.lemmas.Int.{ints}
use Rattle.std.specs.FinMap.{contains_key, find, get, is_sorted, entries, from_entries}
use Rattle.std.specs.FinMap.{get-from_entries, int_cmp-IsAntisymmetric}
use Rattle.std.specs.FinMap.Entries.{below_all}
use Rattle.std.proofs.lemmas.Bool.Decides.{nat_tests}
use lib.IntN.{ℤ, pos}
use lib.Signed.{◌<ℤ◌, ◌≤ℤ◌}
use Rattle.mc_fields.specs.declared.position.Spot.{Spot}
use Rattle.mc_slots.specs.declared.pile.Pile.{Pile}
use Rattle.mc_entities.specs.declared.entity.Entity.{Entity}
use Rattle.mc_entities.specs.Folk.{eid_of}
use Rattle.mc_entities.specs.Numbers.{Rise}
use Rattle.mc_view.specs.declared.view_set.ViewSet.{ViewSet}
use Rattle.mc_view.specs.Told.{Told}
use Rattle.mc_model.specs.Sight.{Seen, seen_of}
use Rattle.mc_told.specs.declared.row.Row.{Row}
use Rattle.mc_told.specs.Telling.{entity_frames, in_view, kept_of, packets_of, shown_now}
use Rattle.mc_told.specs.Telling.{entity_row, is_in, told_slot, rows_in, rows_packets}
use Rattle.mc_told.specs.Telling.{seen_row, told_now, told_row}
use Rattle.mc_told.proofs.Ordered.{both, entries_made}
use Rattle.mc_told.proofs.Rising.{less, sorted_is, rising}

-- what is shown is shown by the rows
pub seen_rows : (view : ViewSet) (es : List Entity) →
    map seen_of (in_view view es) ≡ map seen_row (rows_in view es)
seen_rows view [] = grind (arith, nat_tests)
seen_rows view (e ∷ es) = grind (arith, nat_tests, seen_rows view es)

-- a row has the number of its entity
pub row_eid : (e : Entity) → (entity_row e).eid ≡ e.eid
row_eid e = grind (arith, nat_tests)

-- all rows are above a number that entities are above
pub rows_above : (view : ViewSet) (k low high : ℤ) (es : List Entity) → k ≤ℤ low →
    Rise eid_of low es high → T (below_all int_cmp k (map told_row (rows_in view es)))
rows_above view k low high [] le r = tt
rows_above view k low high (e ∷ es) le r =
    let lt : k <ℤ (entity_row e).eid = omega (arith, ints, le, r.0, row_eid e) in
    let rest = rows_above view k e.eid high es (omega (arith, ints, le, r.0)) r.1 in
    elim (is_in view e) as (λ b. T (below_all int_cmp k (map told_row
    (map entity_row (cond b (e ∷ in_view view es) (in_view view es)))))) [
      | true ↦ both _ _ (less k (entity_row e).eid lt) rest
      | false ↦ rest
    ]

-- the rows of rising entities rise
pub rows_rise : (view : ViewSet) (low high : ℤ) (es : List Entity) → Rise eid_of low es high →
    T (is_sorted int_cmp (map told_row (rows_in view es)))
rows_rise view low high [] r = tt
rows_rise view low high (e ∷ es) r =
    let rest = rows_rise view e.eid high es r.1 in
    elim (is_in view e) as (λ b. T (is_sorted int_cmp (map told_row
    (map entity_row (cond b (e ∷ in_view view es) (in_view view es)))))) [
      | true ↦ both _ _ (rows_above view (entity_row e).eid e.eid high es
          (omega (arith, ints, row_eid e)) r.1) rest
      | false ↦ rest
    ]

-- ---- what is shown

-- rows are shown under their own numbers
same_firsts : (rows : List Row) → map (λ (e : ℤ × Seen). e.0) (map seen_row rows)
    ≡ map (λ (e : ℤ × (Spot × Pile)). e.0) (map told_row rows)
same_firsts [] = refl
same_firsts (row ∷ rows) = ap (λ (ks : List ℤ). row.eid ∷ ks) (same_firsts rows)

-- what is shown by rising rows rises
seen_sorted : (rows : List Row) → T (is_sorted int_cmp (map told_row rows)) →
    T (is_sorted int_cmp (map seen_row rows))
seen_sorted rows up =
    subst T (sorted_is int_cmp (map told_row rows) ∙ ap (rising int_cmp) (sym (same_firsts rows))
    ∙ sym (sorted_is int_cmp (map seen_row rows))) up

-- entry by entry
pub shown_rows : (view : ViewSet) (es : List Entity) (high : ℤ) → Rise eid_of (pos 0) es high →
    entries (shown_now es view) ≡ map seen_row (rows_in view es)
shown_rows view es high r =
    ap (λ (rows : List (ℤ × Seen)). entries (from_entries {R = int_cmp} rows)) (seen_rows view es)
    ∙ entries_made int_cmp int_cmp_total int_cmp-IsAntisymmetric (map seen_row (rows_in view es))
    (seen_sorted (rows_in view es) (rows_rise view (pos 0) high es r))

-- what is kept of what is shown by a row is what is told of the row
find_seen : (q : ℤ) (rows : List Row) → option_map kept_of (find int_cmp q (map seen_row rows))
    ≡ option_map told_slot (find int_cmp q (map told_row rows))
find_seen q [] = grind (arith, nat_tests)
find_seen q (row ∷ rows) = grind (arith, nat_tests, find_seen q rows)

-- what is shown under a number is what is told then
pub shown_told : (view : ViewSet) (es : List Entity) (q : ℤ) →
    option_map kept_of (get (shown_now es view) q)
    ≡ option_map told_slot (get (told_now es view) q)
shown_told view es q =
    ap (λ (rows : List (ℤ × Seen)). option_map kept_of (get (from_entries {R = int_cmp} rows) q))
    (seen_rows view es)
    ∙ ap (option_map kept_of) (get-from_entries int_cmp_total (map seen_row (rows_in view es)) q)
    ∙ find_seen q (rows_in view es)
    ∙ ap (option_map told_slot)
    (sym (get-from_entries int_cmp_total (map told_row (rows_in view es)) q))

-- something is seen where something was told
pub known_alike : (o : Option Seen) (t : Option (Spot × Pile)) →
    option_map kept_of o ≡ option_map told_slot t → is_some o ≡ is_some t
known_alike o t same = grind (arith, nat_tests)

-- an entity is shown where it is told
pub shown_known : (view : ViewSet) (es : List Entity) (q : ℤ) →
    contains_key (shown_now es view) q ≡ contains_key (told_now es view) q
shown_known view es q = known_alike (get (shown_now es view) q) (get (told_now es view) q)
    (shown_told view es q)

-- ---- frames

-- the packets of what rows show are those of the rows
mapped_packets : (told : Told) (rows : List Row) →
    flat_map (packets_of told) (map seen_row rows) ≡ rows_packets told rows
mapped_packets told [] = grind (arith, nat_tests)
mapped_packets told (row ∷ rows) = grind (arith, nat_tests, mapped_packets told rows)

-- the frames of entities are those of their rows
pub frames_are : (told : Told) (es : List Entity) (view : ViewSet) →
    entity_frames told es view ≡ rows_packets told (rows_in view es)
frames_are told es view = ap (flat_map (packets_of told)) (seen_rows view es)
    ∙ mapped_packets told (rows_in view es)
