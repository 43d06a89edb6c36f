-- What a client is told of after a tick: exactly the rows of what is shown.
use Rattle.std.proofs.Common.{◌≡◌, ℕ, not, T, List, [], ◌∷◌, ◌++◌, map, take, take_all, Option}
use Rattle.std.proofs.Common.{Some, None, cond, refl, sym, ap, ◌∙◌, arith, inl, inr}
use Rattle.std.proofs.lemmas.List.{map-append}
use Rattle.std.specs.Prelude.{false, is_some, option_map, slice_get}
use Rattle.std.proofs.lemmas.Option.{slice_get_cases}
use Rattle.std.specs.List.{AllByRecursion, filter, fold}
use Rattle.std.specs.declared.cmp.Ordering.{Ordering}
use Rattle.std.specs.Ordering.{int_cmp, is_eq}
use Rattle.std.specs.Cmp.{tied_itself}
use Rattle.std.proofs.lemmas.Cmp.{int_cmp_total}
use Rattle.std.proofs.lemmas.Int.{ints}
use Rattle.std.proofs.lemmas.List.Folds.{fold-map}
use Rattle.std.proofs.lemmas.List.Sums.{fold-append}
use Rattle.std.proofs.lemmas.Grind.{flat_map-append}
use Rattle.std.specs.FinMap.{contains_key, contains_key-keys, empty, entries, find, get, get-empty}
use Rattle.std.specs.FinMap.{get-entries}
use Rattle.std.specs.FinMap.{int_cmp-IsAntisymmetric, is_sorted, keys, same_entries_map}
use Rattle.std.specs.FinMap.Entries.{below_all}
use Rattle.mc_fields.specs.declared.position.Spot.{Spot}
use Rattle.mc_slots.specs.declared.pile.Pile.{Pile}
use Rattle.mc_packets.specs.declared.down.Down.{Down}
use Rattle.std.proofs.lemmas.Bool.Decides.{nat_tests}
use lib.IntN.{ℤ, pos}
use lib.Signed.{◌≤ℤ◌}
use Rattle.mc_entities.specs.declared.entity.Entity.{Entity}
use Rattle.mc_entities.specs.Folk.{eid_of}
use Rattle.mc_entities.specs.Numbers.{Rise}
use Rattle.mc_view.specs.declared.view_set.ViewSet.{ViewSet}
use Rattle.mc_view.specs.Told.{Told}
use Rattle.mc_view.proofs.EntryFacts.{above, less}
use Rattle.mc_view.proofs.LostFacts.{own_known}
use Rattle.mc_model.specs.Delta.{entity_packets}
use Rattle.mc_model.specs.Sight.{others}
use Rattle.mc_model.proofs.Maps.Sorted.{all_put_in, put_in}
use Rattle.mc_told.specs.declared.row.Row.{Row}
use Rattle.mc_sending.specs.Sending.{play_bytes}
use Rattle.mc_told.specs.Telling.{gone_from, row_packets, rows_in, rows_packets, shown_now}
use Rattle.mc_told.specs.Telling.{told_as, told_now, told_row, with_row, with_rows}
use Rattle.mc_sending.proofs.Keys.{same_filter}
use Rattle.mc_told.proofs.Ordered.{entries_made, first, second}
use Rattle.mc_told.proofs.SameRows.{unchanged}
use Rattle.mc_sending.proofs.Pieces.{next_piece, play_bytes-append}
use Rattle.mc_told.proofs.Rows.{rows_rise, shown_known}

-- ---- all but the own entity

-- the others rise, also from below
others_above : (me less low high : ℤ) (es : List Entity) → less ≤ℤ low →
    Rise eid_of low es high → Rise eid_of less (others me es) high
others_above me less low high [] le r = grind (arith, nat_tests)
others_above me less low high (e ∷ es) le r =
    grind (
      arith,
      nat_tests,
      others_above me less e.eid high es (omega (arith, ints, le, r.0)) r.1,
      others_above me e.eid e.eid high es (omega (arith, ints)) r.1,
    )

-- they rise where all do
pub others_rise : (me high : ℤ) (es : List Entity) → Rise eid_of (pos 0) es high →
    Rise eid_of (pos 0) (others me es) high
others_rise me high es r = others_above me (pos 0) (pos 0) high es (omega (arith, ints)) r

-- the rows of the others are those of the first, if that is one, and of those behind it
rows_next : (view : ViewSet) (me : ℤ) (e : Entity) (es : List Entity) →
    rows_in view (others me (e ∷ es))
    ≡ rows_in view (others me (e ∷ [])) ++ rows_in view (others me es)
rows_next view me e es = grind (arith, nat_tests)

-- ---- what is told afterwards

-- what is told now is the rows, entry by entry
now_entries : (es : List Entity) (view : ViewSet) (high : ℤ) → Rise eid_of (pos 0) es high →
    entries (told_now es view) ≡ map told_row (rows_in view es)
now_entries es view high r = entries_made int_cmp int_cmp_total int_cmp-IsAntisymmetric
    (map told_row (rows_in view es)) (rows_rise view (pos 0) high es r)

-- the rows of all that are shown, put by nobody's side
pub told_all : (es : List Entity) (view : ViewSet) (high : ℤ) → Rise eid_of (pos 0) es high →
    with_rows empty (rows_in view es) ≡ told_now es view
told_all es view high r =
    sym (fold-map (put_in {R = int_cmp}) told_row empty (rows_in view es))
    ∙ ap (fold put_in empty) (sym (now_entries es view high r))
    ∙ all_put_in int_cmp_total int_cmp-IsAntisymmetric empty (told_now es view)
    (λ q none. get-empty int_cmp q)

-- what is gone is what was told and is so no more
pub lost_is : (told now : Told) (es : List Entity) (view : ViewSet) → now ≡ told_now es view →
    filter (λ (eid : ℤ). not (contains_key now eid)) (keys told) ≡ gone_from told es view
lost_is told now es view is =
    ap (λ (m : Told). filter (λ (eid : ℤ). not (contains_key m eid)) (keys told)) is
    ∙ same_filter (λ (eid : ℤ). not (contains_key (told_now es view) eid))
    (λ (eid : ℤ). not (contains_key (shown_now es view) eid))
    (λ (eid : ℤ). ap not (sym (shown_known view es eid))) (keys told)

-- ---- where nobody is told now

-- all of a list is taken where none stands at a place
pub all_taken : {X : Type 0} (xs : List X) (i : ℕ) → slice_get xs i ≡ None → take i xs ≡ xs
all_taken xs i none = elim ((slice_get_cases xs i).1) [
  | inl there ↦ let both : Some there.0 ≡ None = sym there.2 ∙ none in absurd cc
  | inr past ↦ take_all i xs past.0
]

pub nobody_known : (m : Told) (first : Option ℤ) → first ≡ slice_get (keys m) 0 →
    is_some first ≡ false → keys m ≡ []
nobody_known m None is none = sym (all_taken (keys m) 0 (sym is))
nobody_known m (Some eid) is none = absurd cc

-- all numbers are unknown to who knows nobody
pub all_lost : (m : Told) → keys m ≡ [] → (eids : List ℤ) →
    filter (λ (eid : ℤ). not (contains_key m eid)) eids ≡ eids
all_lost m none [] = refl
all_lost m none (eid ∷ eids) = rw (contains_key-keys m eid, none)
    (ap (λ (rest : List ℤ). eid ∷ rest) (all_lost m none eids))

-- ---- where nothing changed

-- each of rising rows is found among what is told of them
all_found : (rows : List Row) → T (is_sorted int_cmp (map told_row rows)) →
    AllByRecursion (λ (row : Row).
    find int_cmp row.eid (map told_row rows) ≡ Some (row.spot, row.pile)) rows
all_found [] up = tt
all_found (row ∷ rows) up = (
  grind (arith, nat_tests, tied_itself int_cmp_total row.eid),
  later row rows rows (first _ _ up) (all_found rows (second _ _ up)),
)
  where
    later : (row : Row) (rows all : List Row) → T (below_all int_cmp row.eid (map told_row rows)) →
        AllByRecursion (λ (r : Row).
        find int_cmp r.eid (map told_row all) ≡ Some (r.spot, r.pile)) rows →
        AllByRecursion (λ (r : Row).
        find int_cmp r.eid (map told_row (row ∷ all)) ≡ Some (r.spot, r.pile)) rows
    later row [] all below found = tt
    later row (r ∷ rs) all below found = (
      ap (λ (o : Ordering). cond (is_eq o) (Some (row.spot, row.pile)) (find int_cmp r.eid
          (map told_row all))) (above row.eid r.eid (less _ (first _ _ below))) ∙ found.0,
      later row rs all (second _ _ below) found.1,
    )

-- nothing is told of rows that are found so
none_sent : (told : Told) (rows : List Row) → AllByRecursion (λ (row : Row).
    get told row.eid ≡ Some (row.spot, row.pile)) rows → rows_packets told rows ≡ []
none_sent told [] found = refl
none_sent told (row ∷ rows) found =
    ap (λ (was : Option (Spot × Pile)). entity_packets row.eid
    (option_map (told_as row.kind) was) (told_as row.kind (row.spot, row.pile))
    ++ rows_packets told rows) found.0
    ∙ ap (λ (packets : List Down). packets ++ rows_packets told rows)
    (unchanged row.eid row.kind (row.spot, row.pile))
    ∙ none_sent told rows found.1

module _ (told : Told) (es : List Entity) (view : ViewSet) (high : ℤ)
    (rise : Rise eid_of (pos 0) es high)
    (same : entries told ≡ map told_row (rows_in view es))
  where
    -- what was told of just the rows of what is shown is what is told now
    pub told_same : told ≡ told_now es view
    told_same = same_entries_map told (told_now es view)
        (same ∙ sym (now_entries es view high rise))

    -- nobody is gone
    pub none_gone : gone_from told es view ≡ []
    none_gone = sym (lost_is told told es view told_same) ∙ own_known told

    -- and nothing is told
    pub none_told : rows_packets told (rows_in view es) ≡ []
    none_told = none_sent told (rows_in view es) (all_got (rows_in view es)
        (all_found (rows_in view es) (rows_rise view (pos 0) high es rise)))
      where
        all_got : (rows : List Row) → AllByRecursion (λ (row : Row). find int_cmp row.eid
            (map told_row (rows_in view es)) ≡ Some (row.spot, row.pile)) rows →
            AllByRecursion (λ (row : Row). get told row.eid ≡ Some (row.spot, row.pile)) rows
        all_got [] found = tt
        all_got (row ∷ rows) found = (
          get-entries told row.eid ∙ ap (find int_cmp row.eid) same ∙ found.0,
          all_got rows found.1,
        )

-- ---- a loop over entities

-- the rows of all but the own entity
abbrev rows : ViewSet → ℤ → List Entity → List Row
rows view me es = rows_in view (others me es)

module _ (view : ViewSet) (me : ℤ) (e : Entity) (left rest : List Entity) (is : left ≡ e ∷ rest)
  where
    -- the rows of what is left are those of the next and those of the rest
    cut : rows view me left ≡ rows view me (e ∷ []) ++ rows view me rest
    cut = ap (rows view me) is ∙ rows_next view me e rest

    -- what is told of the next, and then of the rest, is what is told of what is left
    pub step_past : (was now : List (ℤ × (Spot × Pile))) →
        was ≡ map told_row (rows view me (e ∷ [])) ++ now → now ≡ map told_row (rows view me rest) →
        was ≡ map told_row (rows view me left)
    step_past was now past same = past
        ∙ ap (λ (more : List (ℤ × (Spot × Pile))).
        map told_row (rows view me (e ∷ [])) ++ more) same
        ∙ sym (map-append told_row (rows view me (e ∷ [])) (rows view me rest))
        ∙ sym (ap (map told_row) cut)

    -- what was sent of the next, and what is sent of the rest, is what is sent of all
    pub step_sent : (told looks : Told) (before after total : List ℕ) → looks ≡ told →
        after ≡ before ++ play_bytes (rows_packets looks (rows view me (e ∷ []))) →
        before ++ play_bytes (rows_packets told (rows view me left)) ≡ total →
        after ++ play_bytes (rows_packets told (rows view me rest)) ≡ total
    step_sent told looks before after total same put all =
        let one = rows_packets told (rows view me (e ∷ [])) in
        let later = rows_packets told (rows view me rest) in
        let whole : play_bytes (rows_packets told (rows view me left))
        ≡ play_bytes one ++ play_bytes later =
        ap (λ (all : List Row). play_bytes (rows_packets told all)) cut
        ∙ ap play_bytes (flat_map-append (row_packets told) (rows view me (e ∷ [])) (rows view me rest))
        ∙ play_bytes-append one later in
        next_piece before after total (play_bytes one) (play_bytes later)
        (play_bytes (rows_packets told (rows view me left))) whole all
        (put ∙ ap (λ (t : Told). before ++ play_bytes (rows_packets t (rows view me (e ∷ [])))) same)

    -- and what is kept of them is what is kept of all
    pub step_kept : (old now total : Told) → now ≡ with_rows old (rows view me (e ∷ [])) →
        with_rows old (rows view me left) ≡ total → with_rows now (rows view me rest) ≡ total
    step_kept old now total keeps all = ap (λ (t : Told). with_rows t (rows view me rest)) keeps
        ∙ sym (fold-append with_row old (rows view me (e ∷ [])) (rows view me rest))
        ∙ ap (with_rows old) (sym cut) ∙ all
