-- What columns are encoded one after another, and what is looked at for it.
use Rattle.std.proofs.Common.{◌≡◌, ℕ, ◌+◌, ◌*◌, ◌≤◌, Bool, true, false, cond, List, [], ◌∷◌, length}
use Rattle.std.proofs.Common.{suc, refl, sym, ap, ◌∙◌, arith}
use Rattle.std.proofs.lemmas.List.Sums.{sum_by-append, sum_by-cons}
use Rattle.std.specs.Prelude.{Option, Some, None}
use Rattle.std.specs.FinMap.{FinMap}
use Rattle.std.specs.List.{filter, sum_by}
use Rattle.mc_column.specs.Sizes.{cells}
use Rattle.mc_fields.specs.declared.position.Cell.{Cell}
use Rattle.mc_land.specs.Places.{Place, is_height, key_cmp}
use Rattle.mc_land.specs.Land.{LandValue}
use Rattle.mc_view.specs.declared.view_set.ViewSet.{ViewSet}
use Rattle.mc_view.specs.Sets.{all_of, is_within}
use Rattle.mc_loads.specs.Columns.{staying, stays}
use Rattle.mc_flush.specs.Encoding.{EncodedValue, change_cost, has_changes, has_load, load_cost}
use Rattle.mc_flush.specs.Encoding.{looks_at, with_changes, with_load}
use Rattle.mc_flush.specs.Seeing.{MarkValue, loaded}
use Rattle.mc_model.specs.Notes.{is_sent}
use Rattle.mc_model.specs.declared.player.Player.{Player}
use Rattle.mc_model.specs.Game.{Game, sees}
use Rattle.mc_play.specs.Kept.{GameValue, land_of}
use Rattle.mc_showing.specs.Ahead.{prepared, with_all_changes, with_loads, with_stayed_changes}
use Rattle.mc_showing.specs.Around.{IsAround, kept_columns}
use Rattle.mc_showing.specs.Looking.{cells_of, changed_in, note_looks, noted_looks, view_looks}
use Rattle.mc_showing.specs.Preparing.{Prepares}
use Rattle.mc_showing.proofs.ColumnFacts.{around_columns, loaded_are}

-- ---- of a game its cells alone are read

pub load_as : (v u : GameValue) (land : LandValue) (old new : EncodedValue) (place : Place) →
    land ≡ land_of u → Prepares v u → new ≡ with_load old land place →
    new ≡ with_load old (cells_of v.settled v.game) place
load_as v u land old new place is same put =
    put ∙ ap (λ (l : LandValue). with_load old l place) is
    ∙ (λ i. with_load old (cells_of (same.settled i) (same.game i)) place)

pub load_since : (v u : GameValue) (old new : EncodedValue) (place : Place) → Prepares v u →
    new ≡ with_load old (cells_of u.settled u.game) place →
    new ≡ with_load old (cells_of v.settled v.game) place
load_since v u old new place same put =
    put ∙ (λ i. with_load old (cells_of (same.settled i) (same.game i)) place)

pub loads_as : (v u : GameValue) (old : EncodedValue) (places : List Place) → Prepares v u →
    with_loads (cells_of u.settled u.game) old places
    ≡ with_loads (cells_of v.settled v.game) old places
loads_as v u old places same = λ i. with_loads (cells_of (same.settled i) (same.game i)) old places

pub changes_as : (v u : GameValue) (land : LandValue) (old new : EncodedValue)
    (places : List Place) → land ≡ land_of u → Prepares v u →
    new ≡ with_all_changes land old places →
    new ≡ with_all_changes (cells_of v.settled v.game) old places
changes_as v u land old new places is same put =
    put ∙ ap (λ (l : LandValue). with_all_changes l old places) is ∙ alike u places old
    ∙ (λ i. with_all_changes (cells_of (same.settled i) (same.game i)) old places)
  where
    alike : (u : GameValue) (places : List Place) (e : EncodedValue) →
        with_all_changes (land_of u) e places
        ≡ with_all_changes (cells_of u.settled u.game) e places
    alike u [] e = refl
    alike u (place ∷ places) e = alike u places (with_changes e (land_of u) place)

pub changed_as : (v u : GameValue) (land : LandValue) (places : List Place) → land ≡ land_of u →
    Prepares v u → sum_by (changed_in land) places
    ≡ sum_by (changed_in (cells_of v.settled v.game)) places
changed_as v u land places is same =
    ap (λ (l : LandValue). sum_by (changed_in l) places) is
    ∙ (λ i. sum_by (changed_in (cells_of (same.settled i) (same.game i))) places)

-- ---- the loads of columns

pub loads_next : (land : LandValue) (now after total : EncodedValue) (x : Place)
    (left rest : List Place) → left ≡ x ∷ rest → with_loads land now left ≡ total →
    after ≡ with_load now land x → with_loads land after rest ≡ total
loads_next land now after total x left rest is all put =
    ap (λ (e : EncodedValue). with_loads land e rest) put
    ∙ ap (with_loads land now) (sym is) ∙ all

pub loads_done : (land : LandValue) (now total : EncodedValue) (left : List Place) → left ≡ [] →
    with_loads land now left ≡ total → now ≡ total
loads_done land now total left none all = ap (with_loads land now) (sym none) ∙ all

pub load_within : (now after : ℕ) (encoded : EncodedValue) (place : Place) →
    after ≤ now + load_cost encoded place → after ≤ now + cells
load_within now after encoded place few = step (has_load encoded place) few
  where
    step : (b : Bool) → after ≤ now + cond b 0 cells → after ≤ now + cells
    step true few = omega (arith, few)
    step false few = few

one_more : (x : Place) (rest : List Place) → cells * length (x ∷ rest) ≡ cells + cells * length rest
one_more x rest = grind arith

-- where at most all of them are looked at
pub columns_next : (now after total : ℕ) (x : Place) (left rest : List Place) → left ≡ x ∷ rest →
    now + cells * length left ≤ total → after ≤ now + cells →
    after + cells * length rest ≤ total
columns_next now after total x left rest is all few =
    let size : cells * length left ≡ cells + cells * length rest =
    ap (λ (places : List Place). cells * length places) is ∙ one_more x rest in
    omega (arith, size, all, few)

pub columns_within : (now after total : ℕ) (x : Place) (left rest : List Place) →
    left ≡ x ∷ rest → now + cells * length left ≤ total → after ≤ now + cells → after ≤ total
columns_within now after total x left rest is all few =
    omega (arith, columns_next now after total x left rest is all few)

-- ---- changed cells, column by column

module _ (land : LandValue) (was : Option ViewSet) (view : ViewSet) where
  stayed_next : (x : Place) (rest : List Place) (e : EncodedValue) →
      with_stayed_changes land was view e (x ∷ rest)
      ≡ with_stayed_changes land was view (with_stayed_changes land was view e (x ∷ [])) rest
  stayed_next x rest e =
      let later : List Place = staying was view rest in
      elim (stays was view x) as (λ b. with_all_changes land e (cond b (x ∷ later) later)
      ≡ with_all_changes land (with_all_changes land e (cond b (x ∷ []) [])) later) [
        | true ↦ refl
        | false ↦ refl
      ]

  pub changes_next : (now after total : EncodedValue) (x : Place) (left rest : List Place) →
      left ≡ x ∷ rest → with_stayed_changes land was view now left ≡ total →
      after ≡ with_stayed_changes land was view now (x ∷ []) →
      with_stayed_changes land was view after rest ≡ total
  changes_next now after total x left rest is all put =
      ap (λ (e : EncodedValue). with_stayed_changes land was view e rest) put
      ∙ sym (stayed_next x rest now) ∙ ap (with_stayed_changes land was view now) (sym is) ∙ all

  pub changes_done : (now total : EncodedValue) (left : List Place) → left ≡ [] →
      with_stayed_changes land was view now left ≡ total → now ≡ total
  changes_done now total left none all =
      ap (with_stayed_changes land was view now) (sym none) ∙ all

  abbrev pub stayed_cost : List Place → ℕ
  stayed_cost places = sum_by (changed_in land) (staying was view places)

  cost_next : (x : Place) (rest : List Place) →
      stayed_cost (x ∷ rest) ≡ stayed_cost (x ∷ []) + stayed_cost rest
  cost_next x rest =
      let later : List Place = staying was view rest in
      elim (stays was view x) as (λ b. sum_by (changed_in land) (cond b (x ∷ later) later)
      ≡ sum_by (changed_in land) (cond b (x ∷ []) []) + sum_by (changed_in land) later) [
        | true ↦ sum_by-append (changed_in land) (x ∷ []) later
        | false ↦ omega arith
      ]

  pub looks_next : (now after total : ℕ) (x : Place) (left rest : List Place) →
      left ≡ x ∷ rest → now + stayed_cost left ≤ total → after ≤ now + stayed_cost (x ∷ []) →
      after + stayed_cost rest ≤ total
  looks_next now after total x left rest is all few =
      let whole : stayed_cost left ≡ stayed_cost (x ∷ []) + stayed_cost rest =
      ap stayed_cost is ∙ cost_next x rest in
      omega (arith, whole, all, few)

  pub looks_within : (now after total : ℕ) (x : Place) (left rest : List Place) →
      left ≡ x ∷ rest → now + stayed_cost left ≤ total → after ≤ now + stayed_cost (x ∷ []) →
      after ≤ total
  looks_within now after total x left rest is all few =
      omega (arith, looks_next now after total x left rest is all few)

  -- one that does not stay
  pub not_stayed : (x : Place) (e : EncodedValue) → stays was view x ≡ false →
      e ≡ with_stayed_changes land was view e (x ∷ [])
  not_stayed x e t = sym (ap (λ (b : Bool). with_all_changes land e (cond b (x ∷ []) [])) t)

  -- and one that does
  pub one_stayed : (x : Place) (old new : EncodedValue) → stays was view x ≡ true →
      new ≡ with_changes old land x → new ≡ with_stayed_changes land was view old (x ∷ [])
  one_stayed x old new t put =
      put ∙ sym (ap (λ (b : Bool). with_all_changes land old (cond b (x ∷ []) [])) t)

  pub one_looked : (x : Place) (now after : ℕ) (e : EncodedValue) → stays was view x ≡ true →
      after ≤ now + change_cost e land x → after ≤ now + stayed_cost (x ∷ [])
  one_looked x now after e t few =
      let cost : stayed_cost (x ∷ []) ≡ changed_in land x =
      ap (λ (b : Bool). sum_by (changed_in land) (cond b (x ∷ []) [])) t ∙ omega arith in
      step (has_changes e x) cost few
    where
      step : (b : Bool) → stayed_cost (x ∷ []) ≡ changed_in land x →
          after ≤ now + cond b 0 (changed_in land x) → after ≤ now + stayed_cost (x ∷ [])
      step true cost few = omega (arith, few)
      step false cost few = omega (arith, cost, few)

-- ---- a view

module _ (v u : GameValue) (land : LandValue) (entered came stayed : List Place)
    (is : land ≡ land_of u) (same : Prepares v u) (comes : entered ≡ came) where
  abbrev cells_at : LandValue
  cells_at = cells_of v.settled v.game

  pub view_prepared : (old mid new : EncodedValue) → mid ≡ with_loads cells_at old entered →
      new ≡ with_all_changes land mid stayed →
      new ≡ with_all_changes cells_at (with_loads cells_at old came) stayed
  view_prepared old mid new loaded changed =
      changes_as v u land mid new stayed is same changed
      ∙ (λ i. with_all_changes cells_at (loaded i) stayed)
      ∙ ap (λ (places : List Place). with_all_changes cells_at
      (with_loads cells_at old places) stayed) comes

  pub view_within : (now mid after : ℕ) → mid ≤ now + cells * length entered →
      after ≤ mid + sum_by (changed_in land) stayed →
      after ≤ now + (cells * length came + sum_by (changed_in cells_at) stayed)
  view_within now mid after loads changes =
      let first : cells * length entered ≡ cells * length came =
      ap (λ (places : List Place). cells * length places) comes in
      let second : sum_by (changed_in land) stayed ≡ sum_by (changed_in cells_at) stayed =
      changed_as v u land stayed is same in
      omega (arith, first, second, loads, changes)

-- where memory ran out before any change was looked at
pub view_begun : (entered came : List Place) (now mid more : ℕ) → entered ≡ came →
    mid ≤ now + cells * length entered → mid ≤ now + (cells * length came + more)
view_begun entered came now mid more comes loads =
    let first : cells * length entered ≡ cells * length came =
    ap (λ (places : List Place). cells * length places) comes in
    omega (arith, first, loads)

-- ---- a client

module _ (settled : FinMap key_cmp ℕ) (g : Game) (mark : MarkValue) (o : Option Player)
    (p : Player) (view : ViewSet) (here : o ≡ Some p) (around : IsAround g p view) where
  kept_are : filter (is_within mark.view) (all_of view) ≡ kept_columns g p mark
  kept_are = ap (filter (is_within mark.view)) (around_columns g p view around)

  pub one_prepared : (old new : EncodedValue) →
      new ≡ with_all_changes (cells_of settled g)
      (with_loads (cells_of settled g) old (loaded mark view))
      (filter (is_within mark.view) (all_of view)) → new ≡ prepared settled g mark o old
  one_prepared old new put =
      put ∙ (λ i. with_all_changes (cells_of settled g)
      (with_loads (cells_of settled g) old (loaded_are g p mark view around i)) (kept_are i))
      ∙ ap (λ (q : Option Player). prepared settled g mark q old) (sym here)

  pub one_within : (now after : ℕ) → after ≤ now + (cells * length (loaded mark view)
      + sum_by (changed_in (cells_of settled g)) (filter (is_within mark.view) (all_of view))) →
      after ≤ now + view_looks settled g mark o
  one_within now after few =
      let looks : cells * length (loaded mark view)
      + sum_by (changed_in (cells_of settled g)) (filter (is_within mark.view) (all_of view))
      ≡ view_looks settled g mark o =
      (λ i. cells * length (loaded_are g p mark view around i)
      + sum_by (changed_in (cells_of settled g)) (kept_are i))
      ∙ ap (view_looks settled g mark) (sym here) in
      omega (arith, looks, few)

-- ---- a flush

noted_one : (cell : Cell) → looks_at cell ≤ 1
noted_one cell = step (is_height cell.y)
  where
    step : (b : Bool) → cond b 1 0 ≤ 1
    step true = omega arith
    step false = omega arith

noted_few : (g : Game) (p : Player) (noted : List Cell) →
    sum_by looks_at (filter (is_sent (sees g p)) noted) ≤ length noted
noted_few g p [] = omega arith
noted_few g p (cell ∷ noted) =
    let later : List Cell = filter (is_sent (sees g p)) noted in
    let rest : sum_by looks_at later ≤ length noted = noted_few g p noted in
    elim (is_sent (sees g p) cell) as (λ b.
    sum_by looks_at (cond b (cell ∷ later) later) ≤ suc (length noted)) [
      | true ↦ omega (arith, sum_by-cons looks_at cell later, noted_one cell, rest)
      | false ↦ omega (arith, rest)
    ]

-- the noted cells that are looked at are no more than those that were noted
pub noted_within : (g : Game) (o : Option Player) → noted_looks g o ≤ note_looks o
noted_within g None = omega arith
noted_within g (Some p) = noted_few g p p.notes.cells
