-- What happens to the edits where a column is made ready and where a cell of one is set.
use Rattle.std.proofs.Common.{◌≡◌, ℕ, ◌<◌, true, false, cond, eqb, List}
use Rattle.std.proofs.Common.{length, get_or, set, Option, Some, None, refl, sym, ◌∙◌}
use Rattle.std.proofs.Common.{arith}
use Rattle.std.proofs.lemmas.Bool.Decides.{nat_tests}
use Rattle.std.specs.declared.cmp.Ordering.{Ordering}
use Rattle.std.specs.declared.cmp.Ordering.TheVariants.{Equal}
use Rattle.std.specs.Ordering.{is_eq, eq_by_cmp}
use Rattle.std.specs.FinMap.{FinMap, find, get, insert, remove, get-insert, get-remove, same_map}
use Rattle.std.proofs.lemmas.Bool.{ltb-true, lt-ltb, eqb-true, eq-eqb}
use Rattle.std.proofs.lemmas.Grind.{common_steps}
use Rattle.std.proofs.lemmas.List.{get_or-set_same, get_or-set_other}
use Rattle.mc_column.specs.Sizes.{cells}
use Rattle.mc_land.specs.declared.terrain.Terrain.{Terrain}
use Rattle.mc_land.specs.Places.{Place, Key, place_cmp, key_cmp}
use Rattle.mc_land.specs.Land.{terrain_at, state_at, edited}
use Rattle.mc_land.specs.Kept.{kept_edits, IsApart}
use Rattle.mc_land.proofs.Orders.{keys_total, exact_keys}
use Rattle.mc_land.proofs.EditsFacts.{changed_at, get_kept, other_column}

abbrev Columns : Type 0
Columns = List (Place × List ℕ)

-- two lists of columns with the same edits at each cell have the same edits
pub same_edits : (terrain : Terrain) (old new : Columns) → IsApart old → IsApart new →
    ((c : Place) (i : ℕ) → changed_at terrain c i (find place_cmp c new) ≡
    changed_at terrain c i (find place_cmp c old)) → kept_edits terrain new ≡ kept_edits terrain old
same_edits terrain old new apart apart' same =
    same_map keys_total exact_keys (kept_edits terrain new) (kept_edits terrain old)
    (λ q. get_kept terrain new q.0 q.1 apart' ∙ same q.0 q.1 ∙
    sym (get_kept terrain old q.0 q.1 apart))

-- a column of the terrain's own states has no edit
pub none_changed : (terrain : Terrain) (c : Place) (i : ℕ) (states : List ℕ) →
    ((j : ℕ) → j < cells → get_or states j 0 ≡ terrain_at terrain (c, j)) →
    changed_at terrain c i (Some states) ≡ None
none_changed terrain c i states own = grind (arith, common_steps, eq-eqb, ltb-true)

-- the state of a cell is that in its column, where that is ready, else the terrain's
pub state_ready : (terrain : Terrain) (columns : Columns) (c : Place) (i : ℕ) (states : List ℕ) →
    IsApart columns → find place_cmp c columns ≡ Some states → i < cells →
    state_at terrain (kept_edits terrain columns) (c, i) ≡ get_or states i 0
state_ready terrain columns c i states apart found inside =
    grind (arith, nat_tests, lt-ltb, get_kept, eqb-true)

pub state_else : (terrain : Terrain) (columns : Columns) (c : Place) (i : ℕ) → IsApart columns →
    find place_cmp c columns ≡ None → state_at terrain (kept_edits terrain columns) (c, i) ≡
    terrain_at terrain (c, i)
state_else terrain columns c i apart none = grind (arith, nat_tests, get_kept)

-- ---- a column is made ready

-- the columns with one more, or one in place of another
abbrev pub Puts : Columns → Columns → Place → List ℕ → Type 0
Puts old new c states = (q : Place) → find place_cmp q new ≡ cond (eq_by_cmp place_cmp q c)
    (Some states) (find place_cmp q old)

is_equal : (o : Ordering) → is_eq o ≡ true → o ≡ Equal
is_equal o e = grind (arith, nat_tests)

-- a look-up in both, by cases on the column
by_place : (P : Option (List ℕ) → Type 0) (old new : Columns) (c d : Place) (states : List ℕ) →
    Puts old new c states → (d ≡ c → P (Some states)) → (eq_by_cmp place_cmp d c ≡ false →
    P (find place_cmp d old)) → P (find place_cmp d new)
by_place P old new c d states puts here elsewhere = grind (arith, nat_tests)

-- making a column ready changes no cell
pub ready_edits : (terrain : Terrain) (old new : Columns) (c : Place) (states : List ℕ) →
    IsApart old → IsApart new → find place_cmp c old ≡ None → Puts old new c states →
    ((j : ℕ) → j < cells → get_or states j 0 ≡ terrain_at terrain (c, j)) → kept_edits terrain new ≡
    kept_edits terrain old
ready_edits terrain old new c states apart apart' none puts own =
    same_edits terrain old new apart apart' (λ d i. by_place (λ o. changed_at terrain d i o ≡
    changed_at terrain d i (find place_cmp d old)) old new c d states puts
    (λ e. rw (e, none) (none_changed terrain c i states own))
    (λ t. refl))

-- ---- a cell is set

-- the edit that a cell becomes
abbrev becomes : Terrain → Key → ℕ → Option ℕ
becomes terrain key state = cond (eqb state (terrain_at terrain key)) None (Some state)

get_edited : (terrain : Terrain) (edits : FinMap key_cmp ℕ) (key q : Key) (state : ℕ) →
    get (edited terrain edits key state) q ≡ cond (eq_by_cmp key_cmp q key)
    (becomes terrain key state) (get edits q)
get_edited terrain edits key q state =
    elim (eqb state (terrain_at terrain key)) as
    (λ b. get (cond b (remove edits key) (insert edits key state)) q ≡
    cond (eq_by_cmp key_cmp q key) (cond b None (Some state)) (get edits q)) [
      | true ↦ get-remove keys_total edits key q
      | false ↦ get-insert keys_total edits key state q
    ]

-- the edit at the cell that was set
set_here : (terrain : Terrain) (c : Place) (i state : ℕ) (states : List ℕ) → i < cells →
    i < length states → changed_at terrain c i (Some (set states i state)) ≡
    becomes terrain (c, i) state
set_here terrain c i state states inside within = grind (arith, nat_tests, lt-ltb, get_or-set_same)

-- the edits at the others of its column
set_other : (terrain : Terrain) (c : Place) (i j state : ℕ) (states : List ℕ) → (j ≡ i → ⊥) →
    changed_at terrain c j (Some (set states i state)) ≡ changed_at terrain c j (Some states)
set_other terrain c i j state states ne = rw (get_or-set_other states i j state 0 ne) refl

pub set_edits : (terrain : Terrain) (old new : Columns) (c : Place) (i state : ℕ) (states : List ℕ)
    → IsApart old → IsApart new → find place_cmp c old ≡ Some states →
    Puts old new c (set states i state) → i < cells → i < length states → kept_edits terrain new ≡
    edited terrain (kept_edits terrain old) (c, i) state
set_edits terrain old new c i state states apart apart' found puts inside within =
    same_map keys_total exact_keys (kept_edits terrain new) (edited terrain (kept_edits terrain old)
    (c, i) state) (λ q.
    get_kept terrain new q.0 q.1 apart'
    ∙ by_place (λ o. changed_at terrain q.0 q.1 o ≡ cond (eq_by_cmp key_cmp q (c, i))
    (becomes terrain (c, i) state) (get (kept_edits terrain old) q)) old new c q.0
    (set states i state) puts
    (λ e. in_column q.0 q.1 e)
    (λ t. rw (other_column q.0 c q.1 i t) (sym (get_kept terrain old q.0 q.1 apart)))
    ∙ sym (get_edited terrain (kept_edits terrain old) (c, i) q state))
  where
    in_column : (d : Place) (j : ℕ) → d ≡ c → changed_at terrain d j (Some (set states i state)) ≡
        cond (eq_by_cmp key_cmp (d, j) (c, i)) (becomes terrain (c, i) state)
        (get (kept_edits terrain old) (d, j))
    in_column d j e = grind (arith, nat_tests, set_here, set_other, get_kept)
