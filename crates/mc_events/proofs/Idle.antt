-- A tick that finds no cell changed, no player away from the columns that its client was shown, and
-- no cell noted, looks at no cell.
use Rattle.std.proofs.Common.{◌≡◌, ℕ, zero, suc, ◌+◌, ◌*◌, ◌≤◌, Bool, true, List, [], ◌∷◌}
use Rattle.std.proofs.Common.{length, get_or, arith, refl, sym, ap, ◌∙◌}
use Rattle.std.proofs.lemmas.Bool.{eq-eqb}
use Rattle.std.proofs.lemmas.List.Elements.{Contains-append_right}
use Rattle.std.proofs.lemmas.List.Sums.{sum_by-cons}
use Rattle.std.specs.Prelude.{Option, Some, None, IfSome, map, not}
use Rattle.std.specs.List.{Contains, filter, range_with_len, sum_by}
use Rattle.std.specs.Ordering.{nat_cmp}
use Rattle.std.specs.FinMap.{FinMap, get, keys}
use Rattle.mc_land.specs.Land.{states_of}
use Rattle.mc_land.specs.Places.{Place, key_cmp}
use Rattle.mc_land.specs.Ready.{has_changed, touched_cell, touched_cells}
use Rattle.mc_view.specs.Sets.{all_of, has, is_within}
use Rattle.mc_view.specs.declared.view_set.ViewSet.{ViewSet}
use Rattle.mc_flush.specs.Seeing.{MarkValue}
use Rattle.mc_links.specs.Kept.{ConnectionValue}
use Rattle.mc_model.proofs.ViewFacts.{view_near}
use Rattle.mc_model.specs.Game.{Game, view_in}
use Rattle.mc_model.specs.declared.player.Player.{Player}
use Rattle.mc_showing.proofs.ColumnFacts.{around_columns}
use Rattle.mc_showing.specs.Around.{IsAround, kept_columns, new_columns}
use Rattle.mc_showing.specs.Looking.{cells_of, changed_in, client_looks}
use Rattle.mc_events.specs.Looks.{IsIdle, IsStill, WasShown, of_client, tick_looks}

-- sums of nothing
sum_none : {A : Type 0} (f : A → ℕ) (xs : List A) → ((x : A) → f x ≡ 0) → sum_by f xs ≡ 0
sum_none f [] none = refl
sum_none f (x ∷ xs) none = omega (arith, sum_by-cons f x xs, none x, sum_none f xs none)

-- and of three parts, the first so many for each of none
none_of_three : (n : ℕ) (places : List Place) (k m : ℕ) → places ≡ [] → k ≡ 0 → m ≡ 0 →
    n * length places + k + m ≡ 0
none_of_three n places k m none no-k no-m =
    let nothing : n * length places ≡ n * 0 = ap (λ (ps : List Place). n * length ps) none in
    omega (arith, nothing, no-k, no-m)

-- nothing passes a test that all have
none_lacks : (p : Place → Bool) (places : List Place) →
    ((place : Place) → Contains places place → p place ≡ true) →
    filter (λ (place : Place). not (p place)) places ≡ []
none_lacks p [] all = refl
none_lacks p (place ∷ places) all =
    rw (all place (0, omega arith, refl))
    (none_lacks p places (λ other held. all other
    (Contains-append_right (place ∷ []) places other held)))

-- no column comes into a view that was shown
none_new : (g : Game) (p : Player) (view : ViewSet) → IsAround g p view →
    filter (λ (place : Place). not (has view place)) (view_in g p) ≡ []
none_new g p view is =
    ap (filter (λ (place : Place). not (has view place))) (sym (around_columns g p view is))
    ∙ none_lacks (has view) (all_of view) (view_near (view.cx, view.cz) view.d)

-- a column differs in no cell from itself
touched_none : (states : List ℕ) (first n : ℕ) → map (touched_cell states)
    (filter (has_changed states states) (range_with_len first n)) ≡ []
touched_none states first zero = refl
touched_none states first (suc n) =
    rw (eq-eqb (get_or states first 0) (get_or states first 0) refl)
    (touched_none states (first + 1) n)

-- a column of which all cells are as they were
none_changed : (settled : FinMap key_cmp ℕ) (g : Game) → g.edits ≡ settled → (place : Place) →
    changed_in (cells_of settled g) place ≡ 0
none_changed settled g is place =
    ap (λ (edits : FinMap key_cmp ℕ). length (touched_cells
    (states_of g.settings.terrain settled place) (states_of g.settings.terrain edits place))) is
    ∙ ap length (touched_none (states_of g.settings.terrain settled place) 0 _)

module _ (settled : FinMap key_cmp ℕ) (g : Game) (is : g.edits ≡ settled) where
  none_new_at : (mark : MarkValue) (p : Player) → IsStill g mark p → new_columns g p mark ≡ []
  none_new_at mark p still = shown mark.view still.around
    where
      shown : (o : Option ViewSet) → WasShown o (IsAround g p) →
          filter (λ (place : Place). not (is_within o place)) (view_in g p) ≡ []
      shown None was = absurd was
      shown (Some view) was = none_new g p view was

  still_looks : (mark : MarkValue) (p : Player) → IsStill g mark p →
      client_looks settled g mark (Some p) ≡ 0
  still_looks mark p still =
      none_of_three _ (new_columns g p mark)
      (sum_by (changed_in (cells_of settled g)) (kept_columns g p mark)) (length p.notes.cells)
      (none_new_at mark p still)
      (sum_none (changed_in (cells_of settled g)) (kept_columns g p mark)
      (none_changed settled g is)) (ap length still.unnoted)

  client_none : (mark : MarkValue) (o : Option Player) → IfSome o (IsStill g mark) →
      client_looks settled g mark o ≡ 0
  client_none mark None still = refl
  client_none mark (Some p) still = still_looks mark p still

  of_none : (o : Option ConnectionValue) →
      IfSome o (λ c. IfSome (get g.players c.id) (IsStill g c.mark)) →
      of_client (client_looks settled g) g o ≡ 0
  of_none None still = refl
  of_none (Some c) still = client_none c.mark (get g.players c.id) still

idle_looks : (settled : FinMap key_cmp ℕ) (g : Game) (m : FinMap nat_cmp ConnectionValue) →
    IsIdle settled g m → tick_looks settled g m ≡ 0
idle_looks settled g m idle =
    sum_none (λ (k : ℕ). of_client (client_looks settled g) g (get m k)) (keys m)
    (λ k. of_none settled g idle.settles (get m k) (idle.each k))

-- so no more than before was looked at
pub idle_within : (settled : FinMap key_cmp ℕ) (g : Game) (m : FinMap nat_cmp ConnectionValue)
    (now after : ℕ) → IsIdle settled g m → after ≤ now + tick_looks settled g m → after ≤ now
idle_within settled g m now after idle few = omega (arith, few, idle_looks settled g m idle)
