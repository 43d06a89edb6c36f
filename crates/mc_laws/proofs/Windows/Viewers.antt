-- A cell is dug or placed: where a chest is dug, the windows of its viewers close.
use Rattle.std.proofs.Common.{◌≡◌, ℕ, ◌<◌, Bool, true, false, List, [], ◌∷◌}
use Rattle.std.proofs.Common.{Option, Some, None, T, refl, sym, ap, ◌∙◌, inl, inr, arith}
use Rattle.std.specs.Prelude.{◌⊎◌, is_some, unsigned_abs}
use Rattle.std.specs.Prelude.{if◌then◌else◌}
use Rattle.std.proofs.lemmas.Bool.{cases_eq}
use Rattle.std.proofs.lemmas.Bool.Decides.{Decides-int_eq, nat_tests}
use Rattle.std.proofs.lemmas.Int.{ints}
use Rattle.std.specs.List.{filter, filter_map}
use Rattle.std.specs.Ordering.{nat_cmp}
use Rattle.std.specs.Cmp.{nat_cmp_total}
use Rattle.std.specs.FinMap.{entries, entries_sorted, find, get, get-entries, is_sorted}
use Rattle.std.specs.FinMap.Entries.{below_all}
use lib.IntN.{ℤ, pos, negsuc, ◌+ℤ◌, ◌*ℤ◌}
use Rattle.mc_fields.specs.declared.position.Cell.{Cell}
use Rattle.mc_fields.specs.declared.position.Spot.{Spot}
use Rattle.mc_slots.specs.declared.pile.Item.{Item}
use Rattle.mc_land.specs.Land.{chests_after}
use Rattle.mc_land.specs.Places.{Key, column_number, inside, key_of}
use Rattle.mc_land.proofs.Orders.{exact_keys}
use Rattle.mc_entities.specs.declared.entity.Entity.{Entity}
use Rattle.mc_entities.specs.Kinds.{is_dropped}
use Rattle.mc_entities.specs.Numbers.{numbered}
use Rattle.mc_entities.specs.Folk.{eid_of}
use Rattle.mc_model.specs.declared.player.Player.{Player}
use Rattle.mc_model.specs.Game.{Game, state_in}
use Rattle.mc_model.specs.Deeds.{thrown, with_state}
use Rattle.mc_model.specs.Digging.{all_thrown, dug, dug_items, floor_of}
use Rattle.mc_model.specs.Pickups.{pickers, playing_as}
use Rattle.mc_model.specs.Reach.{is_in_world}
use Rattle.mc_model.specs.Windows.{is_cell, is_of, viewers, views}
use Rattle.mc_model.specs.Good.{Good}
use Rattle.mc_model.proofs.Maps.Lookups.{tied_number}
use Rattle.mc_model.proofs.Maps.Sorted.{equal, find_again, second}
use Rattle.mc_laws.proofs.Deeds.Chests.{chest_set}
use Rattle.mc_laws.proofs.Windows.Watching.{IsRight, Watch, restood}
use Rattle.mc_laws.proofs.Windows.Same.{SameWindows, ShownBut, nobody, same_on, same_parts}
use Rattle.mc_laws.proofs.Windows.Same.{same_right, stands_in, unmapped, watch_of, who_in}
use Rattle.mc_laws.proofs.Windows.Same.{window_in}
use Rattle.mc_laws.proofs.Windows.Closing.{IsAmong, shut_all_right}

-- ---- cells of one key are one

-- a number is 16 times its column and what is inside it
parts : (v : ℤ) → (column_number v *ℤ pos 16 +ℤ pos (inside v) ≡ v) × (inside v < 16)
parts (pos n) = (omega (arith, ints), omega arith)
parts (negsuc n) = (omega (arith, ints), omega arith)

keys_tell : (x z a c : ℤ) (y b : ℕ) → key_of x y z ≡ key_of a b c → (x ≡ a) × (y ≡ b) × (z ≡ c)
keys_tell x z a c y b e = grind (arith, nat_tests, ints, parts x, parts z, parts a, parts c)

-- ---- a cell is set

module _ (cell : Cell) (state : ℕ) (g : Game) where
  abbrev key : Key
  key = key_of cell.x (unsigned_abs cell.y) cell.z

  -- what stands at another key stands there still
  set_other : (q : Key) → is_some (get g.chests q) ≡ true →
      (is_some (get (chests_after g.chests key (state_in g cell) state) q) ≡ true) ⊎ (q ≡ key)
  set_other q is = grind (
    arith,
    nat_tests,
    chest_set g.chests key q (state_in g cell) state,
    exact_keys q key,
    equal,
  )

  -- and in another cell
  pub set_stands : (q : Cell) → is_in_world cell ≡ true → stands_in g q ≡ true →
      (stands_in (with_state cell state g) q ≡ true) ⊎ (is_cell cell q ≡ true)
  set_stands q inside is = grind (arith, nat_tests, Decides-int_eq, set_other, keys_tell)

-- one cell holds what the other holds
same_stands : (a b : Cell) (g : Game) → is_cell a b ≡ true → stands_in g a ≡ stands_in g b
same_stands a b g same = grind (arith, nat_tests, Decides-int_eq)

-- where nothing stood, nothing is lost
pub placed_same : (cell : Cell) (state : ℕ) (g : Game) → is_in_world cell ≡ true →
    stands_in g cell ≡ false → SameWindows g (with_state cell state g)
placed_same cell state g inside none = record {
  who = λ k. refl;
  windows = λ name. refl;
  stands = λ q is.
      grind (arith, nat_tests, set_stands cell state g q inside is, same_stands cell q g, none);
}

-- ---- all viewers

-- the connection of a player whose number no other has
found_playing : (k : ℕ) (p : Player) (es : List (ℕ × Player)) → T (is_sorted nat_cmp es) →
    ((j : ℕ) (q : Player) → find nat_cmp j es ≡ Some q → q.eid ≡ p.eid → j ≡ k) →
    find nat_cmp k es ≡ Some p → playing_as (pos p.eid) es ≡ Some k
found_playing k p [] sorted alone found = absurd cc
found_playing k p (e ∷ es) sorted alone found =
    let rest = found_playing k p es
    (second (below_all nat_cmp e.0 es) (is_sorted nat_cmp es) sorted)
    (λ j q is. alone j q (later j q is)) in
    let first = alone e.0 e.1 in
    grind (arith, nat_tests, Decides-int_eq, tied_number e.0, first, rest)
  where
    later : (j : ℕ) (q : Player) → find nat_cmp j es ≡ Some q → find nat_cmp j (e ∷ es) ≡ Some q
    later j q is = grind (arith, nat_tests, find_again nat_cmp_total j e es sorted)

-- what is made of one of a number is among what is made of all
among_made : (f : Entity → Option ℕ) (n : ℤ) (es : List Entity) (e : Entity) (k : ℕ) →
    numbered eid_of n es ≡ Some e → f e ≡ Some k → IsAmong (filter_map f es) k
among_made f n [] e k found is = absurd cc
among_made f n (x ∷ xs) e k found is = grind (arith, nat_tests, among_made f n xs e k)

among_kept : (test : ℕ → Bool) (ks : List ℕ) (k : ℕ) → test k ≡ true → IsAmong ks k →
    IsAmong (filter test ks) k
among_kept test [] k passes among = among
among_kept test (j ∷ ks) k passes among = grind (arith, nat_tests, among_kept test ks k)

-- each player in play picks up, and views the chest that it is shown
is_picker : (g : Game) (k : ℕ) (p : Player) → Good g → get g.players k ≡ Some p →
    IsAmong (pickers g) k
is_picker g k p w there =
    let o = w.own k p there in
    among_made (λ (e : Entity).
    if is_dropped e.kind then None else playing_as e.eid (entries g.players))
    (pos p.eid) g.entities _ k o.body
    (found_playing k p (entries g.players) (entries_sorted g.players)
    (λ j q is same. one_number j q (get-entries g.players j ∙ is) same)
    (sym (get-entries g.players k) ∙ there))
  where
    one_number : (j : ℕ) (q : Player) → get g.players j ≡ Some q → q.eid ≡ p.eid → j ≡ k
    one_number j q is same =
        grind (arith, nat_tests, cases_eq j k, w.apart j k q p is there, same)

is_viewer : (g : Game) (cell : Cell) (k : ℕ) (p : Player) → Good g → get g.players k ≡ Some p →
    is_of cell p.chest ≡ true → IsAmong (viewers cell g) k
is_viewer g cell k p w there is = among_kept (λ (j : ℕ). views cell (get g.players j)) (pickers g) k
    (ap (views cell) there ∙ is) (is_picker g k p w there)

-- ---- a cell is dug

thrown_same : (items : List Item) (spot : Spot) (g : Game) → SameWindows g (all_thrown items spot g)
thrown_same [] spot g = same_parts refl refl refl
thrown_same (item ∷ items) spot g = same_on {u = thrown item spot g} (same_parts refl refl refl)
    (thrown_same items spot (thrown item spot g))

-- all but its viewers are shown chests as they should be
aired_right : (cell : Cell) (g : Game) → is_in_world cell ≡ true → Good g → ShownBut nobody g →
    ShownBut (IsAmong (viewers cell g)) (with_state cell 0 g)
aired_right cell g inside w r = restood each r
  where
    each : (k : ℕ) (a : Watch) → who_in g k ≡ Some a →
        IsRight (window_in g) (stands_in g) a ⊎ nobody k →
        IsRight (window_in g) (stands_in (with_state cell 0 g)) a ⊎ IsAmong (viewers cell g) k
    each k a is (inr none) = absurd none
    each k a is (inl right) = elim (is_of cell a.chest) as (λ b. is_of cell a.chest ≡ b →
        IsRight (window_in g) (stands_in (with_state cell 0 g)) a ⊎ IsAmong (viewers cell g) k) [
          | true ↦ λ t. (let p = unmapped watch_of (get g.players k) a is in
              inr (is_viewer g cell k p.value w p.found
              (ap (λ (x : Watch). is_of cell x.chest) p.is ∙ t)))
          | false ↦ λ t. inl (record {
            number = right.number;
            there = λ q at. (let still = set_stands cell 0 g q inside (right.there q at) in
                grind (arith, nat_tests, still, at, t));
          })
        ] refl

pub dug_right : (cell : Cell) (g : Game) → is_in_world cell ≡ true → Good g →
    ShownBut nobody g → ShownBut nobody (dug cell g)
dug_right cell g inside w r = shut_all_right (viewers cell g) _
    (same_right (IsAmong (viewers cell g)) (with_state cell 0 g) _
    (thrown_same (dug_items cell g) (floor_of cell) (with_state cell 0 g))
    (aired_right cell g inside w r))
