-- The chests of a game stand just where its land has them, also once a cell was set, and once other
-- piles lie in one.
use Rattle.std.proofs.Common.{◌≡◌, ℕ, ◌<◌, Bool, true, false, cond, List, Option, Some}
use Rattle.std.proofs.Common.{None, refl, sym, subst, ap, ◌∙◌, arith}
use Rattle.std.specs.Prelude.{◌==◌, is_some, unsigned_abs, unwrap_or, if◌then◌else◌}
use Rattle.std.proofs.lemmas.Bool.{eqb-true}
use Rattle.std.proofs.lemmas.Bool.Decides.{nat_tests}
use Rattle.std.specs.Cmp.{tied_itself}
use Rattle.std.specs.Ordering.{eq_by_cmp, is_eq}
use Rattle.std.specs.FinMap.{FinMap, get, get-empty, get-insert, get-remove, insert}
use lib.IntN.{ℤ, pos, negsuc}
use Rattle.mc_fields.specs.declared.position.Cell.{Cell}
use Rattle.mc_slots.specs.declared.pile.Pile.{Pile}
use Rattle.mc_slots.specs.Chest.{IsChest, empty_chest, empty_is_chest}
use Rattle.mc_slots.specs.Pile.{Sort}
use Rattle.mc_land.specs.declared.terrain.Terrain.{Terrain}
use Rattle.mc_land.specs.Places.{Key, key_cmp, key_of, x_of, y_of, z_of}
use Rattle.mc_land.specs.Land.{chests_after, edited, is_chest, state_at, terrain_at}
use Rattle.mc_land.proofs.Orders.{exact_keys, keys_total}
use Rattle.mc_windows.specs.Stock.{in_chest}
use Rattle.mc_model.specs.declared.settings.Settings.{Settings}
use Rattle.mc_model.specs.Game.{Game, chest_at, new_game, state_in}
use Rattle.mc_model.specs.Deeds.{restocked, with_state}
use Rattle.mc_model.specs.Good.{AreChests, Good}
use Rattle.mc_model.specs.Reach.{is_in_world}
use Rattle.mc_model.specs.Things.{chest_of_cell, chest_put}
use Rattle.mc_model.proofs.Maps.Options.{none_some, some_is}
use Rattle.mc_model.proofs.Maps.Sorted.{equal}
use Rattle.mc_laws.proofs.Fits.Told.{terrain_small}

-- what acts rest on, and keep
abbrev pub GoodGame : Game → Type 0
GoodGame g = Good g × AreChests g

-- ---- what is looked up once a cell was set

-- a key is itself
pub same_key : (key : Key) → eq_by_cmp key_cmp key key ≡ true
same_key key = ap is_eq (tied_itself keys_total key)

-- the chest of each cell
pub chest_set : (chests : FinMap key_cmp (List Pile)) (key q : Key) (old new : ℕ) →
    get (chests_after chests key old new) q ≡ cond (eq_by_cmp key_cmp q key)
    (if is_chest new then (if is_chest old then get chests key else Some empty_chest) else None)
    (get chests q)
chest_set chests key q old new = grind (
  arith,
  nat_tests,
  get-insert keys_total chests key empty_chest q,
  get-remove keys_total chests key q,
  exact_keys q key,
  equal,
)

-- its edit
pub edit_set : (terrain : Terrain) (edits : FinMap key_cmp ℕ) (key q : Key) (state : ℕ) →
    get (edited terrain edits key state) q ≡ cond (eq_by_cmp key_cmp q key)
    (if state == terrain_at terrain key then None else Some state) (get edits q)
edit_set terrain edits key q state = grind (
  arith,
  nat_tests,
  get-remove keys_total edits key q,
  get-insert keys_total edits key state q,
)

-- and its state
pub state_set : (terrain : Terrain) (edits : FinMap key_cmp ℕ) (key q : Key) (state : ℕ) →
    state_at terrain (edited terrain edits key state) q
    ≡ cond (eq_by_cmp key_cmp q key) state (state_at terrain edits q)
state_set terrain edits key q state =
    rw (edit_set terrain edits key q state) (step (eq_by_cmp key_cmp q key) refl)
  where
    here : (b : Bool) → (state == terrain_at terrain key) ≡ b →
        unwrap_or (if b then None else Some state) (terrain_at terrain key) ≡ state
    here true t = sym (eqb-true state (terrain_at terrain key) t)
    here false t = refl

    step : (b : Bool) → eq_by_cmp key_cmp q key ≡ b → unwrap_or (cond b
        (if state == terrain_at terrain key then None else Some state) (get edits q))
        (terrain_at terrain q) ≡ cond b state (state_at terrain edits q)
    step true t = rw (exact_keys q key (equal _ t)) (here (state == terrain_at terrain key) refl)
    step false t = refl

-- ---- what stands in a cell that is set

module _ (chests : FinMap key_cmp (List Pile)) (key : Key) (old new : ℕ) where
  -- piles of chests are of chests still
  set_are : (q : Key) (piles : List Pile) →
      ((r : Key) (is : List Pile) → get chests r ≡ Some is → IsChest is) →
      get (chests_after chests key old new) q ≡ Some piles → IsChest piles
  set_are q piles are is = step (eq_by_cmp key_cmp q key) (is_chest new) (is_chest old)
      (sym (chest_set chests key q old new) ∙ is)
    where
      step : (b c d : Bool) → cond b (if c then (if d then get chests key else Some empty_chest)
          else None) (get chests q) ≡ Some piles → IsChest piles
      step true true true found = are key piles found
      step true true false found = subst IsChest (some_is empty_chest piles found) empty_is_chest
      step true false d found = absurd cc
      step false c d found = are q piles found

  -- and stand where the land has them
  set_stand : (terrain : Terrain) (edits : FinMap key_cmp ℕ) (q : Key) →
      is_some (get chests key) ≡ is_chest old →
      is_some (get chests q) ≡ is_chest (state_at terrain edits q) →
      is_some (get (chests_after chests key old new) q)
      ≡ is_chest (state_at terrain (edited terrain edits key new) q)
  set_stand terrain edits q was is =
      rw (chest_set chests key q old new, state_set terrain edits key q new)
      (step (eq_by_cmp key_cmp q key))
    where
      here : (c d : Bool) → is_some (get chests key) ≡ d →
          is_some (if c then (if d then get chests key else Some empty_chest) else None) ≡ c
      here true true there = there
      here true false there = refl
      here false d there = refl

      step : (b : Bool) → is_some (cond b (if is_chest new then (if is_chest old then
          get chests key else Some empty_chest) else None) (get chests q))
          ≡ is_chest (cond b new (state_at terrain edits q))
      step true = here (is_chest new) (is_chest old) was
      step false = is

-- ---- games

-- where a cell inside the world is looked up
pub state_inside : (g : Game) (cell : Cell) → is_in_world cell ≡ true → state_in g cell
    ≡ state_at g.settings.terrain g.edits (key_of cell.x (unsigned_abs cell.y) cell.z)
state_inside g cell inside = grind (arith, nat_tests)

-- and its chest
pub chest_inside : (g : Game) (cell : Cell) → is_in_world cell ≡ true →
    chest_at g cell ≡ get g.chests (key_of cell.x (unsigned_abs cell.y) cell.z)
chest_inside g cell inside = grind (arith, nat_tests)

pub with_state_chests : (cell : Cell) (state : ℕ) (g : Game) → is_in_world cell ≡ true →
    AreChests g → AreChests (with_state cell state g)
with_state_chests cell state g inside a = record {
  chests = λ q piles. set_are g.chests key (state_in g cell) state q piles a.chests;
  stand = λ other within. ap is_some (chest_inside (with_state cell state g) other within)
      ∙ set_stand g.chests key (state_in g cell) state g.settings.terrain g.edits
      (key_of other.x (unsigned_abs other.y) other.z)
      (sym (ap is_some (chest_inside g cell inside)) ∙ a.stand cell inside)
      (sym (ap is_some (chest_inside g other within)) ∙ a.stand other within
      ∙ ap is_chest (state_inside g other within))
      ∙ sym (ap is_chest (state_inside (with_state cell state g) other within));
}
  where
    key : Key
    key = key_of cell.x (unsigned_abs cell.y) cell.z

-- ---- other piles in a chest

-- the key under which the piles of a chest are found that is there
pub record StandsAt (chests : FinMap key_cmp (List Pile)) (x y z : ℤ) : Type 0 where
  pub key : Key
  pub found : chest_of_cell chests x y z ≡ get chests key
  pub put : (piles : List Pile) → chest_put chests x y z piles ≡ insert chests key piles

pub stands_at : (chests : FinMap key_cmp (List Pile)) (x y z : ℤ) →
    is_some (chest_of_cell chests x y z) ≡ true → StandsAt chests x y z
stands_at chests x (pos y) z there = record {
  key = key_of x y z;
  found = grind (arith, nat_tests, there);
  put = λ piles. refl;
}
stands_at chests x (negsuc y) z there = absurd cc

-- chests stand where they stood, where the same keys are there
same_stand : (m n : FinMap key_cmp (List Pile)) →
    ((q : Key) → is_some (get n q) ≡ is_some (get m q)) → (x y z : ℤ) →
    is_some (chest_of_cell n x y z) ≡ is_some (chest_of_cell m x y z)
same_stand m n same x (pos y) z = grind (arith, nat_tests, same (key_of x y z))
same_stand m n same x (negsuc y) z = refl

pub restocked_chests : (cell : Cell) (piles : List Pile) (g : Game) →
    is_some (chest_at g cell) ≡ true → IsChest piles → AreChests g →
    AreChests (restocked cell piles g)
restocked_chests cell piles g there is a = record {
  chests = rw at.put (λ q others found. of_key q others (eq_by_cmp key_cmp q at.key)
      (sym (get-insert keys_total g.chests at.key piles q) ∙ found));
  stand = λ other within. same_stand g.chests (restocked cell piles g).chests
      (λ q. rw (at.put, get-insert keys_total g.chests at.key piles q) (same q)) other.x other.y
      other.z ∙ a.stand other within;
}
  where
    at : StandsAt g.chests cell.x cell.y cell.z
    at = stands_at g.chests cell.x cell.y cell.z there

    of_key : (q : Key) (others : List Pile) (b : Bool) →
        cond b (Some piles) (get g.chests q) ≡ Some others → IsChest others
    of_key q others true found = subst IsChest (some_is piles others found) is
    of_key q others false found = a.chests q others found

    same : (q : Key) → is_some (cond (eq_by_cmp key_cmp q at.key) (Some piles) (get g.chests q))
        ≡ is_some (get g.chests q)
    same q = grind (arith, nat_tests, exact_keys q at.key, equal, at.found, there)

-- ---- other games

-- the same chests in the same land
pub same_chests : {g v : Game} → v.settings ≡ g.settings → v.edits ≡ g.edits →
    v.chests ≡ g.chests → AreChests g → AreChests v
same_chests settings edits chests a = record {
  chests = rw chests a.chests;
  stand = rw (settings, edits, chests) a.stand;
}

-- no terrain has a chest
small_no_chest : (state : ℕ) → state < 256 → is_chest state ≡ false
small_no_chest state small = grind (arith, nat_tests)

pub new_chests : (settings : Settings) (mobs : ℕ) → AreChests (new_game settings mobs)
new_chests settings mobs = record {
  chests = λ key piles there. absurd (none_some _ piles (get-empty key_cmp key) there);
  stand = λ cell inside.
      let key = key_of cell.x (unsigned_abs cell.y) cell.z in
      ap is_some (chest_inside (new_game settings mobs) cell inside ∙ get-empty key_cmp key)
      ∙ sym (ap is_chest (state_inside (new_game settings mobs) cell inside
      ∙ ap (λ (o : Option ℕ). unwrap_or o (terrain_at settings.terrain key))
      (get-empty key_cmp key))
      ∙ small_no_chest _ (terrain_small settings.terrain (x_of key) (y_of key) (z_of key)));
}

-- ---- what lies in a cell

-- what lies in a chest is what a chest holds
pub lies_chest : (g : Game) (cell : Cell) → AreChests g → (piles : List Pile) →
    chest_at g cell ≡ Some piles → IsChest piles
lies_chest g cell a piles is = (let at = stands_at g.chests cell.x cell.y cell.z (ap is_some is) in
    a.chests at.key piles (sym at.found ∙ is))

-- nothing where it is no chest
pub none_lies : (sort : Sort) (cell : Cell) (g : Game) → is_in_world cell ≡ true → AreChests g →
    is_chest (state_in g cell) ≡ false → in_chest sort (chest_at g cell) ≡ 0
none_lies sort cell g inside a no_chest = grind (arith, nat_tests, a.stand cell inside)

-- and nothing in one that was none, or is none
pub none_comes : (sort : Sort) (cell : Cell) (state : ℕ) (g : Game) →
    (if is_chest state then is_chest (state_in g cell) else false) ≡ false →
    in_chest sort (chest_at (with_state cell state g) cell) ≡ 0
none_comes sort cell state g no_chest =
    grind (arith, nat_tests, chest_set g.chests key key (state_in g cell) state, same_key key)
  where
    key : Key
    key = key_of cell.x (unsigned_abs cell.y) cell.z
