-- Deeds keep what is in a game such that packets can tell it: the states of cells, and entities of
-- which each has a kind and a place.
use Rattle.std.proofs.Common.{◌≡◌, ℕ, ◌+◌, ◌*◌, ◌<◌, ◌≤◌, Bool, true, false, cond, List, [], zero}
use Rattle.std.proofs.Common.{suc, inr, ◌∷◌, ◌++◌, map, Some, None, refl, sym, subst, ◌∙◌}
use Rattle.std.proofs.Common.{arith}
use Rattle.std.specs.Prelude.{◌==◌, ◌&&◌, Option, nat_le, nat_lt, not, option_map, unsigned_abs}
use Rattle.std.specs.Prelude.{unwrap_or, if◌then◌else◌}
use Rattle.std.specs.List.{AllByRecursion, filter}
use Rattle.std.specs.Ordering.{eq_by_cmp, int_eq}
use Rattle.std.specs.FinMap.{FinMap, get, get-insert, get-remove, insert, remove}
use Rattle.std.proofs.lemmas.Bool.Decides.{nat_tests}
use Rattle.std.proofs.lemmas.Int.{ints}
use lib.IntN.{ℤ, pos, negsuc}
use Rattle.mc_fields.specs.declared.position.Cell.{Cell}
use Rattle.mc_fields.specs.declared.position.Spot.{Spot}
use Rattle.mc_slots.specs.declared.pile.Item.{Item}
use Rattle.mc_slots.specs.declared.pile.Pile.{Pile}
use Rattle.mc_slots.specs.Pile.{IsItem, IsPile}
use Rattle.mc_land.specs.declared.terrain.Terrain.{Terrain}
use Rattle.mc_land.specs.declared.terrain.Terrain.TheVariants.{Flat, Hills, Isle}
use Rattle.mc_land.specs.Places.{Key, key_cmp, key_of, x_of, y_of, z_of}
use Rattle.mc_land.specs.Terrain.{flat_id, height, hills_id, is_within_16, isle_id, terrain_id}
use Rattle.mc_land.specs.Terrain.{terrain_state}
use Rattle.mc_land.specs.Land.{edited, state_at, terrain_at}
use Rattle.mc_land.proofs.Orders.{keys_total}
use Rattle.mc_entities.specs.declared.entity.Entity.{Entity}
use Rattle.mc_entities.specs.declared.entity.EntityKind.{EntityKind}
use Rattle.mc_entities.specs.Kinds.{IsKind, is_dropped}
use Rattle.mc_entities.specs.Numbers.{changed, numbered, without}
use Rattle.mc_entities.specs.Folk.{dropped_in, eid_of}
use Rattle.mc_model.specs.declared.player.Player.{Player}
use Rattle.mc_model.specs.Things.{holding, lying_as, standing, state_of_cell}
use Rattle.mc_model.specs.Spots.{spawn_spot}
use Rattle.mc_model.specs.Game.{Game, spot_of, state_in}
use Rattle.mc_model.specs.Deeds.{spawned, with_state}
use Rattle.mc_model.specs.Fitting.{AreTold, EntityFits, IsState, KindIsNamed, SpotFits, Told}
use Rattle.mc_model.proofs.AllFacts.{all_filtered, all_joined, all_mapped}
use Rattle.mc_model.proofs.Lasting.{IsSteady}
use Rattle.mc_model.proofs.LastingKept.{holding_steady, known_filtered, known_mapped, known_more}
use Rattle.mc_model.proofs.LastingKept.{lying_steady, standing_steady, steady_at}
use Rattle.mc_model.proofs.ThingsKept.{one_if}
use Rattle.mc_laws.proofs.ThingsFit.{air, spawn_fits}

-- ---- how many dropped items lie

-- as many where no change makes another kind of an entity
pub dropped_mapped : (f : Entity → Entity) → IsSteady f → (es : List Entity) →
    dropped_in (map f es) ≡ dropped_in es
dropped_mapped f steady [] = refl
dropped_mapped f steady (e ∷ es) = grind (arith, nat_tests, dropped_mapped f steady es)

-- no more where some go
dropped_filtered : (test : Entity → Bool) (es : List Entity) →
    dropped_in (filter test es) ≤ dropped_in es
dropped_filtered test [] = omega arith
dropped_filtered test (e ∷ es) = grind (arith, nat_tests, dropped_filtered test es)

-- where one comes, one more if it is one
pub dropped_come : (es : List Entity) (e : Entity) →
    dropped_in (es ++ e ∷ []) ≡ dropped_in es + one_if (is_dropped e.kind)
dropped_come [] e = grind (arith, nat_tests)
dropped_come (x ∷ xs) e = grind (arith, nat_tests, dropped_come xs e)

-- ---- entities

-- an entity that comes has a kind and a place, and there is room for it
pub record CanCome (kind : EntityKind) (spot : Spot) (entities : List Entity) (eids : ℕ) : Type 0
  where
    pub kind_is : IsKind kind
    pub named : KindIsNamed kind
    pub place : SpotFits spot
    pub room : dropped_in entities + one_if (is_dropped kind) ≤ 4096
    pub given : eids < 2147483647

pub spawned_told : (kind : EntityKind) (spot : Spot) (g : Game) →
    CanCome kind spot g.entities g.eids → Told g → Told (spawned kind spot g)
spawned_told kind spot g can t = record {
  states = t.states;
  fits = all_joined EntityFits g.entities _ t.fits (
    record {
      low = omega (arith, ints);
      high = (let given = can.given in omega (arith, ints, given));
      spot = can.place;
      kind = can.kind_is;
      named = can.named;
    },
    tt,
  );
  kinds = known_more kind spot g.eids g.entities t.kinds;
  lying = (let more = dropped_come g.entities
      (record { eid = pos (g.eids + 1); kind = kind; spot = spot }) in
      let room = can.room in omega (arith, more, room));
  few = (let given = can.given in omega (arith, given));
}

-- each changed
pub mapped_told : (f : Entity → Entity) (edits : FinMap key_cmp ℕ) (es : List Entity) (eids : ℕ) →
    IsSteady f → ((e : Entity) → EntityFits e → EntityFits (f e)) → AreTold edits es eids →
    AreTold edits (map f es) eids
mapped_told f edits es eids steady keeps t = record {
  states = t.states;
  fits = all_mapped EntityFits EntityFits f keeps es t.fits;
  kinds = known_mapped f eids es steady t.kinds;
  lying = subst (λ (n : ℕ). n ≤ 4096) (sym (dropped_mapped f steady es)) t.lying;
  few = t.few;
}

-- one of a number changed
changed_told : (eid : ℕ) (f : Entity → Entity) (edits : FinMap key_cmp ℕ) (es : List Entity)
    (eids : ℕ) → IsSteady f → ((e : Entity) → EntityFits e → EntityFits (f e)) →
    AreTold edits es eids → AreTold edits (changed eid_of (pos eid) f es) eids
changed_told eid f edits es eids steady keeps t =
    mapped_told _ edits es eids (steady_at eid f steady) one t
  where
    one : (e : Entity) → EntityFits e → EntityFits (if int_eq e.eid (pos eid) then f e else e)
    one e fits = elim (int_eq e.eid (pos eid)) as (λ b. EntityFits (if b then f e else e)) [
      | true ↦ keeps e fits
      | false ↦ fits
    ]

-- one stands somewhere else
pub standing_told : (eid : ℕ) (spot : Spot) (edits : FinMap key_cmp ℕ) (es : List Entity)
    (eids : ℕ) → SpotFits spot → AreTold edits es eids →
    AreTold edits (changed eid_of (pos eid) (standing spot) es) eids
standing_told eid spot edits es eids at t =
    changed_told eid (standing spot) edits es eids (standing_steady spot)
    (λ e fits. grind (arith, nat_tests)) t

-- one holds another pile
pub holding_told : (eid : ℕ) (pile : Pile) (edits : FinMap key_cmp ℕ) (es : List Entity)
    (eids : ℕ) → IsPile pile → AreTold edits es eids →
    AreTold edits (changed eid_of (pos eid) (holding pile) es) eids
holding_told eid pile edits es eids is t =
    changed_told eid (holding pile) edits es eids (holding_steady pile)
    (λ e fits. grind (arith, nat_tests)) t

-- what lies there is another item
pub lying_told : (eid : ℕ) (item : Item) (edits : FinMap key_cmp ℕ) (es : List Entity)
    (eids : ℕ) → IsItem item → AreTold edits es eids →
    AreTold edits (changed eid_of (pos eid) (lying_as item) es) eids
lying_told eid item edits es eids is t =
    changed_told eid (lying_as item) edits es eids (lying_steady item)
    (λ e fits. grind (arith, nat_tests)) t

-- one goes
pub without_told : (n : ℤ) (edits : FinMap key_cmp ℕ) (es : List Entity) (eids : ℕ) →
    AreTold edits es eids → AreTold edits (without eid_of n es) eids
without_told n edits es eids t = record {
  states = t.states;
  fits = all_filtered EntityFits _ es t.fits;
  kinds = known_filtered _ eids es t.kinds;
  lying = (let fewer = dropped_filtered (λ (e : Entity). not (int_eq (eid_of e) n)) es in
      let lying = t.lying in omega (arith, fewer, lying));
  few = t.few;
}

-- one that is found fits
pub found_fits : (P : Entity → Type 0) (n : ℤ) (es : List Entity) → AllByRecursion P es →
    (e : Entity) → numbered eid_of n es ≡ Some e → P e
found_fits P n [] a e found = absurd cc
found_fits P n (x ∷ es) a e found = grind (arith, nat_tests, found_fits P n es a.1 e)

-- a player is where its entity is, or where players enter
pub spot_told : (g : Game) (p : Player) → Told g → SpotFits (spot_of g p)
spot_told g p t = cases (numbered eid_of (pos p.eid) g.entities) refl
  where
    cases : (o : Option Entity) → numbered eid_of (pos p.eid) g.entities ≡ o →
        SpotFits (unwrap_or (option_map (λ (e : Entity). e.spot) o)
        (spawn_spot g.settings.terrain))
    cases None e = spawn_fits g.settings.terrain
    cases (Some x) e = (found_fits EntityFits (pos p.eid) g.entities t.fits x e).spot

-- ---- cells

-- one of two small numbers
one_of : (b : Bool) (n m : ℕ) → n < 16 → m < 16 → cond b n m < 16
one_of true n m at_n at_m = at_n
one_of false n m at_n at_m = at_m

-- ids of the terrains are below 16
pub terrain_small : (terrain : Terrain) (x : ℤ) (y : ℕ) (z : ℤ) → terrain_state terrain x y z < 256
terrain_small Flat x y z =
    let id : flat_id y < 16 = one_of (y == 0) 7 _ (omega arith) (one_of (nat_le y 2) 3 _
    (omega arith) (one_of (y == 3) 2 0 (omega arith) (omega arith))) in omega (arith, id)
terrain_small (Hills seed) x y z =
    let top = height seed x z in
    let id : hills_id (height seed x z) y < 16 = one_of (y == 0) 7 _ (omega arith)
    (one_of (nat_le (y + 4) top) 1 _ (omega arith) (one_of (nat_lt y top) 3 _ (omega arith)
    (one_of (y == top) 2 0 (omega arith) (omega arith)))) in omega (arith, id)
terrain_small Isle x y z =
    let id : isle_id x y z < 16 =
    one_of (y == 63 && is_within_16 x && is_within_16 z) 1 0 (omega arith) (omega arith) in
    omega (arith, id)

-- an id without metadata makes a state
id_state : (id : ℕ) → id * 16 < 4096 → IsState (id * 16)
id_state zero small = air
id_state (suc id) small = record { small = small; whole = inr (omega arith) }

-- terrains are of such
terrain_is : (terrain : Terrain) (key : Key) → IsState (terrain_at terrain key)
terrain_is terrain key =
    let small = terrain_small terrain (x_of key) (y_of key) (z_of key) in
    id_state (terrain_id terrain (x_of key) (y_of key) (z_of key)) (omega (arith, small))

-- so a cell inside the world has one
pub state_told : (g : Game) (key : Key) → Told g →
    IsState (state_at g.settings.terrain g.edits key)
state_told g key t = cases (get g.edits key) refl
  where
    cases : (o : Option ℕ) → get g.edits key ≡ o →
        IsState (unwrap_or o (terrain_at g.settings.terrain key))
    cases None e = terrain_is g.settings.terrain key
    cases (Some state) e = t.states key state e

-- of 16 bits
pub state_small : (g : Game) (key : Key) → Told g →
    state_at g.settings.terrain g.edits key < 65536
state_small g key t = let small = (state_told g key t).small in omega (arith, small)

-- and so has any cell
pub cell_told : (g : Game) (cell : Cell) → Told g → IsState (state_in g cell)
cell_told g cell t = cases cell.y
  where
    cases : (y : ℤ) → IsState (state_of_cell g.settings.terrain g.edits cell.x y cell.z)
    cases (pos y) = elim (nat_lt y 256) as (λ b. IsState (if b then
        state_at g.settings.terrain g.edits (key_of cell.x y cell.z) else 0)) [
          | true ↦ state_told g (key_of cell.x y cell.z) t
          | false ↦ air
        ]
    cases (negsuc y) = air

-- what holds of each edit and of a state holds of each edit once a cell has that
edited_all : (P : ℕ → Type 0) (terrain : Terrain) (edits : FinMap key_cmp ℕ) (key : Key)
    (state : ℕ) → P state → ((q : Key) (s : ℕ) → get edits q ≡ Some s → P s) →
    (q : Key) (s : ℕ) → get (edited terrain edits key state) q ≡ Some s → P s
edited_all P terrain edits key state new old q s =
    elim (state == terrain_at terrain key) as
    (λ b. get (if b then remove edits key else insert edits key state) q ≡ Some s → P s) [
      | true ↦ λ e. gone (eq_by_cmp key_cmp q key) (sym (get-remove keys_total edits key q) ∙ e)
      | false ↦ λ e.
          came (eq_by_cmp key_cmp q key) (sym (get-insert keys_total edits key state q) ∙ e)
    ]
  where
    gone : (b : Bool) → cond b None (get edits q) ≡ Some s → P s
    gone true e = absurd cc
    gone false e = old q s e

    came : (b : Bool) → cond b (Some state) (get edits q) ≡ Some s → P s
    came true e = (let same : state ≡ s = cc in subst P same new)
    came false e = old q s e

-- a cell has another state
pub with_state_told : (cell : Cell) (state : ℕ) (g : Game) → IsState state → Told g →
    Told (with_state cell state g)
with_state_told cell state g is t = record {
  states = edited_all IsState g.settings.terrain g.edits
      (key_of cell.x (unsigned_abs cell.y) cell.z) state is t.states;
  fits = t.fits;
  kinds = t.kinds;
  lying = t.lying;
  few = t.few;
}
