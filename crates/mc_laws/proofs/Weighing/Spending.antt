-- How many items of a sort each deed spends and gains.
use Rattle.std.proofs.Common.{◌≡◌, ℕ, ◌+◌, ◌*◌, ◌≤◌, true, cond, List}
use Rattle.std.proofs.Common.{Option, Some, None, refl, ap, ◌∙◌, arith}
use Rattle.std.specs.Prelude.{is_some, option_map, unsigned_abs, unwrap_or}
use Rattle.std.proofs.lemmas.Bool.Decides.{nat_tests}
use Rattle.std.specs.Cmp.Lexicographic.{nat_list_cmp_total}
use Rattle.std.specs.FinMap.{get, insert, len, len-insert}
use lib.IntN.{ℤ, pos}
use Rattle.mc_fields.specs.declared.position.Cell.{Cell}
use Rattle.mc_fields.specs.declared.position.Spot.{Spot}
use Rattle.mc_slots.specs.declared.pile.Item.{Item}
use Rattle.mc_slots.specs.declared.pile.Pile.{Pile}
use Rattle.mc_slots.specs.declared.pile.Pile.TheVariants.{Full}
use Rattle.mc_slots.specs.Pile.{IsItem, Sort, held}
use Rattle.mc_land.specs.Places.{key_of}
use Rattle.mc_windows.specs.Pack.{PackValue, kit_pack}
use Rattle.mc_windows.specs.Stock.{in_chest, in_pack, in_piles}
use Rattle.mc_entities.specs.declared.entity.Entity.{Entity}
use Rattle.mc_entities.specs.declared.entity.EntityKind.{EntityKind}
use Rattle.mc_entities.specs.declared.entity.EntityKind.TheVariants as kinds
use Rattle.mc_entities.specs.Numbers.{Rise, numbered, without}
use Rattle.mc_entities.specs.Folk.{eid_of}
use Rattle.mc_model.specs.declared.player.Player.{Player}
use Rattle.mc_model.specs.declared.settings.Settings.{Settings}
use Rattle.mc_model.specs.Balance.{in_entities, lying, now_edited, once_edited, one_of, sort_of}
use Rattle.mc_model.specs.Balance.{Balance, in_chests, in_packs, stock}
use Rattle.mc_model.specs.Digging.{block_item}
use Rattle.mc_model.specs.Names.{offline_uuid}
use Rattle.mc_model.specs.Placing.{item_state}
use Rattle.mc_model.specs.Reach.{is_in_world}
use Rattle.mc_model.specs.Things.{holding, in_hand, standing}
use Rattle.mc_model.specs.Spots.{spawn_spot}
use Rattle.mc_model.specs.Maps.{modify, with_value}
use Rattle.mc_model.specs.Game.{Game, chest_at, pack_named, pack_of, state_in}
use Rattle.mc_model.specs.Deeds.{enter_as, go_of, rehand_of, repack_of, restocked, stand_of, thrown}
use Rattle.mc_model.specs.Deeds.{with_state}
use Rattle.mc_model.specs.Good.{Good, IsOwn, is_body}
use Rattle.mc_model.proofs.Maps.Lookups.{names_apart}
use Rattle.mc_laws.proofs.Deeds.Chests.{chest_inside, stands_at, state_inside}
use Rattle.mc_laws.proofs.Weighing.Cells.{chest_weighs, edited_counts, stocked_weighs, sum_inserted}
use Rattle.mc_laws.proofs.Weighing.Stock.{entities_changed, entities_more, gone_lies, hand_lies}

-- ---- weighing

-- from one game to another so many items of a sort are spent, and so many gained, where each cell
-- that was changed counts as what it was and is
pub record Weighs (id damage spent gained : ℕ) (g v : Game) : Type 0 where
  pub count : stock (sort_of id damage) v + now_edited (16 * id + damage) v.edits
      + once_edited (16 * id + damage) g.settings.terrain g.edits + spent
      ≡ stock (sort_of id damage) g + now_edited (16 * id + damage) g.edits
      + once_edited (16 * id + damage) g.settings.terrain v.edits + gained
  pub names : len v.packs ≡ len g.packs
  pub settings : v.settings ≡ g.settings

pub weighs_on : (id damage a b c d : ℕ) (g v u : Game) → Weighs id damage a b g v →
    Weighs id damage c d v u → Weighs id damage (a + c) (b + d) g u
weighs_on id damage a b c d g v u x y = record {
  count = (let s = 16 * id + damage in
      let t = ap (λ (w : Settings).
      once_edited s w.terrain v.edits) x.settings in
      let r = ap (λ (w : Settings).
      once_edited s w.terrain u.edits) x.settings in
      let p = x.count in
      let q = y.count in
      omega (arith, p, q, t, r));
  names = y.names ∙ x.names;
  settings = y.settings ∙ x.settings;
}

-- as much is spent as is gained
pub weighs_even : (id damage a b : ℕ) (g v : Game) → a ≡ b → Weighs id damage a b g v →
    Weighs id damage 0 0 g v
weighs_even id damage a b g v same x = record {
  count = (let p = x.count in omega (arith, p, same));
  names = x.names;
  settings = x.settings;
}

-- where there is as much, and no cell and no chest was changed
pub same_weighs : (id damage : ℕ) (g v : Game) → v.settings ≡ g.settings → v.edits ≡ g.edits →
    v.chests ≡ g.chests → v.packs ≡ g.packs →
    in_entities (sort_of id damage) v.entities ≡ in_entities (sort_of id damage) g.entities →
    Weighs id damage 0 0 g v
same_weighs id damage g v settings edits chests packs entities = record {
  count = rw (edits, chests, packs) (omega (arith, entities));
  names = ap len packs;
  settings = settings;
}

pub still_weighs : (id damage : ℕ) (g : Game) → Weighs id damage 0 0 g g
still_weighs id damage g = same_weighs id damage g g refl refl refl refl refl

-- what weighs nothing keeps the balance
pub balance_on : (g v : Game) → ((id damage : ℕ) → 1 ≤ id → id ≤ 255 → damage ≤ 15 →
    Weighs id damage 0 0 g v) → Balance g → Balance v
balance_on g v weighs even id damage some few low =
    let x = weighs id damage some few low in
    let p = x.count in
    let e = even id damage some few low in
    let n = ap (λ (m : ℕ). in_pack (sort_of id damage) kit_pack * m) x.names in
    let t = ap (λ (w : Settings).
    once_edited (16 * id + damage) w.terrain v.edits) x.settings in
    omega (arith, p, e, n, t)

-- ---- entities

pub stand_weighs : (id damage : ℕ) (p : Player) (spot : Spot) (g : Game) →
    Weighs id damage 0 0 g (stand_of p spot g)
stand_weighs id damage p spot g = same_weighs id damage g (stand_of p spot g) refl refl refl refl
    (entities_changed (sort_of id damage) p.eid (standing spot) (λ e. refl) g.entities)

pub rehand_weighs : (id damage k : ℕ) (p : Player) (hand : ℕ) (g : Game) →
    Weighs id damage 0 0 g (rehand_of k p hand g)
rehand_weighs id damage k p hand g = same_weighs id damage g (rehand_of k p hand g) refl refl refl
    refl (entities_changed (sort_of id damage) p.eid (holding (in_hand (pack_of g p) hand))
    (λ e. hand_lies (sort_of id damage) (in_hand (pack_of g p) hand) e.kind) g.entities)

pub thrown_weighs : (id damage : ℕ) (item : Item) (spot : Spot) (g : Game) →
    Weighs id damage 0 (held (sort_of id damage) (Full item)) g (thrown item spot g)
thrown_weighs id damage item spot g = record {
  count = (let more = entities_more (sort_of id damage) g.entities (record {
    eid = pos (g.eids + 1);
    kind = kinds.Dropped item g.age;
    spot = spot;
  }) in omega (arith, more));
  names = refl;
  settings = refl;
}

-- ---- packs

-- a sum over packs of which one is put in
packs_put : (sort : Sort) (g : Game) (name : List ℕ) (pack : PackValue) (o : Option PackValue) →
    get g.packs name ≡ o →
    in_packs sort (insert g.packs name pack)
    + unwrap_or (option_map (in_pack sort) o) 0 ≡ in_packs sort g.packs + in_pack sort pack
packs_put sort g name pack None is = (let e = sum_inserted nat_list_cmp_total names_apart
    (λ (e : List ℕ × PackValue). in_pack sort e.1) g.packs name pack in rw is at e)
packs_put sort g name pack (Some old) is = (let e = sum_inserted nat_list_cmp_total names_apart
    (λ (e : List ℕ × PackValue). in_pack sort e.1) g.packs name pack in rw is at e)

len_put : (g : Game) (name : List ℕ) (pack : PackValue) (o : Option PackValue) →
    get g.packs name ≡ o →
    len (insert g.packs name pack) ≡ cond (is_some o) (len g.packs) (len g.packs + 1)
len_put g name pack o is = len-insert nat_list_cmp_total g.packs name pack
    ∙ ap (λ (x : Option PackValue). cond (is_some x) (len g.packs) (len g.packs + 1)) is

pub repack_weighs : (id damage k : ℕ) (p : Player) (pack : PackValue) (g : Game) → Good g →
    get g.players k ≡ Some p →
    Weighs id damage (in_pack (sort_of id damage) (pack_of g p)) (in_pack (sort_of id damage) pack)
    g (repack_of p pack g)
repack_weighs id damage k p pack g w there = record {
  count = (let sort = sort_of id damage in
      let lies = entities_changed sort p.eid (holding (in_hand pack p.hand))
      (λ e. hand_lies sort (in_hand pack p.hand) e.kind) g.entities in
      let put_in = packs_put sort g p.name pack (Some o.pack) o.carries in
      let is = ap (λ (x : Option PackValue). in_pack sort (unwrap_or x kit_pack)) o.carries in
      let put_is = ap (in_packs sort) modified in
      omega (arith, lies, put_in, is, put_is));
  names = ap len modified ∙ len_put g p.name pack (Some o.pack) o.carries;
  settings = refl;
}
  where
    o : IsOwn g.entities g.eids g.packs p
    o = w.own k p there

    modified : modify p.name (λ (old : PackValue). pack) g.packs ≡ insert g.packs p.name pack
    modified = ap (λ (x : Option PackValue). with_value g.packs p.name
        (option_map (λ (old : PackValue). pack) x)) o.carries

-- ---- cells

pub state_weighs : (id damage : ℕ) (cell : Cell) (state : ℕ) (g : Game) →
    is_in_world cell ≡ true →
    Weighs id damage
    (one_of (16 * id + damage) (state_in g cell) + in_chest (sort_of id damage) (chest_at g cell))
    (one_of (16 * id + damage) state
    + in_chest (sort_of id damage) (chest_at (with_state cell state g) cell))
    g (with_state cell state g)
state_weighs id damage cell state g inside = record {
  count = (let key = key_of cell.x (unsigned_abs cell.y) cell.z in
      let cells = edited_counts (16 * id + damage) g.settings.terrain g.edits key state in
      let chests = chest_weighs (sort_of id damage) g.chests key (state_in g cell) state in
      let was = ap (one_of (16 * id + damage)) (state_inside g cell inside) in
      let lay = ap (in_chest (sort_of id damage)) (chest_inside g cell inside) in
      let lies = ap (in_chest (sort_of id damage))
      (chest_inside (with_state cell state g) cell inside) in
      omega (arith, cells, chests, was, lay, lies));
  names = refl;
  settings = refl;
}

-- other piles lie in a chest
pub restocked_weighs : (id damage : ℕ) (cell : Cell) (piles : List Pile) (g : Game) →
    is_some (chest_at g cell) ≡ true →
    Weighs id damage (in_chest (sort_of id damage) (chest_at g cell))
    (in_piles (sort_of id damage) piles) g (restocked cell piles g)
restocked_weighs id damage cell piles g there = record {
  count = (let sort = sort_of id damage in
      let at = stands_at g.chests cell.x cell.y cell.z there in
      let stocked = stocked_weighs sort g.chests at.key piles in
      let lay = ap (in_chest sort) at.found in
      let lies = ap (in_chests sort) (at.put piles) in
      omega (arith, stocked, lay, lies));
  names = refl;
  settings = refl;
}

-- ---- coming and going

-- what players have for an entity does not lie there
lies_no : (sort : Sort) (kind : EntityKind) → is_body kind ≡ true → lying sort kind ≡ 0
lies_no sort kind is = grind (arith, nat_tests)

body_gone : (sort : Sort) (n low high : ℤ) (es : List Entity) (x : Entity) →
    Rise eid_of low es high → numbered eid_of n es ≡ Some x → is_body x.kind ≡ true →
    in_entities sort (without eid_of n es) ≡ in_entities sort es
body_gone sort n low high es x r found is =
    let gone = gone_lies sort n low high es x r found in
    let none = lies_no sort x.kind is in
    omega (arith, gone, none)

pub go_weighs : (id damage k : ℕ) (p : Player) (g : Game) → Good g → get g.players k ≡ Some p →
    Weighs id damage 0 0 g (go_of k p g)
go_weighs id damage k p g w there = (let o = w.own k p there in
    same_weighs id damage g (go_of k p g) refl refl refl refl
    (body_gone (sort_of id damage) (pos p.eid) (pos 0) (pos g.eids) g.entities _ w.rise o.body
    refl))

-- a name that comes for the first time has the kit
pub enter_balance : (k : ℕ) (name : List ℕ) (g : Game) → Balance g → Balance (enter_as k name g)
enter_balance k name g even id damage some few low =
    known (get g.packs name) refl
  where
    sort : Sort
    sort = sort_of id damage

    known : (o : Option PackValue) → get g.packs name ≡ o →
        stock (sort_of id damage) (enter_as k name g)
        + now_edited (16 * id + damage) g.edits
        ≡ in_pack (sort_of id damage) kit_pack * len (enter_as k name g).packs
        + once_edited (16 * id + damage) g.settings.terrain g.edits
    known None is =
        let e = even id damage some few low in
        let more = entities_more (sort_of id damage) g.entities (record {
          eid = pos (g.eids + 1);
          kind = kinds.Player (offline_uuid name)
              (in_hand (pack_named g name) 0);
          spot = spawn_spot g.settings.terrain;
        }) in
        let put_in = packs_put (sort_of id damage) g name (pack_named g name) None is in
        let pack_is = ap (λ (x : Option PackValue). in_pack (sort_of id damage)
        (unwrap_or x kit_pack)) is in
        let length_is = ap (λ (m : ℕ). in_pack (sort_of id damage) kit_pack * m)
        (len_put g name (pack_named g name) None is) in
        grind (arith, e, more, put_in, pack_is, length_is)
    known (Some old) is =
        let e = even id damage some few low in
        let more = entities_more (sort_of id damage) g.entities (record {
          eid = pos (g.eids + 1);
          kind = kinds.Player (offline_uuid name)
              (in_hand (pack_named g name) 0);
          spot = spawn_spot g.settings.terrain;
        }) in
        let put_in = packs_put (sort_of id damage) g name (pack_named g name) (Some old) is in
        let pack_is = ap (λ (x : Option PackValue). in_pack (sort_of id damage)
        (unwrap_or x kit_pack)) is in
        let length_is = ap (λ (m : ℕ). in_pack (sort_of id damage) kit_pack * m)
        (len_put g name (pack_named g name) (Some old) is) in
        omega (arith, e, more, put_in, pack_is, length_is)

-- what is dug is one of the sort of its state, and what is placed is the state of its sort
pub dug_counts : (id damage old : ℕ) → damage ≤ 15 →
    held (sort_of id damage) (Full (block_item old)) ≡ one_of (16 * id + damage) old
dug_counts id damage old low = grind (arith, nat_tests)

pub placed_counts : (id damage : ℕ) (item : Item) → damage ≤ 15 → IsItem item →
    held (sort_of id damage) (Full (record item { count = 1 }))
    ≡ one_of (16 * id + damage) (item_state item)
placed_counts id damage item low is = grind (arith, nat_tests)

pub air_counts : (id damage : ℕ) → 1 ≤ id → one_of (16 * id + damage) 0 ≡ 0
air_counts id damage some = grind (arith, nat_tests)
