-- The window of a player closes: of which deeds that is made, by whomever it is, and what it leaves
-- of the players.
use Rattle.std.proofs.Common.{◌≡◌, ◌≢◌, ℕ, ◌+◌, ◌<◌, Bool, true, false, List, [], ◌∷◌, Option, Some}
use Rattle.std.proofs.Common.{None, refl, subst, arith}
use Rattle.std.specs.Prelude.{nat_lt, if◌then◌else◌}
use Rattle.std.proofs.lemmas.Bool.{ltb-true}
use Rattle.std.proofs.lemmas.Bool.Decides.{nat_tests}
use Rattle.std.specs.FinMap.{get}
use lib.IntN.{pos}
use Rattle.mc_fields.specs.declared.position.Cell.{Cell}
use Rattle.mc_slots.specs.declared.pile.Item.{Item}
use Rattle.mc_slots.specs.declared.pile.Pile.{Pile}
use Rattle.mc_slots.specs.declared.pile.Pile.TheVariants.{Empty, Full}
use Rattle.mc_slots.specs.Pile.{IsItem, IsPile, Sort, held}
use Rattle.mc_windows.specs.Pack.{IsPack, PackValue, finished_pack}
use Rattle.mc_entities.specs.declared.entity.EntityKind.TheVariants as kinds
use Rattle.mc_entities.specs.Numbers.{changed}
use Rattle.mc_entities.specs.Folk.{dropped_in, eid_of}
use Rattle.mc_model.specs.declared.player.Player.{Player}
use Rattle.mc_model.specs.Notes.{again}
use Rattle.mc_model.specs.Things.{holding, in_hand}
use Rattle.mc_model.specs.Game.{Game, of_player, pack_of, room_in}
use Rattle.mc_model.specs.Deeds.{noting, repack_of, watching}
use Rattle.mc_model.specs.Windows.{feet_of, kept_in_hand, let_fall, shut, shut_all}
use Rattle.mc_model.specs.Good.{Good}
use Rattle.mc_model.specs.Fitting.{Told}
use Rattle.mc_model.proofs.ThingsKept.{dropped_held}
use Rattle.mc_model.proofs.Maps.Entities.{changed_eid}
use Rattle.mc_laws.proofs.EachValue.{AreChanged, mapped_itself, only, only_changed, twice_changed}
use Rattle.mc_laws.proofs.Deeds.Made.{Made, MadeWith, before, first, notes, repacks}
use Rattle.mc_laws.proofs.Deeds.Made.{throws, touch, untouched}
use Rattle.mc_laws.proofs.Deeds.Kept.{deeds_keep, deed_good, deeds_on, made_told}
use Rattle.mc_laws.proofs.Deeds.Goods.{holds}
use Rattle.mc_laws.proofs.Deeds.Onwards.{Onward}
use Rattle.mc_laws.proofs.Deeds.Packs.{named_is_pack}
use Rattle.mc_laws.proofs.Fits.Told.{CanCome, holding_told, spot_told}

-- What holds of a game without a connection's player, and of what is made of one where it has one,
-- holds of what is made of the game.
pub of_cases : (k : ℕ) (g : Game) (f : Player → Game) (P : Game → Type 0) →
    (get g.players k ≡ None → P g) → ((p : Player) → get g.players k ≡ Some p → P (f p)) →
    P (of_player g f (get g.players k))
of_cases k g f P none some = elim (get g.players k) as
    (λ o. get g.players k ≡ o → P (of_player g f o)) [ None ↦ none | Some p ↦ some p ] refl

-- there is room for one more dropped item and one more number
pub record HasRoom (g : Game) : Type 0 where
  pub lying : dropped_in g.entities < 4096
  pub given : g.eids < 2147483647

-- as the test for it has it
pub has_room : (g : Game) → nat_lt 0 (room_in g) ≡ true → HasRoom g
has_room g test =
    let some = ltb-true 0 (room_in g) test in
    record { lying = omega (arith, some); given = omega (arith, some) }

-- ---- what falls, and what is shown

module _ (G T H : Type 0) (k : ℕ) where
  -- what comes out of a player's window lies there, and more is done
  pub falls : (p : Player) (u v : Game) (pile : Pile) → ((item : Item) → pile ≡ Full item → T →
      CanCome (kinds.Dropped item u.age) (feet_of p u) u.entities u.eids) →
      Made G T H k (let_fall p pile u) v →
      MadeWith G T H k (λ (sort : Sort). held sort pile) u v
  falls p u v Empty can later = later
  falls p u v (Full item) can later =
      first G T H k (λ (sort : Sort). held sort (Full item)) (λ (sort : Sort). 0) u _ v
      (throws item (feet_of p u) (can item refl) refl) (λ w id damage some low. omega arith) later

  -- any player is shown another chest, or none, and more is done
  pub watched_before : (j : ℕ) (chest : Option Cell) (u v : Game) →
      Made G T H k (watching chest j u) v → Made G T H k u v
  watched_before j chest u v = before G T H k u (watching chest j u) v
      (touch G T H k j (λ (q : Player). record q { chest = chest })
      (λ q. record { eid = refl; uuid = refl; name = refl; hand = refl }) (λ ne q. refl)
      (λ t h q fit. fit) u) (λ id damage. refl)

-- another pile in its hand leaves a player where it stands
pub same_feet : (p : Player) (held : Pile) (g : Game) → feet_of p (record g {
  entities = changed eid_of (pos p.eid) (holding held) g.entities;
}) ≡ feet_of p g
same_feet p held g =
    grind (arith, nat_tests, changed_eid p.eid (holding held) g.entities (holds held))

module _ (G T H : Type 0) (k j : ℕ) (p : Player) (g : Game) (there : get g.players j ≡ Some p)
    (given : T → G × Told g) where
  -- where a player carries a pack, something more can lie at its feet
  pub can_fall : (pack : PackValue) (item : Item) → (G → IsPack pack.slots pack.cursor) →
      (G → IsItem item) → HasRoom g → T → CanCome (kinds.Dropped item g.age)
      (feet_of p (repack_of p pack g)) (repack_of p pack g).entities g.eids
  can_fall pack item is it room t =
      let inside = in_hand pack p.hand in
      let told = holding_told p.eid inside g.edits g.entities g.eids
      ((is (given t).0).are_piles (27 + p.hand)) (given t).1 in
      let at = spot_told (repack_of p pack g) p told in
      let same = dropped_held p.eid inside g.entities in
      let lying = room.lying in
      record {
        kind_is = it (given t).0;
        named = tt;
        place = record {
          x = at.x;
          y = at.y;
          z = at.z;
          yaw = omega arith;
          pitch = omega arith;
        };
        room = omega (arith, lying, same);
        given = room.given;
      }

  -- ---- closing

  -- it closes, and more is done
  pub shut_before : (v : Game) → (G → Good g) → Made G T H k (shut j p g) v → Made G T H k g v
  shut_before v good = by_room (nat_lt 0 (room_in g)) refl
    where
      pack : PackValue
      pack = pack_of g p

      is : G → IsPack pack.slots pack.cursor
      is x = named_is_pack g p.name (good x)

      done : G → IsPack (finished_pack pack).slots (finished_pack pack).cursor
      done x = record { size = (is x).size; are_piles = (is x).are_piles; is_pile = tt }

      by_room : (b : Bool) → nat_lt 0 (room_in g) ≡ b → Made G T H k (watching None j
          (if b then let_fall p pack.cursor (repack_of p (finished_pack pack) g)
          else noting again j (repack_of p (kept_in_hand pack) g))) v → Made G T H k g v
      by_room true test later =
          first G T H k (λ (sort : Sort). 0) (λ (sort : Sort). held sort pack.cursor) g
          (repack_of p (finished_pack pack) g) _
          (repacks j p (finished_pack pack) there done refl)
          (λ w id damage some low. omega arith)
          (falls G T H k p (repack_of p (finished_pack pack) g) _ pack.cursor
          (λ item full. can_fall (finished_pack pack) item done
          (λ x. subst IsPile full (is x).is_pile) (has_room g test))
          (watched_before G T H k j None _ v later))
      by_room false full later =
          before G T H k g (repack_of p (kept_in_hand pack) g) _
          (repacks j p (kept_in_hand pack) there is refl) (λ id damage. refl)
          (before G T H k (repack_of p (kept_in_hand pack) g) _ _
          (notes G T H k j again (λ t h n fit. fit) (repack_of p (kept_in_hand pack) g))
          (λ id damage. refl) (watched_before G T H k j None _ v later))

  pub shut_made : (G → Good g) → Made G T H k g (shut j p g)
  shut_made good = shut_before (shut j p g) good (untouched G T H k (shut j p g))

-- ---- what closing keeps

module _ (k : ℕ) (p : Player) (g : Game) (there : get g.players k ≡ Some p) where
  pub shuts : Made (Good g) (Good g × Told g) (Unit {0}) k g (shut k p g)
  shuts = shut_made (Good g) (Good g × Told g) (Unit {0}) k k p g there (λ t. t) (λ w. w)

  pub shut_on : Onward k g (shut k p g)
  shut_on = deeds_on _ _ _ k g shuts.games (shut k p g) shuts.deeds

  pub shut_good : Good g → Good (shut k p g)
  shut_good w = deeds_keep _ _ _ k Good (λ u v deed good is. deed_good _ _ _ k u v deed w good) w g
      shuts.games (shut k p g) shuts.deeds w w

  pub shut_told : Good g → Told g → Told (shut k p g)
  shut_told w t = made_told _ _ _ k g (shut k p g) shuts w (w, t) w t

-- ---- whom it changes

-- A player whose window closed is shown no chest, and its window is sent again where what hangs on
-- its cursor has no room.
abbrev pub closed : Bool → Player → Player
closed room p = record p { chest = None; notes = if room then p.notes else again p.notes }

pub shut_players : (k : ℕ) (p : Player) (g : Game) →
    AreChanged (only k (closed (nat_lt 0 (room_in g)))) g.players (shut k p g).players
shut_players k p g = by_room (nat_lt 0 (room_in g)) (pack_of g p).cursor
  where
    pack : PackValue
    pack = pack_of g p

    ends : Player → Player
    ends q = record q { chest = None }

    by_room : (b : Bool) (pile : Pile) → AreChanged (only k (closed b)) g.players (watching None k
        (if b then let_fall p pile (repack_of p (finished_pack pack) g)
        else noting again k (repack_of p (kept_in_hand pack) g))).players
    by_room true Empty = only_changed k ends g.players
    by_room true (Full item) = only_changed k ends g.players
    by_room false pile =
        twice_changed k ends (λ (q : Player). record q { notes = again q.notes }) g.players

pub shut_here : (k : ℕ) (p : Player) (g : Game) → get g.players k ≡ Some p →
    get (shut k p g).players k ≡ Some (closed (nat_lt 0 (room_in g)) p)
shut_here k p g there = grind (arith, nat_tests, there, shut_players k p g k)

pub shut_other : (k j : ℕ) (p : Player) (g : Game) → j ≢ k →
    get (shut k p g).players j ≡ get g.players j
shut_other k j p g ne =
    grind (arith, nat_tests, ne, shut_players k p g j, mapped_itself (get g.players j))

-- ---- of several players

module _ (G T H : Type 0) (k : ℕ) where
  one_before : (j : ℕ) (g v : Game) → (G → Good g) → (T → G × Told g) →
      Made G T H k (of_player g (λ (p : Player). shut j p g) (get g.players j)) v →
      Made G T H k g v
  one_before j g v good given = of_cases j g (λ p. shut j p g)
      (λ (u : Game). Made G T H k u v → Made G T H k g v) (λ none later. later)
      (λ p there. shut_before G T H k j p g there given v good)

  pub all_shut_before : (js : List ℕ) (g v : Game) → (G → Good g) → (T → G × Told g) →
      Made G T H k (shut_all js g) v → Made G T H k g v
  all_shut_before [] g v good given later = later
  all_shut_before (j ∷ js) g v good given later =
      let u : Game = of_player g (λ (p : Player). shut j p g) (get g.players j) in
      let one = one_before j g u good given (untouched G T H k u) in
      one_before j g v good given (all_shut_before js u v
      (λ x. deeds_keep G T H k Good (λ a b deed is w. deed_good G T H k a b deed x is) x g one.games
      u one.deeds (good x) (good x))
      (λ t. ((given t).0, made_told G T H k g u one (given t).0 t (good (given t).0) (given t).1))
      later)
