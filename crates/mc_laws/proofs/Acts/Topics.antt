-- Of which deeds it is made what a player does that moves, digs, drops, places, or opens or closes
-- a window, topic by topic; clicks are in `Clicks`.
use Rattle.std.proofs.Common.{◌≡◌, ℕ, ◌+◌, ◌*◌, ◌<◌, ◌≤◌, Bool, true, false, [], ◌∷◌}
use Rattle.std.proofs.Common.{Option, Some, None, refl, subst, ap, ◌∙◌, arith}
use Rattle.std.specs.Prelude.{◌&&◌, ◌==◌, not, is_some, length, min, nat_le, nat_lt}
use Rattle.std.specs.Prelude.{if◌then◌else◌}
use Rattle.std.proofs.lemmas.Bool.{and_parts, eqb-true, leb-true, ltb-true, not-false}
use Rattle.std.proofs.lemmas.Bool.Decides.{nat_tests}
use Rattle.std.proofs.lemmas.List.Sums.{sum_by-cons}
use Rattle.std.specs.Ordering.{int_eq}
use Rattle.std.specs.FinMap.{get}
use lib.IntN.{ℤ, pos, negsuc}
use Rattle.mc_fields.specs.declared.position.Cell.{Cell}
use Rattle.mc_fields.specs.declared.position.Spot.{Spot}
use Rattle.mc_slots.specs.declared.pile.Item.{Item}
use Rattle.mc_slots.specs.declared.pile.Pile.{Pile}
use Rattle.mc_slots.specs.declared.pile.Pile.TheVariants.{Empty, Full}
use Rattle.mc_slots.specs.Pile.{IsItem, IsPile, Sort, held, without}
use Rattle.mc_land.specs.Land.{is_chest}
use Rattle.mc_windows.specs.Pack.{IsPack, PackValue, answered_pack, begun_pack, is_waiting_for}
use Rattle.mc_windows.proofs.Ranges.{left_is_pile}
use Rattle.mc_entities.specs.declared.entity.EntityKind.TheVariants as kinds
use Rattle.mc_entities.specs.Shift.{is_inside}
use Rattle.mc_model.specs.declared.notes.Notes.{Notes}
use Rattle.mc_model.specs.declared.player.Player.{Player}
use Rattle.mc_model.specs.Balance.{one_of, sort_of}
use Rattle.mc_model.specs.Digging.{all_thrown, block_item, can_dig, digging, drop_held, dropped}
use Rattle.mc_model.specs.Digging.{dug, dug_items, floor_of, is_dug, stacks_at}
use Rattle.mc_model.specs.Notes.{again, with_cells}
use Rattle.mc_model.specs.Hands.{place_of_hotbar, carrying, take_up}
use Rattle.mc_model.specs.Placing.{item_state, placing_refused, is_free, place_at, place_on, placed}
use Rattle.mc_model.specs.Placing.{put_block}
use Rattle.mc_model.specs.Reach.{at_face, is_in_world, is_near, is_in_reach}
use Rattle.mc_model.specs.Spots.{spawn_spot}
use Rattle.mc_model.specs.Things.{in_hand, with_hand}
use Rattle.mc_model.specs.Windows.{close, confirm, feet_of, open_chest, opened, shut, viewers}
use Rattle.mc_model.specs.Game.{Game, chest_at, held_by, pack_of, room_in, spot_of, state_in}
use Rattle.mc_model.specs.Good.{Good}
use Rattle.mc_model.specs.Deeds.{noting, repack_of, stand_of, with_player, with_state}
use Rattle.mc_model.specs.Movement.{arrive, arrived, placed_again}
use Rattle.mc_model.specs.Fitting.{Told}
use Rattle.mc_model.proofs.Maps.Options.{some_is}
use Rattle.mc_model.proofs.FitsNotes.{NotesFit}
use Rattle.mc_laws.proofs.Landings.{IsTurned, inside_fits}
use Rattle.mc_laws.proofs.ThingsActs.{floor_fits, item_state_is}
use Rattle.mc_laws.proofs.ThingsFit.{air, block_is_item, spawn_fits}
use Rattle.mc_laws.proofs.Weighing.Stock.{pack_handed, parted}
use Rattle.mc_laws.proofs.Weighing.Spending.{air_counts, dug_counts, placed_counts}
use Rattle.mc_laws.proofs.Deeds.Chests.{GoodGame, lies_chest, none_comes, none_lies}
use Rattle.mc_laws.proofs.Deeds.Packs.{hand_within, held_is_item, named_is_pack}
use Rattle.mc_laws.proofs.Deeds.Packs.{with_hand_is_pack}
use Rattle.mc_laws.proofs.Deeds.Kept.{made_good, made_told}
use Rattle.mc_laws.proofs.Deeds.Made.{Deed, Made, before, by_deed, by_notes, first}
use Rattle.mc_laws.proofs.Deeds.Made.{gained, rehands, repacks, sets, spent, stands}
use Rattle.mc_laws.proofs.Deeds.Made.{throws, untouched}
use Rattle.mc_laws.proofs.Deeds.Shutting.{HasRoom, can_fall, closed, has_room, same_feet}
use Rattle.mc_laws.proofs.Deeds.Shutting.{all_shut_before, shut_before, shut_good, shut_here}
use Rattle.mc_laws.proofs.Deeds.Shutting.{shut_made, watched_before}
use Rattle.mc_laws.proofs.Deeds.Thrown.{all_thrown_before, chest_are, chest_held, in_items}
use Rattle.mc_laws.proofs.Windows.Same.{SameWindows, ShownBut, nobody, noted_same, repacked_same}
use Rattle.mc_laws.proofs.Windows.Same.{same_on, same_parts, same_right, touched_same}
use Rattle.mc_laws.proofs.Windows.Clicks.{answered_window}
use Rattle.mc_laws.proofs.Windows.Closing.{open_right, shut_right}
use Rattle.mc_laws.proofs.Windows.Viewers.{dug_right, placed_same}
use Rattle.mc_laws.proofs.Fits.Told.{CanCome, cell_told}

hotbar : (place : ℤ) (hand : ℕ) → place_of_hotbar place ≡ Some hand → hand < 9
hotbar (pos n) hand e = step (nat_lt n 9) refl e
  where
    step : (b : Bool) → nat_lt n 9 ≡ b → (if b then Some n else None) ≡ Some hand → hand < 9
    step true t e = subst (λ (m : ℕ). m < 9) (some_is n hand e) (ltb-true n 9 t)
    step false t e = absurd cc
hotbar (negsuc n) hand e = absurd cc

-- what a test for digging says
record CanDig (p : Player) (cell : Cell) (g : Game) : Type 0 where
  inside : is_in_world cell ≡ true
  solid : is_dug (state_in g cell) ≡ true
  room : length (dug_items cell g) ≤ room_in g

dig_tests : (p : Player) (cell : Cell) (g : Game) → can_dig p cell g ≡ true → CanDig p cell g
dig_tests p cell g test =
    let fits = nat_le (length (dug_items cell g)) (room_in g) in
    let a = and_parts (is_in_reach g p cell) (is_dug (state_in g cell) && fits) test in
    let b = and_parts (is_dug (state_in g cell)) fits a.1 in
    let c = and_parts (is_in_world cell) (is_near (spot_of g p) cell) a.0 in
    record {
      inside = c.0;
      solid = b.0;
      room = leb-true (length (dug_items cell g)) (room_in g) b.1;
    }

-- What the player of a connection makes of a game: it is made of deeds, and where all in play were
-- shown chests as they should be, they are.
pub record Becomes (H : Type 0) (k : ℕ) (g v : Game) : Type 0 where
  pub made : Made (GoodGame g) (GoodGame g × Told g) H k g v
  pub shown : GoodGame g → ShownBut nobody g → ShownBut nobody v

-- nothing of the windows changes, of a good game or of any
pub keeping_good : {H : Type 0} {k : ℕ} {g v : Game} →
    Made (GoodGame g) (GoodGame g × Told g) H k g v → (GoodGame g → SameWindows g v) →
    Becomes H k g v
keeping_good {H} {k} {g} {v} made same =
    record { made = made; shown = λ w. same_right nobody g v (same w) }

pub keeping : {H : Type 0} {k : ℕ} {g v : Game} → Made (GoodGame g) (GoodGame g × Told g) H k g v →
    SameWindows g v → Becomes H k g v
keeping made same = keeping_good made (λ w. same)

-- nothing at all
pub stays : {H : Type 0} {k : ℕ} {g : Game} → Becomes H k g g
stays {H} {k} {g} = record { made = untouched _ _ H k g; shown = λ w r. r }

-- something is noted for its own client, of which packets can tell what they could before
pub notes_own : {H : Type 0} {k : ℕ} {g : Game} (f : Notes → Notes) →
    ((n : Notes) → NotesFit n → NotesFit (f n)) → Becomes H k g (noting f k g)
notes_own {H} {k} {g} f keeps =
    keeping (by_notes _ _ H k k f (λ t h n fit. keeps n fit) g) (noted_same k f g)

by_test : {H : Type 0} {k : ℕ} {g : Game} (v u : Game) (b : Bool) → (b ≡ true → Becomes H k g v) →
    (b ≡ false → Becomes H k g u) → Becomes H k g (if b then v else u)
by_test v u true first second = first refl
by_test v u false first second = second refl

module _ (H : Type 0) (k : ℕ) (p : Player) (g : Game) (there : get g.players k ≡ Some p) where
  -- what is made of the game, which may be good and such that packets can tell it
  abbrev Makes : Game → Type 0
  Makes v = Made (GoodGame g) (GoodGame g × Told g) H k g v

  abbrev by_one : {v : Game} (deed : Deed (GoodGame g) (GoodGame g × Told g) H k g v) →
      ((id damage : ℕ) → spent _ _ H k id damage g v deed ≡ gained _ _ H k id damage g v deed) →
      Makes v
  by_one {v} deed even = by_deed _ _ H k g v deed even

  -- ---- moving

  arrived_made : (spot : Spot) → (Told g → IsTurned spot) → Becomes H k g (arrived k p g spot)
  arrived_made spot turns = by_test _ _ (is_inside spot)
      (λ inside. keeping (by_one (stands p spot there
      (λ t. inside_fits spot (turns t.1) inside) refl) (λ id damage. refl))
      (same_parts refl refl refl))
      (λ outside. keeping (before _ _ H k g (stand_of p enters g) _
      (stands p enters there (λ t. spawn_fits g.settings.terrain) refl) (λ id damage. refl)
      (by_notes _ _ H k k placed_again (λ t h n fit. fit) (stand_of p enters g)))
      (same_on {u = stand_of p enters g} (same_parts refl refl refl)
      (noted_same k placed_again (stand_of p enters g))))
    where
      enters : Spot
      enters = spawn_spot g.settings.terrain

  pub arrive_made : (spot : Option Spot) (v : Game) →
      (Told g → (to : Spot) → spot ≡ Some to → IsTurned to) → arrive k p spot g ≡ Some v →
      Becomes H k g v
  arrive_made None v turns e = absurd cc
  arrive_made (Some spot) v turns e =
      subst (Becomes H k g) (some_is _ v e) (arrived_made spot (λ t. turns t spot refl))

  -- ---- hands

  pub take_up_made : (place : ℤ) → Becomes H k g (take_up k p (place_of_hotbar place) g)
  take_up_made place = step (place_of_hotbar place) refl
    where
      step : (o : Option ℕ) → place_of_hotbar place ≡ o → Becomes H k g (take_up k p o g)
      step None is = stays
      step (Some hand) is = keeping
          (by_one (rehands p hand there (hotbar place hand is) refl) (λ id damage. refl))
          (same_on {u = with_player k (λ (q : Player). record q { hand = hand }) g}
          (touched_same k (λ (q : Player). record q { hand = hand }) (λ q. refl) g)
          (same_parts refl refl refl))

  -- its pack with another pile in the hand is one
  handed_pack : (pile : Pile) → (GoodGame g → IsPile pile) → GoodGame g →
      IsPack (with_hand pile p.hand (pack_of g p)).slots
      (with_hand pile p.hand (pack_of g p)).cursor
  handed_pack pile is w =
      with_hand_is_pack pile p.hand (pack_of g p) (is w) (named_is_pack g p.name w.0)

  -- ---- digging and dropping

  -- it becomes air, and what comes of it lies there
  emptied_before : (cell : Cell) → can_dig p cell g ≡ true →
      (v : Game) → Made (GoodGame g) (GoodGame g × Told g) H k
      (all_thrown (dug_items cell g) (floor_of cell) (with_state cell 0 g)) v → Makes v
  emptied_before cell test v later =
      first _ _ H k (λ (sort : Sort). 0) (λ (sort : Sort). in_items sort (dug_items cell g)) g
      (with_state cell 0 g) _
      (sets cell 0 can.inside (λ t. air) refl)
      (λ w id damage some low. let sort = sort_of id damage in
      let one = dug_counts id damage (state_in g cell) low in
      let none = air_counts id damage some in
      let all = sum_by-cons (λ (x : Item). held sort (Full x)) (block_item (state_in g cell))
      (stacks_at cell g) in
      let stacks = chest_held sort (chest_at g cell) in
      let gone = none_comes sort cell 0 g refl in
      omega (arith, one, none, all, stacks, gone))
      (all_thrown_before _ _ H k (dug_items cell g) (floor_of cell) (with_state cell 0 g) v
      (λ t. (
        block_is_item (state_in g cell) (cell_told g cell t.1) can.solid,
        chest_are (chest_at g cell) (lies_chest g cell t.0.1),
      ))
      (λ t. floor_fits cell can.inside) (omega (arith, room)) (omega (arith, room)) later)
    where
      can : CanDig p cell g
      can = dig_tests p cell g test

      room : length (dug_items cell g) ≤ room_in g
      room = can.room

  -- then the windows on it close
  dug_made : (cell : Cell) → can_dig p cell g ≡ true → Makes (dug cell g)
  dug_made cell test = emptied_before cell test (dug cell g)
      (all_shut_before _ _ H k (viewers cell g) fallen (dug cell g)
      (λ w. (made_good _ _ _ k g fallen made w w).0)
      (λ t. (t.0, made_told _ _ _ k g fallen made t.0 t t.0.0 t.1)) (untouched _ _ H k _))
    where
      fallen : Game
      fallen = all_thrown (dug_items cell g) (floor_of cell) (with_state cell 0 g)

      made : Makes fallen
      made = emptied_before cell test fallen (untouched _ _ H k fallen)

  dropped_made : (item : Item) (n : ℕ) → (IsItem item → 1 ≤ n) → n ≤ item.count →
      held_by g p ≡ Full item →
      HasRoom g → Becomes H k g (dropped p item n g)
  dropped_made item n some few is room = keeping
      (first (GoodGame g) (GoodGame g × Told g) H k (λ (sort : Sort). 0)
      (λ (sort : Sort). held sort (Full (record item { count = n }))) g (carrying p left g) _
      (repacks k p (with_hand left p.hand (pack_of g p)) there (handed_pack left
      (λ w. left_is_pile item n (held_is_item g p item is w.0))) refl)
      (λ w id damage one low. let sort = sort_of id damage in
      let parts = parted sort item n few in
      let held_is = ap (held sort) is in
      let handed = pack_handed sort left p.hand (pack_of g p) (hand_within k p g there w.0) in
      omega (arith, parts, held_is, handed))
      (first (GoodGame g) (GoodGame g × Told g) H k
      (λ (sort : Sort). held sort (Full (record item { count = n }))) (λ (sort : Sort). 0)
      (carrying p left g) (dropped p item n g) _
      (throws (record item { count = n }) (feet_of p g) can refl)
      (λ w id damage one low. omega arith) (untouched _ _ _ _ _)))
      (same_on {u = carrying p left g}
      (repacked_same p (with_hand left p.hand (pack_of g p)) g refl) (same_parts refl refl refl))
    where
      left : Pile
      left = without (Full item) n

      it : GoodGame g → IsItem (record item { count = n })
      it w = (let whole = held_is_item g p item is w.0 in
          let high = whole.count.1 in
          record {
            id = whole.id;
            damage = whole.damage;
            count = (some whole, omega (arith, high, few));
          })

      can : GoodGame g × Told g →
          CanCome (kinds.Dropped (record item { count = n }) g.age) (feet_of p g)
          (carrying p left g).entities g.eids
      can t = subst (λ (spot : Spot). CanCome (kinds.Dropped (record item { count = n }) g.age)
          spot (carrying p left g).entities g.eids)
          (same_feet p (in_hand (with_hand left p.hand (pack_of g p)) p.hand) g)
          (can_fall _ _ H k k p g there (λ x. x) (with_hand left p.hand (pack_of g p)) _
          (handed_pack left (λ w. left_is_pile item n (held_is_item g p item is w.0))) it room t)

  drop_made : (n : ℕ) → 1 ≤ n → Becomes H k g (drop_held k p n (held_by g p) g)
  drop_made n some = step (held_by g p) refl
    where
      taken : (item : Item) → IsItem item → 1 ≤ min n item.count
      taken item it = let low = it.count.0 in omega (arith, some, low)

      step : (held : Pile) → held_by g p ≡ held → Becomes H k g (drop_held k p n held g)
      step Empty is = stays
      step (Full item) is = by_test _ _ (nat_lt 0 (room_in g))
          (λ test. dropped_made item (min n item.count) (taken item) (omega arith) is
          (has_room g test))
          (λ full. notes_own again (λ n fit. fit))

  pub digging_made : (status : ℤ) (cell : Cell) → Becomes H k g (digging k p status cell g)
  digging_made status cell = by_test _ _ (int_eq status (pos 2))
      (λ digs. by_test _ _ (can_dig p cell g)
      (λ can. record {
        made = dug_made cell can;
        shown = λ w. dug_right cell g (dig_tests p cell g can).inside w.0;
      })
      (λ far. notes_own (with_cells (cell ∷ [])) (λ n fit. fit)))
      (λ not_2. by_test _ _ (int_eq status (pos 3)) (λ all. drop_made 64 (omega arith))
      (λ not_3. by_test _ _ (int_eq status (pos 4)) (λ one. drop_made 1 (omega arith))
      (λ other. stays)))

  -- ---- placing

  refused : (cell target : Cell) → Becomes H k g (noting (placing_refused cell target) k g)
  refused cell target = notes_own (placing_refused cell target) (λ n fit. fit)

  placed_made : (target : Cell) (item : Item) → held_by g p ≡ Full item →
      is_free g target ≡ true → Becomes H k g (placed p target item g)
  placed_made target item is free = keeping_good (record {
    games = with_state target (item_state item) g ∷ placed p target item g ∷ [];
    deeds = (
      sets target (item_state item) test.0
          (λ t. item_state_is item (held_is_item g p item is t.0.0)) refl,
      (
        repacks k p (with_hand left p.hand (pack_of g p)) there
            (handed_pack left (λ w. left_is_pile item 1 (held_is_item g p item is w.0))) refl,
        refl,
      ),
    );
    even = λ w id damage some low. (let sort = sort_of id damage in
        let it = held_is_item g p item is w.0 in
        let parts = parted sort item 1 it.count.0 in
        let held_is = ap (held sort) is in
        let made = placed_counts id damage item low it in
        let was = ap (one_of (16 * id + damage)) air_there in
        let none = air_counts id damage some in
        let before = none_lies sort target g test.0 w.1 (ap is_chest air_there) in
        let after = none_comes sort target (item_state item) g no_chest in
        let handed = pack_handed sort left p.hand (pack_of g p) (hand_within k p g there w.0) in
        omega (arith, parts, held_is, made, was, none, before, after, handed));
  })
      (λ w. same_on {u = with_state target (item_state item) g}
      (placed_same target (item_state item) g test.0
      (w.1.stand target test.0 ∙ ap is_chest air_there))
      (repacked_same p (with_hand left p.hand (pack_of g p))
      (with_state target (item_state item) g) refl))
    where
      left : Pile
      left = without (Full item) 1

      test : (is_in_world target ≡ true) × ((state_in g target == 0) ≡ true)
      test = and_parts (is_in_world target) (state_in g target == 0) free

      air_there : state_in g target ≡ 0
      air_there = eqb-true (state_in g target) 0 test.1

      no_chest : (if is_chest (item_state item) then is_chest (state_in g target) else false)
          ≡ false
      no_chest = grind (arith, nat_tests, air_there)

  put_made : (cell target : Cell) → Becomes H k g (put_block k p cell target (held_by g p) g)
  put_made cell target = step (held_by g p) refl
    where
      step : (held : Pile) → held_by g p ≡ held → Becomes H k g (put_block k p cell target held g)
      step Empty is = refused cell target
      step (Full item) is = by_test _ _ (is_free g target)
          (λ free. placed_made target item is free) (λ taken. refused cell target)

  -- ---- the window

  closes : Makes (shut k p g)
  closes = shut_made _ _ H k k p g there (λ t. t) (λ w. w.0)

  -- it is shown a chest, whoever closed its window before
  opened_made : (cell : Cell) (u : Game) (q : Player) → get u.players k ≡ Some q →
      (GoodGame g → Good u) →
      Made (GoodGame g) (GoodGame g × Told g) H k u (opened k q cell u)
  opened_made cell u q here good =
      before _ _ H k u (repack_of q (begun_pack (pack_of u q)) u) _
      (repacks k q (begun_pack (pack_of u q)) here (λ w. named_is_pack u q.name (good w)) refl)
      (λ id damage. refl)
      (watched_before _ _ H k k (Some cell) _ _ (untouched _ _ H k _))

  open_made : (cell : Cell) → Makes (open_chest k p cell g)
  open_made cell = step (is_some p.chest)
    where
      step : (b : Bool) → Makes (opened k p cell (if b then shut k p g else g))
      step true = shut_before _ _ H k k p g there (λ t. t) _ (λ w. w.0)
          (opened_made cell (shut k p g) (closed (nat_lt 0 (room_in g)) p)
          (shut_here k p g there) (λ w. shut_good k p g there w.0))
      step false = opened_made cell g p there (λ w. w.0)

  pub place_made : (cell : Cell) (face : ℤ) → Becomes H k g (place_on k p cell face g)
  place_made cell face = step (at_face cell face)
    where
      step : (target : Option Cell) → Becomes H k g (place_at k p cell target g)
      step None = stays
      step (Some target) = by_test _ _ (not (is_in_reach g p cell))
          (λ far. refused cell target)
          (λ near. by_test _ _ (is_chest (state_in g cell)) (λ chest. record {
            made = open_made cell;
            shown = λ w. open_right k p cell g there (w.1.stand cell (and_parts
                (is_in_world cell) _ (not-false (is_in_reach g p cell) near)).0 ∙ chest);
          })
          (λ other. put_made cell target))

  -- ---- confirming and closing

  pub confirm_made : (window : ℕ) (number : ℤ) → Becomes H k g (confirm p window number g)
  confirm_made window number = keeping
      (step (window == pack.window && is_waiting_for number pack.waiting))
      (repacked_same p (answered_pack window number pack) g (answered_window window number pack))
    where
      pack : PackValue
      pack = pack_of g p

      step : (b : Bool) →
          Makes (repack_of p (if b then record pack { waiting = None } else pack) g)
      step true = by_one (repacks k p (record pack { waiting = None }) there
          (λ w. named_is_pack g p.name w.0) refl) (λ id damage. refl)
      step false = by_one (repacks k p pack there (λ w. named_is_pack g p.name w.0) refl)
          (λ id damage. refl)

  pub close_made : (window : ℕ) → Becomes H k g (close k p window g)
  close_made window = by_test _ _ (window == (pack_of g p).window) (λ shown. record {
    made = closes;
    shown = λ w. shut_right nobody nobody k p g there (λ j ne out. out);
  }) (λ other. stays)
