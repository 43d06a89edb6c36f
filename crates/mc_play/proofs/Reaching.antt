-- What digging and placing come to, by what the code looks at.
use Rattle.std.proofs.Common.{◌≡◌, ℕ, suc, ◌+◌, ◌≤◌, List, [], ◌∷◌, length, Bool, true, false}
use Rattle.std.proofs.Common.{refl, sym, ap, arith, ◌∙◌}
use Rattle.std.specs.Prelude.{◌&&◌, nat_le, not, Option, Some, None, if◌then◌else◌}
use Rattle.std.specs.Ordering.{nat_cmp}
use Rattle.std.specs.FinMap.{FinMap, get}
use Rattle.mc_fields.specs.declared.position.Cell.{Cell}
use Rattle.mc_fields.specs.declared.position.Spot.{Spot}
use Rattle.mc_slots.specs.declared.pile.Item.{Item}
use Rattle.mc_land.specs.Land.{is_chest}
use Rattle.mc_entities.specs.Folk.{HasRoom}
use Rattle.mc_model.specs.declared.player.Player.{Player}
use Rattle.mc_model.specs.Maps.{modify}
use Rattle.mc_model.specs.Notes.{with_cells}
use Rattle.mc_model.specs.Deeds.{noting, thrown, with_state}
use Rattle.mc_model.specs.Digging.{all_thrown, block_item, can_dig, dig, dug, dug_items, floor_of}
use Rattle.mc_model.specs.Digging.{is_dug, stacks_at}
use Rattle.mc_model.specs.Game.{Game, held_by, room_in, state_in}
use Rattle.mc_model.specs.Placing.{place_at, placing_refused, put_block}
use Rattle.mc_model.specs.Reach.{is_in_reach}
use Rattle.mc_model.specs.Windows.{open_chest, shut_all, viewers}
use Rattle.mc_play.specs.Kept.{Aside, GameValue, by_player, folk_of, played}
use Rattle.mc_play.proofs.Dropping.{by_some}
use Rattle.mc_play.proofs.Steps.{then_played}

-- ---- a cell that is dug, step by step

-- there are room and places for what it was and for what lay in it
pub dug_room : (cell : Cell) (lay : List Item) (many : ℕ) (u w mid : GameValue) →
    length (dug_items cell u.game) ≤ room_in u.game → lay ≡ stacks_at cell u.game →
    1 + length lay + many ≤ w.aside.reserve → w ≡ played u u.game w.aside →
    mid ≡ played w (with_state cell 0 w.game) mid.aside →
    mid.aside.reserve ≡ w.aside.reserve → HasRoom (suc (length lay)) (folk_of mid)
dug_room cell lay many u w mid room lies places same set kept =
    let as_much : room_in mid.game ≡ room_in u.game =
    ap (λ (v : GameValue). room_in v.game) set ∙ ap (λ (v : GameValue). room_in v.game) same in
    let lengths = ap (λ (items : List Item). length items) lies in
    record {
      room = omega (arith, as_much, lengths, room);
      places = omega (arith, places, kept);
    }

-- it is air, what comes of it lies there, and then the windows on it close
pub digs : (cell : Cell) (state : ℕ) (ks : List ℕ) (item : Item) (lay : List Item) (spot : Spot)
    (u w mid fell all n : GameValue) → state ≡ state_in u.game cell →
    ks ≡ viewers cell u.game → item ≡ block_item state → lay ≡ stacks_at cell u.game →
    spot ≡ floor_of cell →
    w ≡ played u u.game w.aside → mid ≡ played w (with_state cell 0 w.game) mid.aside →
    fell ≡ played mid (thrown item spot mid.game) fell.aside →
    all ≡ played fell (all_thrown lay spot fell.game) all.aside →
    n ≡ played all (shut_all ks all.game) n.aside → n ≡ played u (dug cell u.game) n.aside
digs cell state ks item lay spot u w mid fell all n was seen is lies at same set thrown_ after
    closed =
    then_played u (shut_all ks)
    (then_played u (all_thrown lay spot)
    (then_played u (thrown item spot)
    (then_played u (with_state cell 0) same set) thrown_) after) closed
    ∙ (λ i. played u (shut_all (seen i) (all_thrown (lies i) (at i)
    (thrown ((is ∙ ap block_item was) i) (at i) (with_state cell 0 u.game)))) n.aside)

-- ---- cells in reach

-- what is in reach is so, and has its state
reached : (b : Bool) (state n : ℕ) → Some state ≡ (if b then Some n else None) →
    (b ≡ true) × (state ≡ n)
reached true state n e = (refl, cc)
reached false state n e = absurd cc

-- what is not is not
unreached : (b : Bool) (n : ℕ) → ◌≡◌ {A = Option ℕ} None (if b then Some n else None) →
    b ≡ false
unreached true n e = absurd cc
unreached false n e = refl

-- who does the same to a game makes the same of it
by_alike : (k : ℕ) (p : Player) (f h : Player → Game → Game) (g : Game) →
    get g.players k ≡ Some p → f p g ≡ h p g → by_player k f g ≡ by_player k h g
by_alike k p f h g plays same = by_some k f g p plays ∙ same ∙ sym (by_some k h g p plays)

-- ---- who digs

-- what is in reach, not air or bedrock, and has room for what comes of it, is dug
pub is_dug_by : (k : ℕ) (p : Player) (cell : Cell) (state : ℕ) (u : GameValue) →
    get u.game.players k ≡ Some p →
    Some state ≡ (if is_in_reach u.game p cell then Some (state_in u.game cell) else None) →
    true ≡ is_dug state → true ≡ nat_le (length (dug_items cell u.game)) (room_in u.game) →
    dug cell u.game ≡ by_player k (λ (q : Player). dig k q cell) u.game
is_dug_by k p cell state u plays near is room =
    let there = reached (is_in_reach u.game p cell) state (state_in u.game cell) near in
    (λ i. if (sym there.0 i && ((is ∙ ap is_dug there.1) i && room i)) then dug cell u.game
    else noting (with_cells (cell ∷ [])) k u.game)
    ∙ sym (by_some k (λ (q : Player). dig k q cell) u.game p plays)

-- what is out of reach is not
pub is_far : (p : Player) (cell : Cell) (u : GameValue) → ◌≡◌ {A = Option ℕ} None
    (if is_in_reach u.game p cell then Some (state_in u.game cell) else None) →
    false ≡ can_dig p cell u.game
is_far p cell u far =
    ap (λ (b : Bool). b && (is_dug (state_in u.game cell)
    && nat_le (length (dug_items cell u.game)) (room_in u.game)))
    (sym (unreached (is_in_reach u.game p cell) (state_in u.game cell) far))

-- nor air and bedrock
pub is_kept : (p : Player) (cell : Cell) (state : ℕ) (u : GameValue) →
    Some state ≡ (if is_in_reach u.game p cell then Some (state_in u.game cell) else None) →
    false ≡ is_dug state → false ≡ can_dig p cell u.game
is_kept p cell state u near is =
    let there = reached (is_in_reach u.game p cell) state (state_in u.game cell) near in
    λ i. sym there.0 i && ((is ∙ ap is_dug there.1) i
    && nat_le (length (dug_items cell u.game)) (room_in u.game))

-- nor what there is no room for
pub is_too_much : (p : Player) (cell : Cell) (u : GameValue) →
    false ≡ nat_le (length (dug_items cell u.game)) (room_in u.game) →
    false ≡ can_dig p cell u.game
is_too_much p cell u full =
    none (is_in_reach u.game p cell) (is_dug (state_in u.game cell))
    ∙ ap (λ (b : Bool). is_in_reach u.game p cell && (is_dug (state_in u.game cell) && b)) full
  where
    none : (a b : Bool) → false ≡ (a && (b && false))
    none true true = refl
    none true false = refl
    none false b = refl

-- and the cell is noted then
pub is_noted_by : (k : ℕ) (p : Player) (cell : Cell) (u v : GameValue)
    (players : FinMap nat_cmp Player) (aside : Aside) → get u.game.players k ≡ Some p →
    false ≡ can_dig p cell u.game → v ≡ u →
    players ≡ modify k (λ (q : Player). record q { notes = with_cells (cell ∷ []) q.notes })
    v.game.players → played v (record v.game { players = players }) aside
    ≡ played u (by_player k (λ (q : Player). dig k q cell) u.game) aside
is_noted_by k p cell u v players aside plays kept same noted =
    (λ i. played (same i) (record (same i).game {
      players = (noted ∙ ap (λ (w : GameValue). modify k
          (λ (q : Player). record q { notes = with_cells (cell ∷ []) q.notes })
          w.game.players) same) i;
    }) aside)
    ∙ ap (λ (g : Game). played u g aside)
    (ap (λ (b : Bool). if b then dug cell u.game else noting (with_cells (cell ∷ [])) k u.game) kept
    ∙ sym (by_some k (λ (q : Player). dig k q cell) u.game p plays))

-- ---- who places

-- a chest in reach opens
pub is_opened : (k : ℕ) (p : Player) (cell target : Cell) (state : ℕ) (u : GameValue) →
    get u.game.players k ≡ Some p →
    Some state ≡ (if is_in_reach u.game p cell then Some (state_in u.game cell) else None) →
    true ≡ is_chest state → by_player k (λ (q : Player). open_chest k q cell) u.game
    ≡ by_player k (λ (q : Player). place_at k q cell (Some target)) u.game
is_opened k p cell target state u plays near is =
    let there = reached (is_in_reach u.game p cell) state (state_in u.game cell) near in
    by_alike k p (λ (q : Player). open_chest k q cell)
    (λ (q : Player). place_at k q cell (Some target)) u.game plays
    (λ i. if not (sym there.0 i) then noting (placing_refused cell target) k u.game
    else if (is ∙ ap is_chest there.1) i then open_chest k p cell u.game
    else put_block k p cell target (held_by u.game p) u.game)

-- and on anything else in reach a block is put
pub is_built_on : (k : ℕ) (p : Player) (cell target : Cell) (state : ℕ) (u : GameValue) →
    get u.game.players k ≡ Some p →
    Some state ≡ (if is_in_reach u.game p cell then Some (state_in u.game cell) else None) →
    false ≡ is_chest state →
    by_player k (λ (q : Player) (g : Game). put_block k q cell target (held_by g q) g) u.game
    ≡ by_player k (λ (q : Player). place_at k q cell (Some target)) u.game
is_built_on k p cell target state u plays near is =
    let there = reached (is_in_reach u.game p cell) state (state_in u.game cell) near in
    by_alike k p (λ (q : Player) (g : Game). put_block k q cell target (held_by g q) g)
    (λ (q : Player). place_at k q cell (Some target)) u.game plays
    (λ i. if not (sym there.0 i) then noting (placing_refused cell target) k u.game
    else if (is ∙ ap is_chest there.1) i then open_chest k p cell u.game
    else put_block k p cell target (held_by u.game p) u.game)
