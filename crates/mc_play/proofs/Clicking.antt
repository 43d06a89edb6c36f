-- What a click comes to, by what the code looks at.
use Rattle.std.proofs.Common.{◌≡◌, ℕ, ◌<◌, Bool, true, false, List, refl, sym, ap, arith, ◌∙◌}
use Rattle.std.proofs.lemmas.Bool.Decides.{nat_tests}
use Rattle.std.specs.Prelude.{◌-◌, min, nat_lt, not, Option, Some, None, Ok, Err}
use Rattle.std.specs.Prelude.{is_some, option_map}
use Rattle.std.specs.Option.{option_and_then}
use Rattle.std.specs.Ordering.{nat_cmp}
use Rattle.std.specs.FinMap.{FinMap, get}
use Rattle.mc_fields.specs.declared.position.Cell.{Cell}
use Rattle.mc_slots.specs.declared.pile.Item.{Item}
use Rattle.mc_slots.specs.declared.pile.Pile.{Pile}
use Rattle.mc_slots.specs.declared.pile.Pile.TheVariants.{Empty, Full}
use Rattle.mc_windows.specs.declared.clicking.Clicked.{Clicked}
use Rattle.mc_windows.specs.declared.request.Click.{Click}
use Rattle.mc_windows.specs.declared.request.Why.TheVariants.{NoRoomToDrop}
use Rattle.mc_windows.specs.Clicks.{admitted, answer_of, desk_of, dropped, is_empty, outcome}
use Rattle.mc_windows.specs.Clicks.{chest_after, pack_after, plan, refuse, worked}
use Rattle.mc_windows.specs.Moves.{run}
use Rattle.mc_windows.specs.Pack.{PackValue}
use Rattle.mc_entities.specs.declared.entity.TheConstants.{DROPPED_MAX, EID_MAX}
use Rattle.mc_model.specs.declared.notes.Notes.{Notes}
use Rattle.mc_model.specs.declared.player.Player.{Player}
use Rattle.mc_model.specs.Things.{in_hand}
use Rattle.mc_model.specs.Game.{Game, chest_at, chest_of, of_player, pack_of, room_in}
use Rattle.mc_model.specs.Deeds.{noting, repack_of}
use Rattle.mc_model.specs.Windows.{answering, let_fall, press, restocking}
use Rattle.mc_model.proofs.Maps.Lookups.{changed_same}
use Rattle.mc_model.proofs.ThingsKept.{dropped_held}
use Rattle.mc_play.specs.Kept.{GameValue, by_player, played}
use Rattle.mc_play.proofs.Dropping.{by_some}
use Rattle.mc_play.proofs.Steps.{then_played}

-- ---- room

-- a click drops nothing without room
drops_by_room : (pack : PackValue) (chest : Option (List Pile)) (click : Click) (room : Bool)
    (item : Item) → dropped (answer_of (outcome pack chest click room)) ≡ Full item → true ≡ room
drops_by_room pack chest click true item is = refl
drops_by_room pack chest click false item is =
    let desk = desk_of pack chest in
    elim (admitted desk click) as
    (λ row. dropped (answer_of (worked desk false row)) ≡ Full item → true ≡ false) [
      | Err why ↦ λ none. nothing none
      | Ok row ↦ elim (run (plan desk row) desk).floor as
          (λ floor. (run (plan desk row) desk).floor ≡ floor →
          dropped (answer_of (refuse (not (is_empty floor)) NoRoomToDrop
          (Ok (run (plan desk row) desk)))) ≡ Full item → true ≡ false) [
            | Empty ↦ λ same fell. nothing (sym same ∙ fell)
            | Full other ↦ λ same none. nothing none
          ] refl
    ] is
  where
    nothing : Empty ≡ Full item → true ≡ false
    nothing none = absurd cc

-- as much may lie where the player of a connection carries another pack
repack_room : (k : ℕ) (pack : PackValue) (g : Game) →
    room_in (by_player k (λ (p : Player). repack_of p pack) g) ≡ room_in g
repack_room k pack g = go (get g.players k)
  where
    go : (o : Option Player) →
        room_in (of_player g (λ (p : Player). repack_of p pack g) o) ≡ room_in g
    go None = refl
    go (Some p) = ap (λ (n : ℕ). min (DROPPED_MAX - n) (EID_MAX - g.eids))
        (dropped_held p.eid (in_hand pack p.hand) g.entities)

pub repacked_room : (k : ℕ) (pack : PackValue) (v mid : GameValue) →
    mid ≡ played v (by_player k (λ (q : Player). repack_of q pack) v.game) v.aside →
    room_in mid.game ≡ room_in v.game
repacked_room k pack v mid carried =
    ap (λ (x : GameValue). room_in x.game) carried ∙ repack_room k pack v.game

-- or where other piles lie in a chest
restocked_room : (shown : Option Cell) (chest : Option (List Pile)) (g : Game) →
    room_in (restocking shown chest g) ≡ room_in g
restocked_room None chest g = refl
restocked_room (Some cell) None g = refl
restocked_room (Some cell) (Some piles) g = refl

-- ---- one after another

-- the same play where other piles lie in a chest
restocked_players : (shown : Option Cell) (chest : Option (List Pile)) (g : Game) →
    (restocking shown chest g).players ≡ g.players
restocked_players None chest g = refl
restocked_players (Some cell) None g = refl
restocked_players (Some cell) (Some piles) g = refl

-- what is noted and put into a chest first changes neither what is carried nor what falls
noted_first : (k : ℕ) (p : Player) (f : Notes → Notes) (pack : PackValue) (shown : Option Cell)
    (chest : Option (List Pile)) (pile : Pile) (g : Game) → get g.players k ≡ Some p →
    by_player k (λ (q : Player) (h : Game). let_fall q pile (repack_of q pack h))
    (restocking shown chest (noting f k g))
    ≡ noting f k (let_fall p pile (restocking shown chest (repack_of p pack g)))
noted_first k p f pack shown chest pile g plays =
    by_some k (λ (q : Player) (h : Game). let_fall q pile (repack_of q pack h))
    (restocking shown chest (noting f k g)) (record p { notes = f p.notes })
    (ap (λ (m : FinMap nat_cmp Player). get m k)
    (restocked_players shown chest (noting f k g))
    ∙ changed_same g.players k (λ (q : Player). record q { notes = f q.notes })
    ∙ ap (option_map (λ (q : Player). record q { notes = f q.notes })) plays)
    ∙ fallen shown chest pile
  where
    fallen : (at : Option Cell) (piles : Option (List Pile)) (fell : Pile) →
        let_fall (record p { notes = f p.notes }) fell
        (repack_of (record p { notes = f p.notes }) pack (restocking at piles (noting f k g)))
        ≡ noting f k (let_fall p fell (restocking at piles (repack_of p pack g)))
    fallen None piles Empty = refl
    fallen None piles (Full item) = refl
    fallen (Some cell) None Empty = refl
    fallen (Some cell) None (Full item) = refl
    fallen (Some cell) (Some piles) Empty = refl
    fallen (Some cell) (Some piles) (Full item) = refl

-- a click, step by step
pub presses : (k : ℕ) (p : Player) (click : Click) (before pack : PackValue)
    (lay lies : Option (List Pile)) (room : Bool) (came : Clicked) (pile : Pile)
    (u w noted stocked n : GameValue) → get u.game.players k ≡ Some p →
    before ≡ pack_of u.game p → lay ≡ chest_of u.game p → room ≡ nat_lt 0 (room_in u.game) →
    pack ≡ pack_after before click.number (outcome before lay click room) →
    lies ≡ chest_after lay (outcome before lay click room) →
    came ≡ answer_of (outcome before lay click room) → pile ≡ dropped came →
    w ≡ played u u.game w.aside →
    noted ≡ played w (noting (answering click came) k w.game) w.aside →
    stocked ≡ played noted (restocking p.chest lies noted.game) noted.aside →
    n ≡ played stocked (by_player k (λ (q : Player) (g : Game).
    let_fall q pile (repack_of q pack g)) stocked.game) n.aside →
    n ≡ played u (by_player k (λ (q : Player). press k q click) u.game) n.aside
presses k p click before pack lay lies room came pile u w noted stocked n plays carried shown may
    packed put answered fell same told stocked_is made =
    let done : outcome before lay click room
    ≡ outcome (pack_of u.game p) (chest_of u.game p) click (nat_lt 0 (room_in u.game)) =
    (λ i. outcome (carried i) (shown i) click (may i)) in
    let answer = answered ∙ ap answer_of done in
    let drop = fell ∙ ap dropped answer in
    let after = packed ∙ (λ i. pack_after (carried i) click.number (done i)) in
    let left_ = put ∙ (λ i. chest_after (shown i) (done i)) in
    then_played u (by_player k (λ (q : Player) (g : Game). let_fall q pile (repack_of q pack g)))
    (then_played u (restocking p.chest lies)
    (then_played u (noting (answering click came) k) same told) stocked_is) made
    ∙ ap (λ (g : Game). played u g n.aside)
    (noted_first k p (answering click came) pack p.chest lies pile u.game plays
    ∙ (λ i. noting (answering click (answer i)) k (let_fall p (drop i)
    (restocking p.chest (left_ i) (repack_of p (after i) u.game))))
    ∙ sym (by_some k (λ (q : Player). press k q click) u.game p plays))

-- so there is room then for what it drops
pub press_room : (k : ℕ) (f : Notes → Notes) (click : Click) (pack : PackValue)
    (shown : Option Cell) (lay lies : Option (List Pile)) (room : Bool) (came : Clicked)
    (item : Item) (u w noted stocked : GameValue) → room ≡ nat_lt 0 (room_in u.game) →
    came ≡ answer_of (outcome pack lay click room) → dropped came ≡ Full item →
    w ≡ played u u.game w.aside → noted ≡ played w (noting f k w.game) w.aside →
    stocked ≡ played noted (restocking shown lies noted.game) noted.aside →
    0 < room_in stocked.game
press_room k f click pack shown lay lies room came item u w noted stocked may answered full same
    told stocked_is =
    let some : true ≡ room =
    drops_by_room pack lay click room item (ap dropped (sym answered) ∙ full) in
    let is : room_in stocked.game ≡ room_in u.game =
    ap (λ (v : GameValue). room_in v.game) stocked_is
    ∙ restocked_room shown lies noted.game
    ∙ ap (λ (v : GameValue). room_in v.game) told
    ∙ ap (λ (v : GameValue). room_in v.game) same in
    grind (arith, nat_tests, is, some, may)

-- and the chest that is shown is still there
pub press_there : (k : ℕ) (p : Player) (f : Notes → Notes) (lay lies : Option (List Pile))
    (u w noted : GameValue) → lay ≡ chest_of u.game p → is_some lies ≡ is_some lay →
    w ≡ played u u.game w.aside → noted ≡ played w (noting f k w.game) w.aside →
    is_some lies ≡ is_some (option_and_then (chest_at noted.game) p.chest)
press_there k p f lay lies u w noted shown there same told =
    there ∙ ap is_some shown
    ∙ sym (ap (λ (v : GameValue). is_some (chest_of v.game p)) told
    ∙ ap (λ (v : GameValue). is_some (chest_of v.game p)) same)
