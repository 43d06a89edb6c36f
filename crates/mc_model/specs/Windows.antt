-- What a player does in its window and in that of a chest: clicks, confirmations, opening and
-- closing. Rules of this project; what a click does to piles is of the page 'Protocol' of wiki.vg
-- for protocol 47, Click Window.
use Rattle.std.specs.Prelude.{ℕ, ◌==◌, ◌&&◌, Bool, true, false, nat_lt, List, Option, Some, None}
use Rattle.std.specs.Prelude.{is_some, if◌then◌else◌}
use Rattle.std.specs.List.{filter, fold}
use Rattle.std.specs.Ordering.{int_eq}
use Rattle.std.specs.FinMap.{get}
use lib.IntN.{ℤ, pos}
use Rattle.mc_fields.specs.declared.position.Cell.{Cell}
use Rattle.mc_fields.specs.declared.position.Spot.{Spot}
use Rattle.mc_slots.specs.declared.pile.Pile.{Pile}
use Rattle.mc_slots.specs.declared.pile.Pile.TheVariants.{Empty, Full}
use Rattle.mc_windows.specs.declared.request.Click.{Click}
use Rattle.mc_windows.specs.declared.clicking.Clicked.{Clicked}
use Rattle.mc_windows.specs.declared.clicking.Clicked.TheVariants.{Done, Refused}
use Rattle.mc_windows.specs.Pack.{PackValue, answered_pack, begun_pack, finished_pack}
use Rattle.mc_windows.specs.Clicks.{answer_of, chest_after, dropped, outcome, pack_after}
use Rattle.mc_model.specs.declared.notes.Notes.{Notes}
use Rattle.mc_model.specs.declared.player.Player.{Player}
use Rattle.mc_model.specs.Notes.{again, with_answer}
use Rattle.mc_model.specs.Game.{Game, chest_of, of_player, pack_of, room_in, spot_of}
use Rattle.mc_model.specs.Deeds.{noting, repack_of, restocked, thrown, watching}
use Rattle.mc_model.specs.Pickups.{pickers}

-- ---- what falls

-- where what a player drops lies: where it is, and turned to nothing
abbrev pub feet_of : Player → Game → Spot
feet_of p g = record (spot_of g p) { yaw = 0; pitch = 0 }

-- what comes out of a window lies where its player is; nothing comes of nothing
abbrev pub let_fall : Player → Pile → Game → Game
let_fall p Empty g = g
let_fall p (Full item) g = thrown item (feet_of p g) g

-- ---- clicks

abbrev pub is_accepted : Clicked → Bool
is_accepted (Done pile) = true
is_accepted (Refused why) = false

-- the window is sent again where a click was refused, and after each one by a number key
abbrev pub is_sent_again : Click → Clicked → Bool
is_sent_again click (Done pile) = int_eq click.mode (pos 2)
is_sent_again click (Refused why) = true

-- a click is answered, by the byte of its window and its number
abbrev pub answering : Click → Clicked → Notes → Notes
answering click came notes =
    let answered = with_answer (record {
      window = click.window;
      number = click.number;
      accepted = is_accepted came;
    }) notes in
    if is_sent_again click came then again answered else answered

-- a chest has other piles after it, if one is shown
abbrev pub restocking : Option Cell → Option (List Pile) → Game → Game
restocking (Some cell) (Some piles) g = restocked cell piles g
restocking cell piles g = g

-- a click in the window that is shown, that of a chest or the own; what it drops falls
abbrev pub press : ℕ → Player → Click → Game → Game
press k p click g =
    let came = outcome (pack_of g p) (chest_of g p) click (nat_lt 0 (room_in g)) in
    noting (answering click (answer_of came)) k
    (let_fall p (dropped (answer_of came))
    (restocking p.chest (chest_after (chest_of g p) came)
    (repack_of p (pack_after (pack_of g p) click.number came) g)))

-- ---- confirmations

-- the number of a refused click ends the wait for it, in the window that is told by a signed byte
abbrev pub confirm : Player → ℕ → ℤ → Game → Game
confirm p window number g = repack_of p (answered_pack window number (pack_of g p)) g

-- ---- closing

-- no chest's window is shown any more, and what hung on the cursor hangs there still
abbrev pub kept_in_hand : PackValue → PackValue
kept_in_hand pack = record (finished_pack pack) { cursor = pack.cursor }

-- No chest is shown any more. What hangs on the cursor falls; without room for it, it stays there,
-- and the window is sent again.
abbrev pub shut : ℕ → Player → Game → Game
shut k p g = watching None k
    (if nat_lt 0 (room_in g)
    then let_fall p (pack_of g p).cursor (repack_of p (finished_pack (pack_of g p)) g)
    else noting again k (repack_of p (kept_in_hand (pack_of g p)) g))

-- of another window nothing is closed
abbrev pub close : ℕ → Player → ℕ → Game → Game
close k p window g = if window == (pack_of g p).window then shut k p g else g

-- those of the players of several connections, one after another
abbrev pub shut_all : List ℕ → Game → Game
shut_all ks g =
    fold (λ (h : Game) (k : ℕ). of_player h (λ p. shut k p h) (get h.players k)) g ks

-- ---- opening

-- the next window is shown, that of a chest; what hangs on the cursor stays there
abbrev pub opened : ℕ → Player → Cell → Game → Game
opened k p cell g = watching (Some cell) k (repack_of p (begun_pack (pack_of g p)) g)

-- the window of a chest that is shown is closed first
abbrev pub open_chest : ℕ → Player → Cell → Game → Game
open_chest k p cell g = opened k p cell (if is_some p.chest then shut k p g else g)

-- ---- who is shown a chest

abbrev pub is_cell : Cell → Cell → Bool
is_cell a b = int_eq a.x b.x && (int_eq a.y b.y && int_eq a.z b.z)

abbrev pub is_of : Cell → Option Cell → Bool
is_of cell None = false
is_of cell (Some other) = is_cell cell other

abbrev pub views : Cell → Option Player → Bool
views cell None = false
views cell (Some p) = is_of cell p.chest

-- the connections of those that are shown the chest at a cell, in rising number of their entities
abbrev pub viewers : Cell → Game → List ℕ
viewers cell g = filter (λ (k : ℕ). views cell (get g.players k)) (pickers g)
