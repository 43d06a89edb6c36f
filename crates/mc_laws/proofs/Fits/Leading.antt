-- What is due to a client at a tick makes of its replica the one that sees the game as it is.
use Rattle.std.proofs.Common.{◌≡◌, true, false, cond, is_some, [], map, Option, refl}
use lib.IntN.{pos}
use Rattle.mc_slots.specs.Pile.{slot_of}
use Rattle.mc_model.specs.declared.player.Player.{Player}
use Rattle.mc_model.specs.Sight.{Sight, window_seen}
use Rattle.mc_model.specs.Replica.{apply, replay, seeing}
use Rattle.mc_model.specs.Delta.{Follows, IsTold, delta}
use Rattle.mc_model.specs.Opening.{opening_of}
use Rattle.mc_model.specs.Game.{Game, chest_of, pack_of, spot_of}
use Rattle.mc_model.specs.Showing.{due, last_shown, notes_due, opening_due, sight_of}
use Rattle.mc_laws.proofs.Leading.{Leads, no_packets, onward}
use Rattle.mc_laws.proofs.Points.{difference_leads}
use Rattle.mc_laws.proofs.Fits.Noted.{cells_keep}
use Rattle.mc_laws.proofs.Fits.Notes.{confirms_keep, notes_owe}

-- the opening says that there is a sky, and where the player is
opening_keeps : (s : Sight) (g : Game) (p : Player) → replay (seeing s)
    (opening_of g.settings.terrain g.settings.players (pos p.eid) (spot_of g p)) ≡ seeing s
unfolding apply
opening_keeps s g p = refl

-- likewise where it was sent already
opening_due_keeps : (s : Sight) (g : Game) (shown : Option Sight) (p : Player) →
    Leads s (opening_due g shown p) s
opening_due_keeps s g shown p = elim (is_some shown) as (λ b. Leads s (cond b []
    (opening_of g.settings.terrain g.settings.players (pos p.eid) (spot_of g p))) s) [
      | true ↦ no_packets s
      | false ↦ record { is = opening_keeps s g p }
    ]

sight_window : (g : Game) (p : Player) (last : Sight) →
    (sight_of g p last).window ≡ window_seen (pack_of g p) (chest_of g p)
unfolding sight_of
sight_window g p last = refl

sight_pack : (g : Game) (p : Player) (last : Sight) →
    (sight_of g p last).pack ≡ map slot_of (pack_of g p).slots
unfolding sight_of
sight_pack g p last = refl

sight_cursor : (g : Game) (p : Player) (last : Sight) →
    (sight_of g p last).cursor ≡ slot_of (pack_of g p).cursor
unfolding sight_of
sight_cursor g p last = refl

notes_keep : (g : Game) (p : Player) (last : Sight) → IsTold (sight_of g p last) →
    Leads (sight_of g p last) (notes_due g p) (sight_of g p last)
notes_keep g p last told = onward
    (onward (confirms_keep (sight_of g p last) p.notes.confirms)
    (cells_keep g p last told p.notes.cells))
    ((notes_owe p.notes (spot_of g p) (pack_of g p) (chest_of g p)).keeps (sight_of g p last) told
    (sight_window g p last) (sight_pack g p last) (sight_cursor g p last))

pub due_leads : (g : Game) (shown : Option Sight) (p : Player) →
    Follows (last_shown shown) (sight_of g p (last_shown shown)) →
    replay (seeing (last_shown shown)) (due g shown p)
    ≡ seeing (sight_of g p (last_shown shown))
unfolding due
due_leads g shown p follows =
    let last = last_shown shown in
    let difference : Leads last (delta last (sight_of g p last)) (sight_of g p last) =
    record { is = difference_leads last (sight_of g p last) follows } in
    (onward (onward (opening_due_keeps last g shown p) difference)
    (notes_keep g p last follows.new)).is
