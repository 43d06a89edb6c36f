-- What an event makes of the world, and what it hands out to whom. Rules of this project.
use Rattle.std.specs.Prelude.{ℕ, ◌+◌, ◌-◌, ◌==◌, ◌&&◌, ◌||◌, not, nat_lt, nat_le, Bool, true, false}
use Rattle.std.specs.Prelude.{List, [], ◌∷◌, ◌++◌, length, drop, Option, Some, None, if◌then◌else◌}
use Rattle.std.specs.List.{filter, list_any}
use Rattle.std.specs.FinMap.{get, insert, len, remove, values}
use lib.IntN.{ℤ, pos, negsuc}
use Rattle.mc_frame.specs.declared.fault.FrameFault.{FrameFault}
use Rattle.mc_frame.specs.Cut.{Cut}
use Rattle.mc_up.specs.declared.play_up.PlayUp.{PlayUp}
use Rattle.mc_up.specs.declared.play_up.PlayUp.TheVariants.{KeepAlive}
use Rattle.mc_entities.specs.declared.entity.TheConstants.{EID_MAX}
use Rattle.mc_model.specs.declared.cause.Cause.{Cause}
use Rattle.mc_model.specs.declared.cause.Cause.TheVariants as causes
use Rattle.mc_model.specs.declared.cause.Refusal.{Refusal}
use Rattle.mc_model.specs.declared.cause.Refusal.TheVariants as refusals
use Rattle.mc_model.specs.declared.stage.Stage.TheVariants as stages
use Rattle.mc_model.specs.declared.player.Player.{Player}
use Rattle.mc_model.specs.Names.{is_name, offline_uuid}
use Rattle.mc_model.specs.Cutting.{cut_of}
use Rattle.mc_model.specs.Stages.{is_closed}
use Rattle.mc_model.specs.Packets.{of_status}
use Rattle.mc_model.specs.Talk.{ClientRequest, nothing, greets, replies, ends, enters, acts, wrong}
use Rattle.mc_model.specs.Talk.{request_of, farewell, refused, accepted}
use Rattle.mc_model.specs.Game.{Game, is_known, players_of}
use Rattle.mc_model.specs.Deeds.{enter_as}
use Rattle.mc_model.specs.Leaving.{left_by}
use Rattle.mc_model.specs.Acts.{act}
use Rattle.mc_model.specs.Link.{Handing, Link, disconnect, gone, hand, is_done, is_kept}
use Rattle.mc_model.specs.Link.{mark_closed, new_link, quiet}
use Rattle.mc_model.specs.World.{Outcome, Seat, Turn, World, on_seat, silent}
use Rattle.mc_model.specs.Tick.{tick}

-- ---- events

pub data Event : Type 0 where
  -- a connection joined, sent bytes, left
  joined : ℕ → Event
  came : ℕ → List ℕ → Event
  left : ℕ → Event
  -- a write to a connection broke
  broke : ℕ → Event
  -- a tick came
  ticked : Event
  -- a connection took so many bytes of what it was owed; it was closed and owed nothing, and goes
  took : ℕ → ℕ → Event
  forgot : ℕ → Event

-- ---- turns of one connection

abbrev pub still : Seat → Turn
still s = record { seat = s; handed = [] }

-- it is handed something, of which it may be closed: its player leaves then
abbrev pub turn : ℕ → Seat → Handing → Turn
turn k s h = record {
  seat = record s { game = left_by k h.link.stage s.game; link = h.link };
  handed = h.handed;
}

-- one thing after another
abbrev pub after : Turn → (Seat → Turn) → Turn
after t later = record { seat = (later t.seat).seat; handed = t.handed ++ (later t.seat).handed }

-- what is done where it is not closed
abbrev pub when_open : Seat → (Seat → Turn) → Turn
when_open s f = if is_closed s.link.stage then still s else f s

-- closing it, with the farewell of its stage
abbrev pub disconnect_for : ℕ → Seat → Cause → Turn
disconnect_for k s cause = turn k s (disconnect s.link cause (farewell s.link.stage cause))

-- ---- logging in

abbrev pub is_47 : ℤ → Bool
is_47 (pos n) = n == 47
is_47 (negsuc n) = false

-- the first of these tests that fails
abbrev pub refusal : Game → ℤ → List ℕ → Option Refusal
refusal g protocol name =
    if not (is_47 protocol) then Some refusals.Version
    else if not (is_name name) then Some refusals.Name
    else if list_any (λ (p : Player). p.uuid == offline_uuid name) (players_of g)
    then Some refusals.Taken
    else if not (nat_lt (len g.players) g.settings.players && (nat_lt g.eids EID_MAX
    && (is_known g name || nat_lt (len g.packs) 65536)))
    then Some refusals.Full
    else None

-- the player enters
abbrev pub entered : ℕ → Seat → List ℕ → Seat
entered k s name = record s {
  game = enter_as k name s.game;
  link = record s.link { stage = stages.Play };
}

abbrev pub answer_login : ℕ → Seat → List ℕ → Option Refusal → Turn
answer_login k s name (Some why) =
    turn k s (disconnect s.link (causes.Refused why) (refused why))
answer_login k s name None =
    turn k (entered k s name) (hand (entered k s name).link (accepted (offline_uuid name) name))

-- ---- the bytes of a client

-- an answer to any beat is one to all
abbrev pub heard : PlayUp → Link → Link
heard (KeepAlive beat) l = record l { missed = 0 }
heard other l = l

abbrev pub acted : ℕ → Seat → PlayUp → Option Game → Turn
acted k s packet (Some g) = still (record s { game = g; link = heard packet s.link })
acted k s packet None = disconnect_for k s causes.BadNumber

-- what a frame comes to, done
abbrev pub perform : ℕ → Seat → ClientRequest → Turn
perform k s nothing = still s
perform k s (greets protocol stage) =
    still (record s { link = record s.link { stage = stage; protocol = protocol } })
perform k s (replies packet) = turn k s (hand s.link (of_status packet ∷ []))
perform k s (ends packet) = turn k s (disconnect s.link causes.Done (of_status packet ∷ []))
perform k s (enters name) = answer_login k s name (refusal s.game s.link.protocol name)
perform k s (acts packet) = acted k s packet (act s.game k packet)
perform k s (wrong fault) = disconnect_for k s (causes.Packet fault)

-- what a frame comes to, by the stage and by how many are in play
abbrev pub asked_by : Seat → List ℕ → ClientRequest
asked_by s frame = request_of s.link.stage s.game.settings.players (len s.game.players) frame

unfoldable pub on_frame : ℕ → Seat → List ℕ → Turn
on_frame k s frame = when_open s (λ (s : Seat). perform k s (asked_by s frame))

-- frames, one after another
abbrev pub on_frames : ℕ → Seat → List (List ℕ) → Turn
on_frames k s [] = still s
on_frames k s (frame ∷ frames) =
    after (on_frame k s frame) (λ (t : Seat). on_frames k t frames)

-- a length that no frame has, behind them
abbrev pub on_fault : ℕ → Seat → Option FrameFault → Turn
on_fault k s None = still s
on_fault k s (Some fault) =
    when_open s (λ (s : Seat). disconnect_for k s (causes.Frame fault))

-- the bytes that came, behind those that were not read, as the cut of them has it
abbrev pub read_to : Seat → Cut → ℕ → Seat
read_to s cut count = record s {
  unread = record { rest = cut.rest; before = s.unread.before + (count - length cut.rest) };
}

abbrev pub on_cut : ℕ → Seat → ℕ → Cut → Turn
on_cut k s count cut =
    after (on_frames k (read_to s cut count) cut.frames)
    (λ (t : Seat). on_fault k t cut.fault)

unfoldable pub on_bytes : ℕ → Seat → List ℕ → Turn
on_bytes k s bytes =
    when_open s (λ (s : Seat). on_cut k s (length (s.unread.rest ++ bytes))
    (cut_of s.unread.before (s.unread.rest ++ bytes)))

-- ---- leaving and taking

-- it left, or a write to it broke: it goes if it is open, and its player leaves
abbrev pub depart : ℕ → Cause → Seat → Turn
depart k cause s = turn k s (quiet (gone cause s.link))

-- it took so many bytes of what it is owed
abbrev pub take_from : ℕ → Seat → Turn
take_from n s = still (record s { link = record s.link { owed = drop n s.link.owed } })

-- ---- joining and forgetting

-- a number that is above all earlier ones
abbrev pub is_new : ℕ → Option ℕ → Bool
is_new k None = true
is_new k (Some last) = nat_lt last k

abbrev pub is_crowded : World → Bool
is_crowded w = nat_le (w.game.settings.players + 16) (length (filter is_kept (values w.links)))

abbrev pub joining : World → Link
joining w = if is_crowded w then mark_closed new_link causes.Crowded else new_link

abbrev pub join : World → ℕ → World
join w k =
    if is_new k w.last then record w { last = Some k; links = insert w.links k (joining w) } else w

-- a connection that is closed and owed nothing goes
abbrev pub forget : World → ℕ → Option Link → World
forget w k None = w
forget w k (Some l) =
    if is_done l
    then record w {
      links = remove w.links k;
      unread = remove w.unread k;
      shown = remove w.shown k;
    } else w

-- ---- what an event makes of the world

unfoldable pub step : World → Event → Outcome
step w (joined k) = silent (join w k)
step w (came k bytes) = on_seat w k (λ (s : Seat). on_bytes k s bytes)
step w (left k) = on_seat w k (depart k causes.Gone)
step w (broke k) = on_seat w k (depart k causes.Broke)
step w ticked = tick w
step w (took k n) = on_seat w k (take_from n)
step w (forgot k) = silent (forget w k (get w.links k))
