-- The packets that a bot sends for a line of its script, and those that it answers by itself. Rules
-- of this project.
use Rattle.std.specs.Prelude.{ℕ, ◌^◌, ◌==◌, ◌&&◌, nat_lt, List, [], ◌∷◌, ◌++◌, length}
use Rattle.std.specs.Prelude.{Option, Some, None, Bool, true, false, codes, if◌then◌else◌}
use Rattle.std.specs.Prelude.{int_lt, ◌+ℤ◌}
use Rattle.std.specs.List.{fold}
use lib.IntN.{ℤ, pos, negsuc}
use Rattle.mc_bytes.specs.Naturals.{is_natural}
use Rattle.mc_fields.specs.declared.position.Cell.{Cell}
use Rattle.mc_fields.specs.Position.{FitsCell}
use Rattle.mc_fields.specs.Text.{FitsText}
use Rattle.mc_model.specs.Numbers.{pattern_of, degrees_of}
use Rattle.mc_packets.specs.declared.down.Down.{Down}
use Rattle.mc_packets.specs.declared.down.Down.TheVariants as downs
use Rattle.mc_replica.specs.Asking.{frame_of}
use Rattle.mc_slots.specs.declared.slot.Slot.{Slot}
use Rattle.mc_slots.specs.declared.slot.Slot.TheVariants.{Empty, Full}
use Rattle.mc_up.specs.declared.play_up.PlayUp.{PlayUp}
use Rattle.mc_up.specs.declared.play_up.PlayUp.TheVariants as ups
use Rattle.mc_up.specs.PlayUp.{spelling_of}
use Rattle.mc_bot.specs.declared.act.Act.{Act}
use Rattle.mc_bot.specs.declared.act.Act.TheVariants as acts
use Rattle.mc_bot.specs.declared.clicking.Click.{Click}

-- ---- clicks

-- they are numbered from 1, and after 32767 comes 1
abbrev pub click_after : ℤ → ℤ
click_after n = if int_lt n (pos 32767) then n +ℤ pos 1 else pos 1

abbrev pub click_with : Click → Slot → PlayUp
click_with c item = ups.ClickWindow c.window c.slot c.button c.number c.mode item

-- an item of a negative id has no bytes of its own
abbrev pub has_id : Slot → Bool
has_id Empty = true
has_id (Full stack) = is_natural stack.id

-- whether a click of an item can be sent: a frame has room for it
abbrev pub is_sent : Click → Slot → Bool
is_sent c item = has_id item && nat_lt (length (spelling_of (click_with c item))) (2 ^ 21)

-- the click of a slot that holds an item, which is told where that can be sent
unfoldable pub click_on : Click → Slot → PlayUp
click_on c item = click_with c (if is_sent c item then item else Empty)

-- of a slot that the window lacks nothing is told, nor outside the window
abbrev pub click_of : Click → Option Slot → PlayUp
click_of c None = click_with c Empty
click_of c (Some item) = click_on c item

abbrev pub is_outside : ℤ → Bool
is_outside (pos i) = false
is_outside (negsuc i) = i == 998

abbrev pub click_packet : (ℤ → Option Slot) → Click → PlayUp
click_packet slot_at c =
    if is_outside c.slot then click_with c Empty else click_of c (slot_at c.slot)

-- ---- the packets of a line, with what shows the slots of a window and that window's number, and
-- the number of the next click; those that wait, compare or leave have none

abbrev pub nowhere : Cell
nowhere = record { x = pos 0; y = pos 0; z = pos 0 }

abbrev pub packets_of : (ℤ → Option Slot) → ℕ → ℤ → Act → List PlayUp
packets_of slot_at window n (acts.View view) =
    ups.Settings (codes "en_US") view (pos 0) true 127 ∷ []
packets_of slot_at window n (acts.Move x y z) =
    ups.Position (pattern_of x) (pattern_of y) (pattern_of z) true ∷ []
packets_of slot_at window n (acts.Look yaw pitch) =
    ups.Look (degrees_of yaw) (degrees_of pitch) true ∷ []
packets_of slot_at window n (acts.Dig place face) =
    ups.Digging (pos 0) place face ∷ ups.Digging (pos 2) place face ∷ []
packets_of slot_at window n (acts.Place place face) =
    ups.Placement place face Empty (pos 8) (pos 8) (pos 8) ∷ []
packets_of slot_at window n (acts.Held slot) = ups.Held slot ∷ []
packets_of slot_at window n acts.Drop = ups.Digging (pos 4) nowhere (pos 0) ∷ []
packets_of slot_at window n acts.DropAll = ups.Digging (pos 3) nowhere (pos 0) ∷ []
packets_of slot_at window n (acts.Say text) = ups.Chat text ∷ []
packets_of slot_at window n acts.Close = ups.CloseWindow window ∷ []
packets_of slot_at window n (acts.Click slot button mode) = click_packet slot_at (record {
  window = window;
  slot = slot;
  button = button;
  number = n;
  mode = mode;
}) ∷ []
packets_of slot_at window n other = []

-- what a line says is in the range of its packets, as that of a script is
abbrev pub IsInRange : Act → Type 0
IsInRange (acts.Dig place face) = FitsCell place
IsInRange (acts.Place place face) = FitsCell place
IsInRange (acts.Say text) = FitsText 100 text
IsInRange other = Unit {0}

-- ---- asking

-- what follows the server, and the bytes that are to be sent
pub record Asked (S : Type 0) : Type 0 where
  pub seen : S
  pub bytes : List ℕ

-- a packet is asked for, of what says the state after it and the bytes that are sent for it
abbrev pub ask_one : {S : Type 0} → (S → PlayUp → S) → (S → PlayUp → List ℕ) → Asked S → PlayUp →
    Asked S
ask_one after bytes now packet = record {
  seen = after now.seen packet;
  bytes = now.bytes ++ bytes now.seen packet;
}

-- some are, in order
abbrev pub ask_all : {S : Type 0} → (S → PlayUp → S) → (S → PlayUp → List ℕ) → Asked S →
    List PlayUp → Asked S
ask_all after bytes now packets = fold (ask_one after bytes) now packets

-- ---- what a bot answers by itself, as it is

abbrev pub reply_to : Down → Option PlayUp
reply_to (downs.KeepAlive number) = Some (ups.KeepAlive number)
reply_to (downs.Confirm window number false) = Some (ups.Confirm window number true)
reply_to (downs.PositionLook x y z yaw pitch flags) =
    Some (ups.PositionLook x y z yaw pitch true)
reply_to other = None

abbrev pub bytes_of : Option PlayUp → List ℕ
bytes_of None = []
bytes_of (Some packet) = frame_of packet
