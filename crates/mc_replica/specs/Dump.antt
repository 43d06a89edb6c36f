-- A client's world as text, a line each: what it was told last, who is in play, how much each column
-- holds, what is seen of entities, the slots that are full, and what was said. Rules of this
-- project.
use Rattle.std.specs.Prelude.{ℕ, ◌+◌, List, [], ◌∷◌, ◌++◌, map, codes, decimal, Option, Some, None}
use Rattle.std.specs.Fmt.{signed_decimal}
use Rattle.std.specs.FinMap.{entries}
use Rattle.std.specs.List.{flat_map}
use lib.IntN.{ℤ}
use Rattle.mc_fields.specs.declared.position.Spot.{Spot}
use Rattle.mc_slots.specs.declared.slot.Slot.{Slot}
use Rattle.mc_slots.specs.declared.slot.Slot.TheVariants as slots
use Rattle.mc_slots.specs.declared.slot.Stack.{Stack}
use Rattle.mc_column.specs.Cells.{ColumnValue}
use Rattle.mc_column.specs.Kept.{blocks_in}
use Rattle.mc_land.specs.Places.{Place}
use Rattle.mc_model.specs.declared.seen.SeenKind.{SeenKind}
use Rattle.mc_model.specs.declared.seen.SeenKind.TheVariants as seen_kinds
use Rattle.mc_model.specs.Names.{uuid_text}
use Rattle.mc_model.specs.Replica.{Replica}
use Rattle.mc_model.specs.Sight.{ChestWindow, Seen, Sight}
use Rattle.mc_text.specs.Lines.{ended_line}

-- ---- words

abbrev pub blank : List ℕ
blank = codes " "

-- a number that was told, if one was
abbrev pub told_number : Option ℤ → List ℕ
told_number None = codes "none"
told_number (Some n) = signed_decimal n

-- what is in a stack, how many and how worn, each behind a blank
abbrev pub stack_words : Stack → List ℕ
stack_words stack =
    blank ++ signed_decimal stack.id ++ blank ++ signed_decimal stack.count ++ blank
    ++ signed_decimal stack.damage

-- nothing where there is no stack
abbrev pub pile_words : Slot → List ℕ
pile_words slots.Empty = []
pile_words (slots.Full stack) = stack_words stack

abbrev pub kind_word : SeenKind → List ℕ
kind_word (seen_kinds.Player uuid) = codes "player"
kind_word seen_kinds.Dropped = codes "item"
kind_word seen_kinds.Mob = codes "mob"

-- the place in 1/32 blocks, and the look in 1/256 turns
abbrev pub place_words : Spot → List ℕ
place_words spot =
    signed_decimal spot.x ++ blank ++ signed_decimal spot.y ++ blank ++ signed_decimal spot.z

abbrev pub spot_words : Spot → List ℕ
spot_words spot =
    place_words spot ++ blank ++ decimal spot.yaw ++ blank ++ decimal spot.pitch

-- ---- lines, without their ends

abbrev pub age_line : Option ℤ → List ℕ
age_line age = codes "age " ++ told_number age

abbrev pub beat_line : Option ℤ → List ℕ
beat_line beat = codes "beat " ++ told_number beat

-- a player of the list, by its identifier
abbrev pub player_line : ℕ × List ℕ → List ℕ
player_line player = codes "player " ++ uuid_text player.0 ++ blank ++ player.1

-- a column, with how many of its cells are not air
abbrev pub column_line : Place × ColumnValue → List ℕ
column_line column =
    codes "column " ++ signed_decimal column.0.0 ++ blank ++ signed_decimal column.0.1 ++ blank
    ++ decimal (blocks_in column.1.states)

-- an entity, and what it holds or is
abbrev pub entity_line : ℤ × Seen → List ℕ
entity_line entity =
    codes "entity " ++ signed_decimal entity.0 ++ blank ++ kind_word entity.1.kind ++ blank
    ++ spot_words entity.1.spot ++ blank ++ decimal entity.1.head ++ pile_words entity.1.pile

-- the number of a slot, counted in its chest or its pack from 0, where it is full
abbrev pub slot_line : List ℕ → ℕ → Slot → List (List ℕ)
slot_line name i slots.Empty = []
slot_line name i (slots.Full stack) = (name ++ blank ++ decimal i ++ stack_words stack) ∷ []

-- those of some slots, of which the first has this number
abbrev pub slot_lines : List ℕ → ℕ → List Slot → List (List ℕ)
slot_lines name i [] = []
slot_lines name i (slot ∷ more) = slot_line name i slot ++ slot_lines name (i + 1) more

-- the window that is shown, and what is known to lie in its chest
abbrev pub shown_lines : Option ChestWindow → List (List ℕ)
shown_lines None = []
shown_lines (Some window) =
    (codes "window " ++ decimal window.number) ∷ slot_lines (codes "chest") 0 window.slots

abbrev pub cursor_line : Slot → List (List ℕ)
cursor_line slots.Empty = []
cursor_line (slots.Full stack) = (codes "cursor" ++ stack_words stack) ∷ []

abbrev pub chat_line : List ℕ → List ℕ
chat_line text = codes "chat " ++ text

-- ---- all of them

abbrev pub times_lines : Option ℤ → Option ℤ → List (List ℕ)
times_lines age beat = age_line age ∷ beat_line beat ∷ []

abbrev pub window_lines : Option ChestWindow → List Slot → Slot → List (List ℕ)
window_lines window pack cursor =
    shown_lines window ++ slot_lines (codes "pack") 0 pack ++ cursor_line cursor

-- Players by rising identifier, columns by rising place and entities by rising number; what was
-- said in order.
abbrev pub sight_lines : Sight → List (List ℕ)
sight_lines sight =
    times_lines sight.age sight.beat
    ++ (map player_line (entries sight.pairs)
    ++ (map column_line (entries sight.columns)
    ++ (map entity_line (entries sight.entities)
    ++ (window_lines sight.window sight.pack sight.cursor
    ++ map chat_line sight.chat))))

-- each with its end
abbrev pub text_of : List (List ℕ) → List ℕ
text_of lines = flat_map ended_line lines

unfoldable pub dump_text : Replica → List ℕ
dump_text replica = text_of (sight_lines replica.sight)
