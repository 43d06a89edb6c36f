-- What one line of a bot's script says. Rules of this project: the words of a line are parted by one
-- space each, and a number has no zeros and no `+` before it, and `-` where it is negative.
use Rattle.std.specs.Prelude.{ℕ, nat_lt, nat_le, ◌==◌, ◌&&◌, Bool, List, [], ◌∷◌, length, take, drop}
use Rattle.std.specs.Prelude.{Option, Some, None, Result, Ok, Err, codes, if◌then◌else◌}
use Rattle.std.specs.Option.{option_map}
use Rattle.std.specs.Str.{bytes_eq, is_utf8, chars}
use lib.IntN.{ℤ, pos, neg_ℤ}
use Rattle.mc_fields.specs.declared.position.Cell.{Cell}
use Rattle.mc_text.specs.Words.{number_of, words_of}
use Rattle.mc_bot.specs.declared.act.Act.{Act}
use Rattle.mc_bot.specs.declared.act.Act.TheVariants as acts
use Rattle.mc_bot.specs.declared.act.Said.{Said}
use Rattle.mc_bot.specs.declared.act.Said.TheVariants.{Join, Does}
use Rattle.mc_bot.specs.declared.script.ScriptKind.{ScriptKind}
use Rattle.mc_bot.specs.declared.script.ScriptKind.TheVariants.{Word, Number}

-- ---- numbers

abbrev pub negative : ℕ → ℤ
negative n = neg_ℤ (pos n)

-- a whole number of at most `most`, and of at most `below` below zero
unfoldable pub whole_of : ℕ → ℕ → List ℕ → Option ℤ
whole_of below most [] = None
whole_of below most (b ∷ digits) =
    if b == 45 then option_map negative (number_of 1 below digits)
    else option_map pos (number_of 0 most (b ∷ digits))

-- numbers as 8, 16 and 32 bits hold them
abbrev pub byte_of : List ℕ → Option ℤ
byte_of word = whole_of 128 127 word

abbrev pub short_of : List ℕ → Option ℤ
short_of word = whole_of 32768 32767 word

abbrev pub int_of : List ℕ → Option ℤ
int_of word = whole_of 2147483648 2147483647 word

-- a yaw or a pitch, in 256ths of a turn
abbrev pub turn_of : List ℕ → Option ℕ
turn_of word = number_of 0 255 word

-- the state of a cell
abbrev pub state_of : List ℕ → Option ℕ
state_of word = number_of 0 65535 word

-- a cell whose place a packet can carry
abbrev pub cell_at : Option ℤ → Option ℤ → Option ℤ → Option Cell
cell_at (Some x) (Some y) (Some z) = Some (record { x = x; y = y; z = z })
cell_at x y z = None

abbrev pub cell_of : List ℕ → List ℕ → List ℕ → Option Cell
cell_of x y z =
    cell_at (whole_of 33554432 33554431 x) (whole_of 2048 2047 y) (whole_of 33554432 33554431 z)

-- ---- texts

-- a text of 1 to so many code points
abbrev pub is_text_to : ℕ → List ℕ → Bool
is_text_to most text =
    is_utf8 text && (nat_lt 0 (length (chars text)) && nat_le (length (chars text)) most)

-- ---- lines: what is done with one number, two or three, where each is one

abbrev pub by_one : {A : Type 0} → Option A → (A → Act) → Option Act
by_one (Some a) act = Some (act a)
by_one None act = None

abbrev pub by_two : {A B : Type 0} → Option A → Option B → (A → B → Act) → Option Act
by_two (Some a) (Some b) act = Some (act a b)
by_two a b act = None

abbrev pub by_three : {A B C : Type 0} → Option A → Option B → Option C → (A → B → C → Act) →
    Option Act
by_three (Some a) (Some b) (Some c) act = Some (act a b c)
by_three a b c act = None

abbrev pub numbered : Option Act → Result Said ScriptKind
numbered (Some act) = Ok (Does act)
numbered None = Err Number

-- a text of 1 to so many code points
abbrev pub text_said : ℕ → List ℕ → Result (List ℕ) ScriptKind
text_said most text = if is_text_to most text then Ok text else Err Word

-- what is said with a text
abbrev pub said_with : Result (List ℕ) ScriptKind → (List ℕ → Said) → Result Said ScriptKind
said_with (Ok text) said = Ok (said text)
said_with (Err kind) said = Err kind

-- `join NAME`, the name of 1 to 16 code points
abbrev pub join_said : List ℕ → Result Said ScriptKind
join_said name = said_with (text_said 16 name) Join

-- `say TEXT`, the text of 1 to 100 code points
abbrev pub say_said : List ℕ → Result Said ScriptKind
say_said text = said_with (text_said 100 text) (λ t. Does (acts.Say t))

-- `drop`, `dropall`, `close`, `leave`
abbrev pub one_word : List ℕ → Result Said ScriptKind
one_word verb =
    if bytes_eq verb (codes "drop") then Ok (Does acts.Drop)
    else if bytes_eq verb (codes "dropall") then Ok (Does acts.DropAll)
    else if bytes_eq verb (codes "close") then Ok (Does acts.Close)
    else if bytes_eq verb (codes "leave") then Ok (Does acts.Leave)
    else Err Word

-- `join NAME`, `view N`, `held N`, `wait N`
abbrev pub two_words : List ℕ → List ℕ → Result Said ScriptKind
two_words verb a =
    if bytes_eq verb (codes "join") then join_said a
    else if bytes_eq verb (codes "view") then numbered (by_one (byte_of a) acts.View)
    else if bytes_eq verb (codes "held") then numbered (by_one (short_of a) acts.Held)
    else if bytes_eq verb (codes "wait") then numbered (by_one (number_of 1 1000000000 a) acts.Wait)
    else Err Word

-- `look YAW PITCH`
abbrev pub three_words : List ℕ → List ℕ → List ℕ → Result Said ScriptKind
three_words verb a b =
    if bytes_eq verb (codes "look") then numbered (by_two (turn_of a) (turn_of b) acts.Look)
    else Err Word

-- `move X Y Z`, `click SLOT BUTTON MODE`
abbrev pub four_words : List ℕ → List ℕ → List ℕ → List ℕ → Result Said ScriptKind
four_words verb a b c =
    if bytes_eq verb (codes "move") then
    numbered (by_three (int_of a) (int_of b) (int_of c) acts.Move)
    else if bytes_eq verb (codes "click") then
    numbered (by_three (short_of a) (byte_of b) (byte_of c) acts.Click)
    else Err Word

-- `dig X Y Z FACE`, `place X Y Z FACE`, `until X Y Z STATE`, `expect X Y Z STATE`
abbrev pub five_words : List ℕ → Option Cell → List ℕ → Result Said ScriptKind
five_words verb cell n =
    if bytes_eq verb (codes "dig") then numbered (by_two cell (byte_of n) acts.Dig)
    else if bytes_eq verb (codes "place") then numbered (by_two cell (byte_of n) acts.Place)
    else if bytes_eq verb (codes "until") then numbered (by_two cell (state_of n) acts.Until)
    else if bytes_eq verb (codes "expect") then numbered (by_two cell (state_of n) acts.Expect)
    else Err Word

-- what the words of a line say
abbrev pub words_said : List (List ℕ) → Result Said ScriptKind
words_said (verb ∷ []) = one_word verb
words_said (verb ∷ a ∷ []) = two_words verb a
words_said (verb ∷ a ∷ b ∷ []) = three_words verb a b
words_said (verb ∷ a ∷ b ∷ c ∷ []) = four_words verb a b c
words_said (verb ∷ a ∷ b ∷ c ∷ d ∷ []) = five_words verb (cell_of a b c) d
words_said other = Err Word

-- whether a line says a text, which is all of its rest
abbrev pub is_saying : List ℕ → Bool
is_saying line = bytes_eq (take 4 line) (codes "say ")

-- what a line says
unfoldable pub line_said : List ℕ → Result Said ScriptKind
line_said line =
    if is_utf8 line then (if is_saying line then say_said (drop 4 line)
    else words_said (words_of line))
    else Err Word
