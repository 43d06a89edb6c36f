-- What the list of players says of each, of the page 'Protocol', packet 'Player List Item', of
-- wiki.vg for protocol 47.
use Rattle.std.specs.Prelude.{◌≡◌, ℕ, ◌||◌, Bool, true, false, List, [], Option, None, nat_lt, refl}
use lib.IntN.{ℤ, pos, negsuc}
use Rattle.mc_bytes.specs.Reading.{Field}
use Rattle.mc_bytes.specs.Format.{Format, IsFound, IsOnly, Anything}
use Rattle.mc_bytes.specs.Combine.{◌then◌, IsView, via, none}
use Rattle.mc_bytes.specs.Optional.{when}
use Rattle.mc_bytes.specs.Variant.{choose, variant}
use Rattle.mc_fields.specs.VarintFormat.{var_int}
use Rattle.mc_fields.specs.Integers.{uuid, boolean}
use Rattle.mc_fields.specs.Counted.{counted}
use Rattle.mc_fields.specs.Row.{is_id}
use Rattle.mc_packets.specs.declared.player.Property.{Property}
use Rattle.mc_packets.specs.declared.player.PlayerChange.{PlayerChange}
use Rattle.mc_packets.specs.declared.player.PlayerChange.TheVariants.{Join, Number, Shown, Leave}
use Rattle.mc_packets.specs.declared.player.Player.{Player}
use Rattle.mc_fields.specs.TextFormat.{string}
use Rattle.mc_packets.specs.Fields.{chat_text}

-- ---- a property: its name, its value, and where it is signed the signature

abbrev pub PropertyParts : Type 0
PropertyParts = List ℕ × (List ℕ × (Bool × Option (List ℕ)))

abbrev pub property_of : PropertyParts → Property
property_of (name, (value, (is_signed, signature))) = record {
  name = name;
  value = value;
  is_signed = is_signed;
  signature = signature;
}

abbrev pub property_back : Property → PropertyParts
property_back p = (p.name, (p.value, (p.is_signed, p.signature)))

pub property_view : (fits : PropertyParts → Type 0) →
    IsView fits (λ p. Unit {0}) property_of property_back
property_view fits = record { made = λ a f. tt; again = λ a f. refl; same = λ p f. refl }

abbrev pub property_parts : Format Anything PropertyParts
property_parts = string then λ _. string then λ _. boolean then λ is_signed. when is_signed string

abbrev pub property : Format Anything Property
property = via property_parts (λ p. Unit {0}) property_of property_back
    (property_view property_parts.fits)

-- ---- what changes of a player, by the action

-- 0: the player joins
abbrev pub JoinParts : Type 0
JoinParts = List ℕ × (List Property × (ℤ × (ℤ × (Bool × Option (List ℕ)))))

abbrev pub join_of : JoinParts → PlayerChange
join_of (name, (properties, (mode, (ping, (is_shown, shown))))) =
    Join name properties mode ping is_shown shown

abbrev pub join_back : PlayerChange → JoinParts
join_back (Join name properties mode ping is_shown shown) =
    (name, (properties, (mode, (ping, (is_shown, shown)))))
join_back other = ([], ([], (pos 0, (pos 0, (false, None)))))

abbrev pub join_parts : Format Anything JoinParts
join_parts = string then λ _. counted property then λ _. var_int then λ _. var_int then
    λ _. boolean then λ is_shown. when is_shown chat_text

abbrev pub joining : Format Anything PlayerChange
joining = variant join_parts join_of join_back (λ parts. refl)

-- 1 and 2: its game mode, its ping
abbrev pub number_back : PlayerChange → ℤ
number_back (Number n) = n
number_back other = pos 0

abbrev pub numbered : Format Anything PlayerChange
numbered = variant var_int Number number_back (λ n. refl)

-- 3: the name that is shown
abbrev pub shown_of : Bool × Option (List ℕ) → PlayerChange
shown_of (is_shown, shown) = Shown is_shown shown

abbrev pub shown_back : PlayerChange → Bool × Option (List ℕ)
shown_back (Shown is_shown shown) = (is_shown, shown)
shown_back other = (false, None)

abbrev pub shown_parts : Format Anything (Bool × Option (List ℕ))
shown_parts = boolean then λ is_shown. when is_shown chat_text

abbrev pub showing : Format Anything PlayerChange
showing = variant shown_parts shown_of shown_back (λ parts. refl)

-- 4: the player leaves
abbrev pub leaving : Format Anything PlayerChange
leaving = variant none (λ nothing. Leave) (λ other. tt) (λ nothing. refl)

abbrev pub is_action : ℤ → Bool
is_action (pos n) = nat_lt n 5
is_action (negsuc n) = false

abbrev pub change : ℤ → Format Anything PlayerChange
change action =
    choose (is_id action 0) joining (
    choose (is_id action 1 || is_id action 2) numbered (
    choose (is_id action 3) showing
    leaving))

-- ---- a player

pub player_view : (fits : ℕ × PlayerChange → Type 0) →
    IsView {B = Player} fits (λ p. Unit {0}) (λ (who, what). record { uuid = who; change = what })
    (λ p. (p.uuid, p.change))
player_view fits = record { made = λ a f. tt; again = λ a f. refl; same = λ p f. refl }

abbrev pub player_parts : ℤ → Format Anything (ℕ × PlayerChange)
player_parts action = uuid then λ _. change action

abbrev pub player_wire : ℤ → Format Anything Player
player_wire action = via (player_parts action) (λ p. Unit {0}) (λ (who, what). record {
  uuid = who;
  change = what;
}) (λ p. (p.uuid, p.change)) (player_view (player_parts action).fits)

unfoldable pub player_read : ℤ → List ℕ → Field Player
player_read action = (player_wire action).read

pub player_found : (action : ℤ) → IsFound (player_wire action).spells (player_read action)
unfolding player_read
player_found action = (player_wire action).found

pub player_only : (action : ℤ) → IsOnly Anything (player_wire action).spells (player_read action)
unfolding player_read
player_only action = (player_wire action).only

-- a player of the list, as the action has it
abbrev pub player : ℤ → Format Anything Player
player action = record {
  spells = (player_wire action).spells;
  read = player_read action;
  fits = (player_wire action).fits;
  spelling = (player_wire action).spelling;
  append = (player_wire action).append;
  most = (player_wire action).most;
  found = player_found action;
  only = player_only action;
  fit = (player_wire action).fit;
  spelled = (player_wire action).spelled;
  appended = (player_wire action).appended;
  bounded = (player_wire action).bounded;
}

-- ---- what is written of a change is known without the action

abbrev pub own_fits : PlayerChange → Type 0
own_fits (Join name properties mode ping is_shown shown) =
    join_parts.fits (name, (properties, (mode, (ping, (is_shown, shown)))))
own_fits (Number n) = (var_int {Rest = Anything}).fits n
own_fits (Shown is_shown shown) = shown_parts.fits (is_shown, shown)
own_fits Leave = Unit {0}

abbrev pub own_append : PlayerChange → List ℕ → List ℕ
own_append (Join name properties mode ping is_shown shown) out =
    join_parts.append (name, (properties, (mode, (ping, (is_shown, shown))))) out
own_append (Number n) out = (var_int {Rest = Anything}).append n out
own_append (Shown is_shown shown) out = shown_parts.append (is_shown, shown) out
own_append Leave out = out

abbrev pub IsOwn : Format Anything PlayerChange → Type 0
IsOwn f = (what : PlayerChange) → f.fits what → own_fits what × ((out : List ℕ) →
    f.append what out ≡ own_append what out)

own_joining : IsOwn joining
own_joining (Join name properties mode ping is_shown shown) fits = (fits.1, λ out. refl)
own_joining (Number n) fits = absurd cc
own_joining (Shown is_shown shown) fits = absurd cc
own_joining Leave fits = absurd cc

own_numbered : IsOwn numbered
own_numbered (Join name properties mode ping is_shown shown) fits = absurd cc
own_numbered (Number n) fits = (fits.1, λ out. refl)
own_numbered (Shown is_shown shown) fits = absurd cc
own_numbered Leave fits = absurd cc

own_showing : IsOwn showing
own_showing (Join name properties mode ping is_shown shown) fits = absurd cc
own_showing (Number n) fits = absurd cc
own_showing (Shown is_shown shown) fits = (fits.1, λ out. refl)
own_showing Leave fits = absurd cc

own_leaving : IsOwn leaving
own_leaving (Join name properties mode ping is_shown shown) fits = absurd cc
own_leaving (Number n) fits = absurd cc
own_leaving (Shown is_shown shown) fits = absurd cc
own_leaving Leave fits = (tt, λ out. refl)

own_choice : (b : Bool) (f g : Format Anything PlayerChange) → IsOwn f → IsOwn g →
    IsOwn (choose b f g)
own_choice true f g first second = first
own_choice false f g first second = second

pub own_change : (action : ℤ) → IsOwn (change action)
own_change action =
    own_choice (is_id action 0) joining _ own_joining (
    own_choice (is_id action 1 || is_id action 2) numbered _ own_numbered (
    own_choice (is_id action 3) showing leaving own_showing own_leaving))
