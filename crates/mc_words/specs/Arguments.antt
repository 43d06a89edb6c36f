-- The arguments of the command line: a command, and then its options, each NAME=VALUE and each at
-- most once, in any order. Rules of this project.
use Rattle.std.specs.Prelude.{ℕ, ◌^◌, ◌-◌, ◌≤◌, ◌==◌, ◌&&◌, not, Bool, true, false, List, [], ◌∷◌}
use Rattle.std.specs.Prelude.{take, drop, map, string_bytes, Option, Some, None, is_some, option_map}
use Rattle.std.specs.Prelude.{codes, if◌then◌else◌}
use Rattle.std.specs.List.{before_first, after_first, list_any}
use Rattle.std.specs.Str.{bytes_eq}
use Rattle.std.specs.declared.string.String.{String}
use Rattle.mc_wire.specs.declared.answers.Pace.{Pace}
use Rattle.mc_wire.specs.declared.answers.Pace.TheVariants.{Clock, Turns}
use Rattle.mc_land.specs.declared.terrain.Terrain.{Terrain}
use Rattle.mc_land.specs.declared.terrain.Terrain.TheVariants.{Flat, Hills, Isle}
use Rattle.mc_model.specs.Game.{AreSettings}
use Rattle.mc_words.specs.declared.arguments.WorldOptions.{WorldOptions}
use Rattle.mc_words.specs.declared.arguments.ServeOptions.{ServeOptions}
use Rattle.mc_words.specs.declared.arguments.BotOptions.{BotOptions}
use Rattle.mc_words.specs.declared.arguments.LoadOptions.{LoadOptions}
use Rattle.mc_words.specs.declared.arguments.Command.{Command}
use Rattle.mc_words.specs.declared.arguments.Command.TheVariants.{Status, Replay, Serve, Bot}
use Rattle.mc_words.specs.declared.arguments.Command.TheVariants.{View, Show, Load}
use Rattle.mc_text.specs.Digits.{digits_number, within}

-- ---- options

-- an argument is a name and a value, parted by the first `=`; without one its value is empty
abbrev pub is_equals : ℕ → Bool
is_equals b = b == 61

unfoldable pub name_of : List ℕ → List ℕ
name_of argument = before_first is_equals argument

unfoldable pub value_of : List ℕ → List ℕ
value_of argument = after_first is_equals argument

-- the value of a name among some arguments
abbrev pub value_in : List ℕ → List (List ℕ) → Option (List ℕ)
value_in name [] = None
value_in name (argument ∷ arguments) =
    if bytes_eq (name_of argument) name then Some (value_of argument) else value_in name arguments

-- the name of each argument is one of these, and no later argument has it
abbrev pub are_options : List (List ℕ) → List (List ℕ) → Bool
are_options names [] = true
are_options names (argument ∷ arguments) = list_any (bytes_eq (name_of argument)) names
    && not (is_some (value_in (name_of argument) arguments)) && are_options names arguments

-- ---- the values: what stands, or the default where there is one

abbrev pub number_in : ℕ → ℕ → Option (List ℕ) → Option ℕ
number_in low high None = None
number_in low high (Some value) = within low high (digits_number 10 value)

abbrev pub number_or : ℕ → ℕ → ℕ → Option (List ℕ) → Option ℕ
number_or default low high None = Some default
number_or default low high (Some value) = within low high (digits_number 10 value)

abbrev pub hills_of : Option ℕ → Option Terrain
hills_of None = None
hills_of (Some seed) = Some (Hills seed)

-- `flat`, `isle`, or `hills:SEED`
unfoldable pub terrain_of : List ℕ → Option Terrain
terrain_of value =
    if bytes_eq value (codes "flat") then Some Flat
    else if bytes_eq value (codes "isle") then Some Isle
    else if bytes_eq (take 6 value) (codes "hills:") then
    hills_of (within 0 (2 ^ 64 - 1) (digits_number 20 (drop 6 value)))
    else None

abbrev pub terrain_or : Terrain → Option (List ℕ) → Option Terrain
terrain_or default None = Some default
terrain_or default (Some value) = terrain_of value

-- the most players
unfoldable pub players_in : List (List ℕ) → Option ℕ
players_in arguments = number_or 20 1 50 (value_in (codes "players") arguments)

-- how many columns a client sees to each side
unfoldable pub view_in : List (List ℕ) → Option ℕ
view_in arguments = number_or 6 2 8 (value_in (codes "view") arguments)

unfoldable pub land_in : List (List ℕ) → Option Terrain
land_in arguments = terrain_or Flat (value_in (codes "land") arguments)

-- how many mobs there are at most
unfoldable pub mobs_in : List (List ℕ) → Option ℕ
mobs_in arguments = number_or 0 0 64 (value_in (codes "mobs") arguments)

abbrev pub world_with : Option ℕ → Option ℕ → Option Terrain → Option ℕ → Option WorldOptions
world_with (Some players) (Some view) (Some terrain) (Some mobs) =
    Some (record { players = players; view = view; terrain = terrain; mobs = mobs })
world_with players view terrain mobs = None

-- the world as it begins
abbrev pub world_in : List (List ℕ) → Option WorldOptions
world_in arguments =
    world_with (players_in arguments) (view_in arguments) (land_in arguments) (mobs_in arguments)

-- the port to listen on, or to connect to
unfoldable pub port_in : List (List ℕ) → Option ℕ
port_in arguments = number_in 1 65535 (value_in (codes "port") arguments)

-- after how many ticks serving ends well
unfoldable pub tick_limit_in : List (List ℕ) → Option ℕ
tick_limit_in arguments = number_in 1 1000000000 (value_in (codes "ticks") arguments)

-- after how many events it ends in any case
unfoldable pub event_limit_in : List (List ℕ) → Option ℕ
event_limit_in arguments =
    number_or 4000000000 1 4000000000 (value_in (codes "events") arguments)

-- `clock` or `turns`
abbrev pub pace_of : List ℕ → Option Pace
pace_of value =
    if bytes_eq value (codes "clock") then Some Clock
    else if bytes_eq value (codes "turns") then Some Turns
    else None

abbrev pub pace_or : Pace → Option (List ℕ) → Option Pace
pace_or default None = Some default
pace_or default (Some value) = pace_of value

-- what ticks come by
unfoldable pub pace_in : List (List ℕ) → Option Pace
pace_in arguments = pace_or Clock (value_in (codes "pace") arguments)

-- `yes` or `no`
abbrev pub answer_of : List ℕ → Option Bool
answer_of value =
    if bytes_eq value (codes "yes") then Some true
    else if bytes_eq value (codes "no") then Some false
    else None

abbrev pub answer_or : Bool → Option (List ℕ) → Option Bool
answer_or default None = Some default
answer_or default (Some value) = answer_of value

-- whether a capture of all that happens is written
unfoldable pub capture_in : List (List ℕ) → Option Bool
capture_in arguments = answer_or false (value_in (codes "capture") arguments)

-- after how many quiet reads in turn a bot waits no longer
unfoldable pub patience_in : List (List ℕ) → Option ℕ
patience_in arguments = number_or 20000000 1 1000000000 (value_in (codes "patience") arguments)

-- the client of a capture
unfoldable pub client_in : List (List ℕ) → Option ℕ
client_in arguments = number_in 0 4294967295 (value_in (codes "client") arguments)

-- how many clients and ticks a load has
unfoldable pub clients_in : List (List ℕ) → Option ℕ
clients_in arguments = number_in 1 50 (value_in (codes "n") arguments)

unfoldable pub short_tick_limit_in : List (List ℕ) → Option ℕ
short_tick_limit_in arguments = number_in 1 10000 (value_in (codes "ticks") arguments)

-- ---- commands

abbrev pub status_with : Option ℕ → Option Command
status_with None = None
status_with (Some players) = Some (Status players)

abbrev pub status_of : List (List ℕ) → Option Command
status_of arguments =
    if are_options (codes "players" ∷ []) arguments
    then status_with (players_in arguments)
    else None

abbrev pub replay_of : List (List ℕ) → Option Command
replay_of arguments =
    if are_options (codes "players" ∷ codes "view" ∷ codes "land" ∷ codes "mobs" ∷ []) arguments
    then option_map Replay (world_in arguments)
    else None

abbrev pub serve_with : Option WorldOptions → Option ℕ → Option ℕ → Option ℕ → Option Pace →
    Option Bool → Option Command
serve_with (Some world) (Some port) (Some ticks) (Some events) (Some pace) (Some capture) =
    Some (Serve (record {
      world = world;
      port = port;
      ticks = ticks;
      events = events;
      pace = pace;
      capture = capture;
    }))
serve_with world port ticks events pace capture = None

abbrev pub serve_names : List (List ℕ)
serve_names = codes "port" ∷ codes "ticks" ∷ codes "players" ∷ codes "view" ∷ codes "land"
    ∷ codes "mobs" ∷ codes "events" ∷ codes "pace" ∷ codes "capture" ∷ []

abbrev pub serve_of : List (List ℕ) → Option Command
serve_of arguments =
    if are_options serve_names arguments
    then serve_with (world_in arguments) (port_in arguments) (tick_limit_in arguments)
    (event_limit_in arguments) (pace_in arguments) (capture_in arguments)
    else None

abbrev pub bot_with : Option ℕ → Option ℕ → Option Command
bot_with (Some port) (Some patience) = Some (Bot (record { port = port; patience = patience }))
bot_with port patience = None

abbrev pub bot_of : List (List ℕ) → Option Command
bot_of arguments =
    if are_options (codes "port" ∷ codes "patience" ∷ []) arguments
    then bot_with (port_in arguments) (patience_in arguments)
    else None

abbrev pub view_of : List (List ℕ) → Option Command
view_of [] = Some View
view_of (argument ∷ arguments) = None

abbrev pub show_of : List (List ℕ) → Option Command
show_of arguments =
    if are_options (codes "client" ∷ []) arguments
    then option_map Show (client_in arguments)
    else None

abbrev pub load_with : Option ℕ → Option ℕ → Option Command
load_with (Some clients) (Some ticks) = Some (Load (record { clients = clients; ticks = ticks }))
load_with clients ticks = None

abbrev pub load_of : List (List ℕ) → Option Command
load_of arguments =
    if are_options (codes "n" ∷ codes "ticks" ∷ []) arguments
    then load_with (clients_in arguments) (short_tick_limit_in arguments)
    else None

-- a command by its name
unfoldable pub named : List ℕ → List (List ℕ) → Option Command
named name arguments =
    if bytes_eq name (codes "status") then status_of arguments
    else if bytes_eq name (codes "replay") then replay_of arguments
    else if bytes_eq name (codes "serve") then serve_of arguments
    else if bytes_eq name (codes "bot") then bot_of arguments
    else if bytes_eq name (codes "view") then view_of arguments
    else if bytes_eq name (codes "show") then show_of arguments
    else if bytes_eq name (codes "load") then load_of arguments
    else None

-- what the arguments say, or none where they are not in the grammar
abbrev pub command_of : List (List ℕ) → Option Command
command_of [] = None
command_of (name ∷ arguments) = named name arguments

-- the bytes of each argument
abbrev pub bytes_of : {Z : Type 0} → List (String Z) → List (List ℕ)
bytes_of arguments = map string_bytes arguments

-- a world can begin with these options, and be served on this port for so many ticks and events
pub record CanServe (options : ServeOptions) : Type 0 where
  pub world : AreSettings options.world.players options.world.view
  pub port : 1 ≤ options.port
  pub ticks : (1 ≤ options.ticks) × (options.ticks ≤ 1000000000)
  pub events : 1 ≤ options.events

-- there are so many clients and ticks
pub record CanLoad (options : LoadOptions) : Type 0 where
  pub clients : (1 ≤ options.clients) × (options.clients ≤ 50)
  pub ticks : (1 ≤ options.ticks) × (options.ticks ≤ 10000)

-- a command can begin with its options
abbrev pub IsSet : Command → Type 0
IsSet (Status most) = AreSettings most 2
IsSet (Replay options) = AreSettings options.players options.view
IsSet (Serve options) = CanServe options
IsSet (Bot options) = Unit {0}
IsSet View = Unit {0}
IsSet (Show client) = Unit {0}
IsSet (Load options) = CanLoad options
