-- The names of the packets by the state that their way has come to and by their ids, of the page
-- 'Protocol' of wiki.vg for protocol 47. A packet that is kept as its bytes is `Raw`; an id that
-- none has, has no name.
use Rattle.std.specs.Prelude.{ℕ, List, [], ◌∷◌, codes, get_or}
use Rattle.mc_capture.specs.declared.states.Way.{Way}
use Rattle.mc_capture.specs.declared.states.Way.TheVariants.{Up, Down}
use Rattle.mc_capture.specs.declared.states.State.{State}
use Rattle.mc_capture.specs.declared.states.State.TheVariants as states

-- from the id 0 on
abbrev pub play_up_names : List (List ℕ)
play_up_names =
    codes "KeepAlive" ∷ codes "Chat" ∷ codes "UseEntity" ∷ codes "Player" ∷ codes "Position" ∷
    codes "Look" ∷ codes "PositionLook" ∷ codes "Digging" ∷ codes "Placement" ∷ codes "Held" ∷
    codes "Animation" ∷ codes "EntityAction" ∷ codes "Steer" ∷ codes "CloseWindow" ∷
    codes "ClickWindow" ∷ codes "Confirm" ∷ codes "Creative" ∷ codes "Enchant" ∷ codes "Sign" ∷
    codes "Abilities" ∷ codes "TabComplete" ∷ codes "Settings" ∷ codes "ClientStatus" ∷
    codes "Plugin" ∷ codes "Spectate" ∷ codes "ResourcePack" ∷ []

abbrev pub play_down_names : List (List ℕ)
play_down_names =
    codes "KeepAlive" ∷ codes "JoinGame" ∷ codes "Chat" ∷ codes "Time" ∷ codes "Equipment" ∷
    codes "SpawnPosition" ∷ codes "Health" ∷ codes "Respawn" ∷ codes "PositionLook" ∷
    codes "Held" ∷ codes "Raw" ∷ codes "Animation" ∷ codes "SpawnPlayer" ∷ codes "Collect" ∷
    codes "SpawnObject" ∷ codes "SpawnMob" ∷ codes "Raw" ∷ codes "Raw" ∷ codes "Velocity" ∷
    codes "Destroy" ∷ codes "Entity" ∷ codes "Step" ∷ codes "Look" ∷ codes "StepLook" ∷
    codes "Teleport" ∷ codes "HeadLook" ∷ codes "Status" ∷ codes "Attach" ∷ codes "Meta" ∷
    codes "Raw" ∷ codes "Raw" ∷ codes "Experience" ∷ codes "Raw" ∷ codes "Chunk" ∷
    codes "MultiChange" ∷ codes "Change" ∷ codes "Raw" ∷ codes "Raw" ∷ codes "Raw" ∷ codes "Raw" ∷
    codes "Raw" ∷ codes "Raw" ∷ codes "Raw" ∷ codes "GameState" ∷ codes "Raw" ∷
    codes "OpenWindow" ∷ codes "CloseWindow" ∷ codes "SetSlot" ∷ codes "WindowItems" ∷
    codes "WindowProperty" ∷ codes "Confirm" ∷ codes "Raw" ∷ codes "Raw" ∷ codes "Raw" ∷
    codes "SignEditor" ∷ codes "Raw" ∷ codes "List" ∷ codes "Abilities" ∷ codes "TabComplete" ∷
    codes "Raw" ∷ codes "Raw" ∷ codes "Raw" ∷ codes "Raw" ∷ codes "Plugin" ∷ codes "Disconnect" ∷
    codes "Difficulty" ∷ codes "Raw" ∷ codes "Raw" ∷ codes "Raw" ∷ codes "Raw" ∷ [] ∷ codes "Raw" ∷
    codes "Raw" ∷ codes "Raw" ∷ []

unfoldable pub names_of : Way → State → List (List ℕ)
names_of Up states.Hand = codes "Handshake" ∷ []
names_of Up states.Status = codes "Request" ∷ codes "Ping" ∷ []
names_of Up states.Login = codes "Start" ∷ []
names_of Up states.Play = play_up_names
names_of Down states.Hand = []
names_of Down states.Status = codes "Response" ∷ codes "Pong" ∷ []
names_of Down states.Login = codes "Disconnect" ∷ [] ∷ codes "Success" ∷ []
names_of Down states.Play = play_down_names

abbrev pub name_of : Way → State → ℕ → List ℕ
name_of way state id = get_or (names_of way state) id []
