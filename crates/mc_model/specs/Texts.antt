-- The texts that a server sends, as JSON with no space in it. The form of the status is that of the
-- page 'Server List Ping' of wiki.vg, that of a text is the page 'Chat'; the words are rules of
-- this project.
use Rattle.std.specs.Prelude.{ℕ, List, Option, Some, None, codes}
use Rattle.serde_json.specs.Data.{Data, string, number, unsigned, object, member, no_members}
use Rattle.serde_json.specs.Written.{compact_text}
use Rattle.mc_model.specs.declared.cause.Refusal.{Refusal}
use Rattle.mc_model.specs.declared.cause.Refusal.TheVariants.{Version, Name, Taken, Full}
use Rattle.mc_model.specs.declared.cause.Cause.{Cause}
use Rattle.mc_model.specs.declared.cause.Cause.TheVariants.{Frame, Packet, BadNumber, Silent}

-- a text to be shown
abbrev pub chat_data : List ℕ → Data
chat_data text = object (member (codes "text") (string text) no_members)

unfoldable pub chat_json : List ℕ → List ℕ
chat_json text = compact_text (chat_data text)

-- how many players may be in play, and how many are
abbrev pub players_data : ℕ → ℕ → Data
players_data most online =
    object (member (codes "max") (number (unsigned most))
    (member (codes "online") (number (unsigned online))
    no_members))

abbrev pub version_data : Data
version_data =
    object (member (codes "name") (string (codes "1.8"))
    (member (codes "protocol") (number (unsigned 47))
    no_members))

abbrev pub status_data : ℕ → ℕ → Data
status_data most online =
    object (member (codes "description") (chat_data (codes "craft47"))
    (member (codes "players") (players_data most online)
    (member (codes "version") version_data
    no_members)))

unfoldable pub status_json : ℕ → ℕ → List ℕ
status_json most online = compact_text (status_data most online)

-- what a client is told that may not play
abbrev pub refusal_text : Refusal → List ℕ
refusal_text Version = codes "This server speaks protocol 47."
refusal_text Name = codes "That name is not allowed."
refusal_text Taken = codes "That name is in play."
refusal_text Full = codes "The server is full."

-- what a client is told whose connection is closed for this cause; for other causes nothing
abbrev pub farewell_text : Cause → Option (List ℕ)
farewell_text (Frame fault) = Some (codes "Bad frame.")
farewell_text (Packet fault) = Some (codes "Bad packet.")
farewell_text BadNumber = Some (codes "Bad number.")
farewell_text Silent = Some (codes "No answer.")
farewell_text other = None
