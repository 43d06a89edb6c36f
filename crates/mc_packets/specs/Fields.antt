-- Parts of the packets to a client, of the pages 'Protocol' and 'Data types' of wiki.vg for
-- protocol 47.
use Rattle.std.specs.Prelude.{ℕ, Bool, false, List, codes, nat_lt, refl}
use Rattle.std.specs.Str.{bytes_eq}
use lib.IntN.{ℤ, pos, negsuc}
use Rattle.mc_bytes.specs.Format.{Format, Anything}
use Rattle.mc_bytes.specs.Combine.{◌then◌, IsView, via}
use Rattle.mc_fields.specs.Flat.{tuple3}
use Rattle.mc_fields.specs.VarintFormat.{var_int}
use Rattle.mc_fields.specs.TextFormat.{string}
use Rattle.mc_fields.specs.Integers.{ubyte, short}
use Rattle.mc_packets.specs.declared.record.Record.{Record}
use Rattle.mc_packets.specs.declared.record.Speed.{Speed}

-- 1/256 turns
abbrev pub angle : {Rest : List ℕ → Type 0} → Format Rest ℕ
angle {Rest} = ubyte {Rest = Rest}

-- a text that is JSON
abbrev pub chat_text : {Rest : List ℕ → Type 0} → Format Rest (List ℕ)
chat_text {Rest} = string {Rest = Rest}

-- ---- the speed of a spawned object: it is there where the number before it is above 0 (a rule of
-- this project)

abbrev pub is_positive : ℤ → Bool
is_positive (pos n) = nat_lt 0 n
is_positive (negsuc n) = false

pub speed_view : (fits : ℤ × (ℤ × ℤ) → Type 0) → IsView {B = Speed} fits (λ speed. Unit {0})
    (λ (x, (y, z)). record { x = x; y = y; z = z }) (λ speed. (speed.x, (speed.y, speed.z)))
speed_view fits = record { made = λ a f. tt; again = λ a f. refl; same = λ s f. refl }

abbrev pub speed_parts : {Rest : List ℕ → Type 0} → Format Rest (ℤ × (ℤ × ℤ))
speed_parts {Rest} = short then λ _. short then λ _. short {Rest = Rest}

abbrev pub speed : {Rest : List ℕ → Type 0} → Format Rest Speed
speed {Rest} = via (speed_parts {Rest = Rest}) (λ speed. Unit {0}) (λ (x, (y, z)). record {
  x = x;
  y = y;
  z = z;
}) (λ speed. (speed.x, (speed.y, speed.z)))
    (speed_view (speed_parts {Rest = Rest}).fits)

-- ---- a cell of a column that changes

pub record_view : (fits : ℕ × ℕ × ℤ → Type 0) →
    IsView {B = Record} fits (λ r. Unit {0}) (λ (place, y, state). record {
      place = place;
      y = y;
      state = state;
    }) (λ r. (r.place, r.y, r.state))
record_view fits = record { made = λ a f. tt; again = λ a f. refl; same = λ r f. refl }

abbrev pub change_parts : Format Anything (ℕ × ℕ × ℤ)
change_parts = tuple3 ubyte ubyte var_int

abbrev pub cell_change : Format Anything Record
cell_change = via change_parts (λ r. Unit {0}) (λ (place, y, state). record {
  place = place;
  y = y;
  state = state;
}) (λ r. (r.place, r.y, r.state)) (record_view change_parts.fits)

-- ---- the kind of window that names an entity

abbrev pub is_horse : List ℕ → Bool
is_horse kind = bytes_eq kind (codes "EntityHorse")
