-- The devices of a run, as its promises see them: before it, and after it. Rules of this project.
use Rattle.std.specs.Prelude.{◌≡◌, ℕ, ◌⊎◌, List, ◌++◌, take, Option}
use Rattle.mc_wire.specs.Count.{Rose}
use Rattle.mc_wire.specs.LinkCounts.{LinkCounts}
use Rattle.mc_wire.specs.LinkStage.{LinkStage}
use Rattle.mc_wire.specs.LinkTold.{LinkTold}
use Rattle.mc_wire.specs.LobbyCounts.{LobbyCounts}
use Rattle.mc_wire.specs.LobbyTold.{LobbyTold}
use Rattle.mc_wire.specs.Stream.{Grows}

-- a link to a server: what it tells, where it does, where it stands, and how many of its calls
-- failed and were quiet
pub record LinkDevice : Type 0 where
  pub told : Option LinkTold
  pub stage : LinkStage
  pub counts : LinkCounts

abbrev pub link_device : Option LinkTold → LinkStage → LinkCounts → LinkDevice
link_device told stage counts = record { told = told; stage = stage; counts = counts }

pub record Devices : Type 0 where
  -- what the lobby tells, where it does
  pub told : Option LobbyTold
  -- how many of its calls failed, stalled and broke
  pub counts : LobbyCounts
  pub link : LinkDevice
  -- what is left of the input, where the source tells it
  pub left : Option (List ℕ)
  -- how many reads failed
  pub read_faults : ℕ
  -- what was written, where the sink tells it
  pub held : Option (List ℕ)
  -- how many writes failed
  pub write_faults : ℕ

abbrev pub devices : Option LobbyTold → LobbyCounts → LinkDevice → Option (List ℕ) → ℕ →
    Option (List ℕ) → ℕ → Devices
devices told counts link left read_faults held write_faults = record {
  told = told;
  counts = counts;
  link = link;
  left = left;
  read_faults = read_faults;
  held = held;
  write_faults = write_faults;
}

-- of these, what a command uses that reads a text and writes another
pub record Streams : Type 0 where
  pub left : Option (List ℕ)
  pub read_faults : ℕ
  pub held : Option (List ℕ)
  pub write_faults : ℕ

abbrev pub streams : Option (List ℕ) → ℕ → Option (List ℕ) → ℕ → Streams
streams left read_faults held write_faults = record {
  left = left;
  read_faults = read_faults;
  held = held;
  write_faults = write_faults;
}

abbrev pub streams_of : Devices → Streams
streams_of all = streams all.left all.read_faults all.held all.write_faults

-- the lobby was not touched
abbrev pub LobbyStays : Devices → Devices → Type 0
LobbyStays before after = (after.told ≡ before.told) × (after.counts ≡ before.counts)

-- the link was not touched
abbrev pub LinkStays : Devices → Devices → Type 0
LinkStays before after = after.link ≡ before.link

-- the input was not read
abbrev pub InputStays : Devices → Devices → Type 0
InputStays before after =
    (after.left ≡ before.left) × (after.read_faults ≡ before.read_faults)

-- a last line, with its end, was written, or some first part of it where the sink failed
abbrev pub WroteLast : Option (List ℕ) → Option (List ℕ) → ℕ → ℕ → List ℕ → Type 0
WroteLast held held' faults faults' line =
    Grows held held' line ⊎ (Rose faults faults' × (len : ℕ) × Grows held held' (take len line))

-- a last line was written so behind a text
abbrev pub WroteTextThenLast : Option (List ℕ) → Option (List ℕ) → ℕ → ℕ → List ℕ → List ℕ → Type 0
WroteTextThenLast held held' faults faults' text line =
    Grows held held' (text ++ line)
    ⊎ (Rose faults faults' × (len : ℕ) × Grows held held' (text ++ take len line))
