-- What contracts see of the links in memory.
use Rattle.std.specs.Prelude.{◌≡◌, ℕ, Option, Some, None, List, ◌++◌}
use Rattle.mc_wire.specs.declared.link_trouble.LinkTrouble.{LinkTrouble}
use Rattle.mc_wire.specs.LinkTold.{LinkTold}
use Rattle.mc_wire.specs.LinkCounts.{LinkCounts}
use Rattle.mc_wire.specs.LinkStage.{LinkStage}

-- the record of the ports of its `connect` calls and of the bytes that it took
pub record LinkKept : Type 0 where
  pub ports : List ℕ
  pub taken : List ℕ

-- what is told of bytes that are left, where a record is kept
abbrev pub link_told : Option LinkKept → List ℕ → Option LinkTold
link_told None left = None
link_told (Some kept) left = Some (record { ports = kept.ports; left = left; taken = kept.taken })

-- a record grew by these ports and bytes, or was given up
abbrev pub KeptGrows : Option LinkKept → Option LinkKept → List ℕ → List ℕ → Type 0
KeptGrows old None asked sent = Unit {0}
KeptGrows None (Some new) asked sent = ⊥
KeptGrows (Some old) (Some new) asked sent =
    (new.ports ≡ old.ports ++ asked) × (new.taken ≡ old.taken ++ sent)

-- a link that never fails and is never quiet: its record, where it still keeps one, the bytes that
-- are left, and where it stands
pub record SteadyLinkState : Type 0 where
  pub kept : Option LinkKept
  pub left : List ℕ
  pub stage : LinkStage

-- a link some of whose calls fail or are quiet: the same, its troubles, how many reads and writes
-- there were, and how many of its calls failed and were quiet
pub record MemoryLinkState : Type 0 where
  pub kept : Option LinkKept
  pub left : List ℕ
  pub stage : LinkStage
  pub troubles : List LinkTrouble
  pub reads : ℕ
  pub writes : ℕ
  pub counts : LinkCounts
