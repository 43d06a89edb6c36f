-- What a link to a server tells of itself, and what calls add to that, where it still tells it at
-- their end: a link may stop telling, and never begins again (a rule of this project).
use Rattle.std.specs.Prelude.{◌≡◌, ℕ, Option, None, Some, List, [], ◌++◌, take, Result, Ok, Err}
use Rattle.mc_wire.specs.declared.failed.Failed.{Failed}
use Rattle.mc_wire.specs.declared.got.Got.{Got}
use Rattle.mc_wire.specs.declared.got.Got.TheVariants.{Bytes, End, Quiet}

-- the ports of all its `connect` calls, the bytes still to be read, and those that it took
pub record LinkTold : Type 0 where
  pub ports : List ℕ
  pub left : List ℕ
  pub taken : List ℕ

-- it was asked to connect to these ports, gave the next bytes, which were these, and took these
-- behind the others
pub record Exchanged (old new : LinkTold) (asked given sent : List ℕ) : Type 0 where
  pub asked_to : new.ports ≡ old.ports ++ asked
  pub gave : old.left ≡ given ++ new.left
  pub took : new.taken ≡ old.taken ++ sent

-- the same, where it is told
abbrev pub Exchanges : Option LinkTold → Option LinkTold → List ℕ → List ℕ → List ℕ → Type 0
Exchanges old None asked given sent = Unit {0}
Exchanges None (Some new) asked given sent = ⊥
Exchanges (Some old) (Some new) asked given sent = Exchanged old new asked given sent

-- no byte is left to be read, where that is told
abbrev pub GivesNoMore : Option LinkTold → Type 0
GivesNoMore None = Unit {0}
GivesNoMore (Some told) = told.left ≡ []

-- a read gives the bytes that stand in the buffer, and every other answer leaves what is told
abbrev pub ToldByRead : Result Got Failed → List ℕ → Option LinkTold → Option LinkTold → Type 0
ToldByRead (Ok (Bytes n)) buffer old new = Exchanges old new [] (take n buffer) []
ToldByRead (Ok End) buffer old new = (new ≡ old) × GivesNoMore new
ToldByRead (Ok Quiet) buffer old new = new ≡ old
ToldByRead (Err error) buffer old new = new ≡ old

-- a write takes the first bytes of the piece, and a failure leaves what is told
abbrev pub ToldByWrite : Result ℕ Failed → List ℕ → Option LinkTold → Option LinkTold → Type 0
ToldByWrite (Ok n) piece old new = Exchanges old new [] [] (take n piece)
ToldByWrite (Err error) piece old new = new ≡ old
