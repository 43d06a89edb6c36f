-- Which calls of a link in memory fail or are quiet, and what it answers (a rule of this project).
use Rattle.std.specs.Prelude.{◌≡◌, ℕ, List, [], ◌∷◌, ◌==◌, if◌then◌else◌, Result, Ok, Err, length}
use Rattle.std.specs.Prelude.{min}
use Rattle.mc_wire.specs.declared.failed.Failed.{Failed}
use Rattle.mc_wire.specs.declared.got.Got.{Got}
use Rattle.mc_wire.specs.declared.got.Got.TheVariants.{Bytes, End, Quiet}
use Rattle.mc_wire.specs.declared.link_trouble.LinkTrouble.{LinkTrouble}
use Rattle.mc_wire.specs.declared.link_trouble.LinkTrouble.TheVariants.{FailRead, QuietRead}
use Rattle.mc_wire.specs.declared.read_fate.ReadFate.{ReadFate}
use Rattle.mc_wire.specs.declared.read_fate.ReadFate.TheVariants as fates
use Rattle.mc_wire.specs.Count.{raised}
use Rattle.mc_wire.specs.LinkCounts.{LinkCounts, with_link_fault}

-- what becomes of the read of this number: the first trouble for it decides
abbrev pub read_fate : List LinkTrouble → ℕ → ReadFate
read_fate [] number = fates.Goes
read_fate (FailRead i ∷ rest) number = if i == number then fates.Fails else read_fate rest number
read_fate (QuietRead i ∷ rest) number = if i == number then fates.Rests else read_fate rest number
read_fate (other ∷ rest) number = read_fate rest number

-- a read without a trouble gives as many of the bytes that are left as the buffer can hold, and the
-- end where none is left
abbrev pub gives_next : ℕ → List ℕ → Got
gives_next room [] = End
gives_next room (byte ∷ left) = Bytes (min room (length (byte ∷ left)))

-- after a read of which that became
abbrev pub with_fate : ReadFate → LinkCounts → LinkCounts
with_fate fates.Goes counts = counts
with_fate fates.Rests counts = record counts { quiets = raised counts.quiets }
with_fate fates.Fails counts = with_link_fault counts

-- what a read answers by what becomes of it
abbrev pub Answers : ReadFate → ℕ → List ℕ → Result Got Failed → Type 0
Answers fates.Goes room left (Ok got) = got ≡ gives_next room left
Answers fates.Rests room left (Ok got) = got ≡ Quiet
Answers fates.Fails room left (Err error) = Unit {0}
Answers fate room left other = ⊥

-- how many bytes an answer gives
abbrev pub count_given : Result Got Failed → ℕ
count_given (Ok (Bytes n)) = n
count_given other = 0

-- the troubles, how many reads and writes there were, and how many calls failed and were quiet
pub record LinkTroublesState : Type 0 where
  pub troubles : List LinkTrouble
  pub reads : ℕ
  pub writes : ℕ
  pub counts : LinkCounts
