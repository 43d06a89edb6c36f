-- How often calls of a link to a server failed and were quiet; and what of that causes an answer
-- (rules of this project).
use Rattle.std.specs.Prelude.{ℕ, Result, Ok, Err}
use Rattle.mc_wire.specs.declared.failed.Failed.{Failed}
use Rattle.mc_wire.specs.declared.got.Got.{Got}
use Rattle.mc_wire.specs.declared.got.Got.TheVariants.{Bytes, End, Quiet}
use Rattle.mc_wire.specs.Count.{Rose, NeverFalls, raised}

-- how many calls failed, and how many reads were quiet
pub record LinkCounts : Type 0 where
  pub faults : ℕ
  pub quiets : ℕ

-- none yet
abbrev pub no_link_counts : LinkCounts
no_link_counts = record { faults = 0; quiets = 0 }

-- neither fell in a call
pub record NeitherFalls (old new : LinkCounts) : Type 0 where
  pub faults : NeverFalls old.faults new.faults
  pub quiets : NeverFalls old.quiets new.quiets

-- after one more call that failed
abbrev pub with_link_fault : LinkCounts → LinkCounts
with_link_fault counts = record counts { faults = raised counts.faults }

-- after a read that answered so
abbrev pub with_read : Result Got Failed → LinkCounts → LinkCounts
with_read (Ok (Bytes n)) counts = counts
with_read (Ok End) counts = counts
with_read (Ok Quiet) counts = record counts { quiets = raised counts.quiets }
with_read (Err error) counts = with_link_fault counts

-- the count of an answer that gives no bytes and is no end rose
abbrev pub ReadHasCause : Result Got Failed → LinkCounts → LinkCounts → Type 0
ReadHasCause (Ok Quiet) old new = Rose old.quiets new.quiets
ReadHasCause (Err error) old new = Rose old.faults new.faults
ReadHasCause other old new = Unit {0}
