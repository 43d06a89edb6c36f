use Rattle.std.proofs.Common.{◌≡◌, Option, None, Some, List, [], ◌++◌, refl, sym, ap, ◌∙◌, inl, inr}
use Rattle.std.proofs.Common.{append_assoc, append-nil}
use Rattle.mc_wire.specs.declared.log.LogEntry.{LogEntry}
use Rattle.mc_wire.specs.Count.{Rose}
use Rattle.mc_wire.specs.LobbyTold.{LobbyTold, with_entries}
use Rattle.mc_wire.specs.Becoming.{ToldBecomes, Logs, HasLogged}
use Rattle.mc_wire.specs.LobbyCounts.{LobbyCounts, NoneFalls, StandOrRise}
use Rattle.mc_wire.proofs.Counts.{NeverFalls-trans, NeverFalls-Rose, Rose-NeverFalls}

-- How what a lobby tells, and its counts, compose over several calls.

pub ToldBecomes-refl : (a : Option LobbyTold) → ToldBecomes a a (λ told. told)
ToldBecomes-refl None = tt
ToldBecomes-refl (Some told) = refl

pub ToldBecomes-trans : (a b c : Option LobbyTold) (first second : LobbyTold → LobbyTold)
    → ToldBecomes a b first
    → ToldBecomes b c second
    → ToldBecomes a c (λ told. second (first told))
ToldBecomes-trans a b None first second one two = tt
ToldBecomes-trans a None (Some z) first second one two = absurd two
ToldBecomes-trans None (Some y) (Some z) first second one two = absurd one
ToldBecomes-trans (Some x) (Some y) (Some z) first second one two = two ∙ ap second one

-- a change that is the same as another
pub ToldBecomes-same : (a b : Option LobbyTold) (change change' : LobbyTold → LobbyTold)
    → ((told : LobbyTold) → change told ≡ change' told)
    → ToldBecomes a b change
    → ToldBecomes a b change'
ToldBecomes-same a None change change' same one = tt
ToldBecomes-same None (Some y) change change' same one = absurd one
ToldBecomes-same (Some x) (Some y) change change' same one = one ∙ same x

pub with_entries-nil : (told : LobbyTold) → with_entries [] told ≡ told
with_entries-nil told = ap (λ log. record told { log = log }) (append-nil told.log)

pub with_entries-append : (told : LobbyTold) (first second : List LogEntry)
    → with_entries second (with_entries first told) ≡ with_entries (first ++ second) told
with_entries-append told first second =
    ap (λ log. record told { log = log }) (append_assoc told.log first second)

pub Logs-refl : (a : Option LobbyTold) → Logs a a []
Logs-refl None = tt
Logs-refl (Some told) = sym (with_entries-nil told)

pub Logs-trans : (a b c : Option LobbyTold) (first second : List LogEntry)
    → Logs a b first
    → Logs b c second
    → Logs a c (first ++ second)
Logs-trans a b c first second one two =
    ToldBecomes-same a c _ _ (λ told. with_entries-append told first second)
    (ToldBecomes-trans a b c (with_entries first) (with_entries second) one two)

pub HasLogged-trans : (a b c : Option LobbyTold) → HasLogged a b → HasLogged b c → HasLogged a c
HasLogged-trans a b c (first, one) (second, two) =
    (first ++ second, Logs-trans a b c first second one two)

pub NoneFalls-trans : (a b c : LobbyCounts) → NoneFalls a b → NoneFalls b c → NoneFalls a c
NoneFalls-trans a b c one two = record {
  faults = NeverFalls-trans a.faults b.faults c.faults one.faults two.faults;
  stalls = NeverFalls-trans a.stalls b.stalls c.stalls one.stalls two.stalls;
  breaks = NeverFalls-trans a.breaks b.breaks c.breaks one.breaks two.breaks;
}

pub StandOrRise-NoneFalls : (a b c : LobbyCounts) → StandOrRise a b → NoneFalls b c → NoneFalls a c
StandOrRise-NoneFalls a b c (inl same) never = rw (← same) never
StandOrRise-NoneFalls a b c (inr first) never = NoneFalls-trans a b c first never

pub StandOrRise-trans : (a b c : LobbyCounts) → StandOrRise a b → StandOrRise b c → StandOrRise a c
StandOrRise-trans a b c first (inl same) = rw same first
StandOrRise-trans a b c first (inr never) = inr (StandOrRise-NoneFalls a b c first never)

-- faults that rose in a later call rose over all
pub StandOrRise-Rose : (a b c : LobbyCounts)
    → StandOrRise a b
    → Rose b.faults c.faults
    → Rose a.faults c.faults
StandOrRise-Rose a b c (inl same) rose = rw (← same) rose
StandOrRise-Rose a b c (inr never) rose =
    NeverFalls-Rose a.faults b.faults c.faults never.faults rose

-- faults that rose in an earlier call rose over all
pub Rose-StandOrRise : (a b c : LobbyCounts)
    → Rose a.faults b.faults
    → StandOrRise b c
    → Rose a.faults c.faults
Rose-StandOrRise a b c rose (inl same) = rw same rose
Rose-StandOrRise a b c rose (inr never) =
    Rose-NeverFalls a.faults b.faults c.faults rose never.faults
