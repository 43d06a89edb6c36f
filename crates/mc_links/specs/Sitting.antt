-- What a splitter holds of the bytes of a connection: what is not read of them. Rules of this
-- project.
use Rattle.std.specs.Prelude.{◌≡◌, ℕ, ◌+◌, ◌-◌, false, List, ◌++◌, length, None}
use Rattle.mc_frame.specs.Cut.{IsPart, SpellsFrames, kept_count}
use Rattle.mc_frame.specs.Held.{Splitting}
use Rattle.mc_model.specs.Cutting.{cut_of}
use Rattle.mc_model.specs.Stages.{is_closed}
use Rattle.mc_model.specs.World.{Unread}
use Rattle.mc_links.specs.Kept.{ConnectionValue}

-- a splitter holds what is not read, and that is a part of a frame
pub record Holds (now : Splitting) (unread : Unread) : Type 0 where
  pub held : now.held ≡ unread.rest
  pub before : now.before ≡ kept_count unread.before
  pub fine : now.fault ≡ None
  pub part : IsPart unread.rest

-- that of a connection does, as long as it is open
abbrev pub Sits : ConnectionValue → Unread → Type 0
Sits c unread = is_closed c.link.stage ≡ false → Holds c.splitter unread

-- what is not read of bytes that so many of the stream stand before
abbrev pub unread_after : ℕ → List ℕ → Unread
unread_after count all = record {
  rest = (cut_of count all).rest;
  before = count + (length all - length (cut_of count all).rest);
}

-- these frames were taken of all bytes, which so many of the stream stand before; what is held and
-- what is left stand behind them
pub record IsUnderway (count : ℕ) (all : List ℕ) (payloads : List (List ℕ)) (now : Splitting)
    (left : List ℕ) : Type 0 where
  pub front : List ℕ
  pub parts : all ≡ front ++ (now.held ++ left)
  pub framed : SpellsFrames payloads front
  pub before : now.before ≡ kept_count (count + length front)
  pub fine : now.fault ≡ None
