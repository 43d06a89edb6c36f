-- What contracts see of a connection as the server keeps it: the link of the definitions, what is
-- held of its bytes, and what its client was shown. Rules of this project.
use Rattle.std.specs.Prelude.{ℕ, ◌||◌, nat_lt, Bool, true, false, Option, Some, None, length}
use Rattle.mc_frame.specs.Held.{Splitting, nothing_held}
use Rattle.mc_model.specs.declared.cause.Cause.{Cause}
use Rattle.mc_model.specs.declared.cause.Cause.TheVariants as causes
use Rattle.mc_model.specs.declared.stage.Stage.{Stage}
use Rattle.mc_model.specs.declared.stage.Stage.TheVariants as stages
use Rattle.mc_model.specs.Stages.{is_closed}
use Rattle.mc_model.specs.Talk.{ClientRequest}
use Rattle.mc_session.specs.State.{State}
use Rattle.mc_session.specs.Answers.{next_of}
use Rattle.mc_model.specs.Link.{Link, new_link}
use Rattle.mc_flush.specs.Seeing.{MarkValue, nothing_shown}

pub record ConnectionValue : Type 0 where
  -- the number that it joined under
  pub id : ℕ
  pub link : Link
  -- the bytes that came and are no whole frame yet
  pub splitter : Splitting
  -- what its client was shown, nothing before it is in play
  pub mark : MarkValue

-- nothing came of it yet
abbrev pub new_connection : ℕ → ConnectionValue
new_connection k = record {
  id = k;
  link = new_link;
  splitter = nothing_held;
  mark = nothing_shown;
}

-- how far a connection has come: one that has a cause is closed
abbrev pub stage_of : Option Cause → Stage → Stage
stage_of None stage = stage
stage_of (Some cause) stage = stages.Closed

-- a link as its session sees it
abbrev pub state_of : Link → State
state_of l = record { stage = l.stage; protocol = l.protocol }

-- a link once a frame was decoded that comes to this, and before anything else is done about it
abbrev pub decoded : Link → ClientRequest → Link
decoded l what = record l {
  stage = (next_of (state_of l) what).stage;
  protocol = (next_of (state_of l) what).protocol;
}

-- a connection was closed, and not since it left, a write to it broke, or it was done
abbrev pub is_ours : Option Cause → Bool
is_ours None = false
is_ours (Some causes.Gone) = false
is_ours (Some causes.Broke) = false
is_ours (Some causes.Done) = false
is_ours (Some other) = true

-- a connection is owed bytes, or closed
abbrev pub is_pending : Link → Bool
is_pending l = is_closed l.stage || nat_lt 0 (length l.owed)
