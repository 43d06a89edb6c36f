-- What a splitter is to a caller, what its calls do, and what any list of them comes to.
use Rattle.std.specs.Prelude.{◌≡◌, ℕ, ◌+◌, ◌-◌, ◌≤◌, min, List, [], ◌∷◌, ◌++◌, length, take, drop}
use Rattle.std.specs.Prelude.{Option, Some, None}
use Rattle.mc_frame.specs.declared.fault.FrameFault.{FrameFault}
use Rattle.mc_frame.specs.declared.fault.Take.{Take}
use Rattle.mc_frame.specs.declared.fault.Take.TheVariants.{Frame, More, Bad}
use Rattle.mc_frame.specs.declared.fault.Peek.{Peek}
use Rattle.mc_frame.specs.declared.fault.Peek.TheVariants as peeks
use Rattle.mc_frame.specs.declared.splitter.TheConstants.{HELD_MAX}
use Rattle.mc_frame.specs.Frame.{SpellsFrame}
use Rattle.mc_frame.specs.Cut.{IsPart, Ends, Cut, kept_count}
use Rattle.mc_frame.specs.Held.{Splitting}

-- the most bytes that are held: those of the longest frame
abbrev pub held_max : ℕ
held_max = HELD_MAX

-- how many more bytes are taken
abbrev pub room_for : Option FrameFault → List ℕ → ℕ
room_for None held = held_max - length held
room_for (Some fault) held = 0

-- feeding a piece: its first bytes are held, as many as there is room for
pub record Feeds (old : Splitting) (piece : List ℕ) (count : ℕ) (new : Splitting) : Type 0 where
  pub counted : count ≡ min (length piece) (room_for old.fault old.held)
  pub held : new ≡ record old { held = old.held ++ take count piece }

-- the frame at the front of the held bytes goes
pub record TakesFrame (old : Splitting) (payload : List ℕ) (new : Splitting) : Type 0 where
  pub front : List ℕ
  pub spelled : SpellsFrame payload front
  pub held : old.held ≡ front ++ new.held
  pub before : new.before ≡ kept_count (old.before + length front)
  pub fault : new.fault ≡ old.fault

-- taking a frame: what the held bytes begin with, by the definition of a cut, and nothing else
abbrev pub Takes : Splitting → Take → Splitting → Type 0
Takes old (Frame payload) new = TakesFrame old payload new
Takes old More new = IsPart old.held × (old.fault ≡ None) × (new ≡ old)
Takes old (Bad fault) new = Ends old.before old.held (Some fault) ×
    (new ≡ record old { fault = Some fault })

-- a whole frame of so many bytes stands at the front
pub record PeeksFrame (now : Splitting) (payload : List ℕ) (len : ℕ) : Type 0 where
  pub fine : now.fault ≡ None
  pub within : len ≤ length now.held
  pub spelled : SpellsFrame payload (take len now.held)

-- what stands at the front, by the definition of a cut
abbrev pub Peeks : Splitting → Peek → Type 0
Peeks now (peeks.Frame payload len) = PeeksFrame now payload.now len
Peeks now peeks.More = IsPart now.held × (now.fault ≡ None)
Peeks now (peeks.Bad fault) = Ends now.before now.held (Some fault)

-- so many of the held bytes go
abbrev pub shortened : ℕ → Splitting → Splitting
shortened len now = record now {
  held = drop len now.held;
  before = kept_count (now.before + len);
}

-- ---- any list of calls

-- a call and what it answered
pub data Event : Type 0 where
  fed : List ℕ → ℕ → Event
  took : Take → Event
  refused : Event

-- what a call did; a call that found no memory changed nothing
abbrev pub Steps : Splitting → Event → Splitting → Type 0
Steps old (fed piece count) new = Feeds old piece count new
Steps old (took answer) new = Takes old answer new
Steps old refused new = new ≡ old

-- what the calls did, one after the other
abbrev pub Runs : Splitting → List Event → Splitting → Type 0
Runs old [] new = new ≡ old
Runs old (event ∷ events) new = (middle : Splitting) × Steps old event middle ×
    Runs middle events new

-- the bytes that the feeds took, joined
abbrev pub fed_bytes : List Event → List ℕ
fed_bytes [] = []
fed_bytes (fed piece count ∷ events) = take count piece ++ fed_bytes events
fed_bytes (took answer ∷ events) = fed_bytes events
fed_bytes (refused ∷ events) = fed_bytes events

-- the payloads that the takes gave
abbrev pub taken_frames : List Event → List (List ℕ)
taken_frames [] = []
taken_frames (took (Frame payload) ∷ events) = payload ∷ taken_frames events
taken_frames (took More ∷ events) = taken_frames events
taken_frames (took (Bad fault) ∷ events) = taken_frames events
taken_frames (fed piece count ∷ events) = taken_frames events
taken_frames (refused ∷ events) = taken_frames events

-- what the next take answers, by the cut of all that was fed and the frames that were taken: the
-- next frame, if there is one, else what the cut ends with
abbrev pub Answers : Cut → List (List ℕ) → Take → Type 0
Answers cut frames (Frame payload) = (later : List (List ℕ)) × (cut.frames ≡ frames ++ payload ∷
    later)
Answers cut frames More = (cut.frames ≡ frames) × (cut.fault ≡ None)
Answers cut frames (Bad fault) = (cut.frames ≡ frames) × (cut.fault ≡ Some fault)
