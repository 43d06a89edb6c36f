-- A stream cut into frames, of the page 'Protocol' of wiki.vg for protocol 47. It speaks of the
-- whole stream: of no buffer, no piece and no position.
use Rattle.std.specs.Prelude.{◌≡◌, ℕ, ◌+◌, ◌-◌, ◌^◌, ◌<◌, min, List, [], ◌∷◌, ◌++◌, length, Option}
use Rattle.std.specs.Prelude.{Some, None}
use lib.IntN.{pos}
use Rattle.mc_fields.specs.Varint.{SpellsVarint, GoesOn}
use Rattle.mc_frame.specs.declared.fault.FrameFault.{FrameFault}
use Rattle.mc_frame.specs.declared.fault.FrameFault.TheVariants.{LongLength, ZeroLength}
use Rattle.mc_frame.specs.Frame.{SpellsFrame}

-- the bytes spell frames with these payloads, one behind the other
abbrev pub SpellsFrames : List (List ℕ) → List ℕ → Type 0
SpellsFrames [] bytes = bytes ≡ []
SpellsFrames (payload ∷ payloads) bytes = (front : List ℕ) × (back : List ℕ) ×
    (bytes ≡ front ++ back) × SpellsFrame payload front × SpellsFrames payloads back

-- the bytes are a frame of which some bytes are still missing at the end
pub record IsPart (bytes : List ℕ) : Type 0 where
  pub payload : List ℕ
  pub missing : List ℕ
  pub some : 0 < length missing
  pub spelled : SpellsFrame payload (bytes ++ missing)

-- they begin with a length of more than three bytes: each of the first three says that another
-- follows
abbrev pub HasLongLength : List ℕ → Type 0
HasLongLength bytes = GoesOn 3 bytes

-- they begin with a length that reads 0
pub record HasZeroLength (bytes : List ℕ) : Type 0 where
  pub size : List ℕ
  pub after : List ℕ
  pub parts : bytes ≡ size ++ after
  pub sized : SpellsVarint 3 (pos 0) size

-- a count of bytes as it is kept, in 64 bits (a rule of this project)
abbrev pub kept_count : ℕ → ℕ
kept_count count = min count (2 ^ 64 - 1)

-- why there is no whole frame at these bytes, which so many bytes of the stream stand before: a
-- fault, or none of the two, and then more bytes may make one
abbrev pub Ends : ℕ → List ℕ → Option FrameFault → Type 0
Ends count rest None = IsPart rest
Ends count rest (Some (LongLength at)) = HasLongLength rest × (at ≡ kept_count count)
Ends count rest (Some (ZeroLength at)) = HasZeroLength rest × (at ≡ kept_count count)

-- the payloads of the whole frames, what stands behind the last of them, and its fault
pub record Cut : Type 0 where
  pub frames : List (List ℕ)
  pub rest : List ℕ
  pub fault : Option FrameFault

-- how bytes are cut, which so many bytes of the stream stand before
pub record IsCutAt (count : ℕ) (bytes : List ℕ) (cut : Cut) : Type 0 where
  pub front : List ℕ
  pub parts : bytes ≡ front ++ cut.rest
  pub framed : SpellsFrames cut.frames front
  pub ends : Ends (count + length front) cut.rest cut.fault

-- how a whole stream is cut
abbrev pub IsCut : List ℕ → Cut → Type 0
IsCut stream = IsCutAt 0 stream
