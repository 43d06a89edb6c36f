use Rattle.std.proofs.Common.{◌≡◌, ℕ, ◌+◌, ◌-◌, ◌<◌, ◌≤◌, Option, List, ◌++◌, length, take, drop}
use Rattle.std.proofs.Common.{inr, ap, ◌∙◌, arith}
use Rattle.std.proofs.lemmas.List.{length-drop, drop-drop, take_rest}
use Rattle.std.proofs.Math.Seq.{take-add}
use Rattle.mc_wire.specs.Count.{NeverFalls, StandsOrRises}
use Rattle.mc_wire.specs.Stream.{Consumes, Grows}
use Rattle.mc_wire.proofs.Counts.{StandsOrRises-NeverFalls}
use Rattle.mc_wire.proofs.Streams.{Consumes-trans, Grows-trans}

-- what a loop that reads has done: these bytes, and no fall of the count
pub record HasRead (left_first left : Option (List ℕ)) (faults_first faults : ℕ) (bytes : List ℕ) :
    Type 0 where
  pub consumed : Consumes left_first left bytes
  pub counts : StandsOrRises faults_first faults

-- one more read
pub read_more : (left_first left left' : Option (List ℕ)) (faults_first faults faults' : ℕ)
    (bytes more : List ℕ)
    → HasRead left_first left faults_first faults bytes
    → Consumes left left' more
    → NeverFalls faults faults'
    → HasRead left_first left' faults_first faults' (bytes ++ more)
read_more left_first left left' faults_first faults faults' bytes more was given never = record {
  consumed = Consumes-trans left_first left left' bytes more was.consumed given;
  counts = inr (StandsOrRises-NeverFalls faults_first faults faults' was.counts never);
}

-- what a loop that writes a piece has done: all of it but the rest, and nothing before its first
-- call
pub record HasWritten {S : Type 0} (first now : S) (held_first held : Option (List ℕ))
    (faults_first faults : ℕ) (piece rest : List ℕ) : Type 0 where
  pub shorter : length rest ≤ length piece
  pub place : rest ≡ drop (length piece - length rest) piece
  pub grown : Grows held_first held (take (length piece - length rest) piece)
  pub counts : StandsOrRises faults_first faults
  pub called : length rest < length piece → NeverFalls faults_first faults
  pub untouched : length rest ≡ length piece → now ≡ first

-- one more write
pub wrote_more : {S : Type 0} (first now now' : S) (held_first held held' : Option (List ℕ))
    (faults_first faults faults' : ℕ) (piece rest : List ℕ) (n : ℕ)
    → HasWritten first now held_first held faults_first faults piece rest
    → 0 < n
    → n ≤ length rest
    → Grows held held' (take n rest)
    → NeverFalls faults faults'
    → HasWritten first now' held_first held' faults_first faults' piece
    (take (length rest - n) (drop n rest))
wrote_more first now now' held_first held held' faults_first faults faults' piece rest n was some
    within grows never =
    let left : length (drop n rest) ≡ length rest - n = length-drop n rest in
    let shorter : length rest ≤ length piece = was.shorter in
    let done : length piece - length (drop n rest) ≡ length piece - length rest + n = omega arith in
    let falls : NeverFalls faults_first faults' = StandsOrRises-NeverFalls faults_first faults
    faults' was.counts never in
    rw take_rest (record {
      shorter = omega arith;
      place = rw done (ap (drop n) was.place ∙ drop-drop n (length piece - length rest) piece);
      grown = rw (done, take-add (length piece - length rest) n piece, ← was.place)
          (Grows-trans held_first held held' (take (length piece - length rest) piece) (take n rest)
          was.grown grows);
      counts = inr falls;
      called = λ _. falls;
      untouched = λ same. absurd (omega arith);
    })
