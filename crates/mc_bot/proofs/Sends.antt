-- What a loop that writes a piece to a link has done.
use Rattle.std.proofs.Common.{◌≡◌, ℕ, ◌+◌, ◌-◌, ◌≤◌, Option, None, Some, List, [], ◌++◌, length}
use Rattle.std.proofs.Common.{take, drop, refl, sym, inr, ap, ◌∙◌, arith, append_assoc, append-nil}
use Rattle.std.proofs.lemmas.List.{length-drop, drop-drop, take_rest}
use Rattle.std.proofs.Math.Seq.{take-add}
use Rattle.mc_wire.specs.Count.{Rose, NeverFalls, StandsOrRises}
use Rattle.mc_wire.specs.LinkStage.{LinkStage}
use Rattle.mc_wire.specs.LinkTold.{LinkTold, Exchanges}
use Rattle.mc_wire.proofs.Counts.{StandsOrRises-refl, StandsOrRises-NeverFalls, StandsOrRises-Rose}
use Rattle.mc_wire.proofs.Counts.{StandsOrRises-trans, NeverFalls-Rose}

nothing_yet : (a : Option LinkTold) → Exchanges a a [] [] []
nothing_yet None = tt
nothing_yet (Some a) = record {
  asked_to = sym (append-nil a.ports);
  gave = refl;
  took = sym (append-nil a.taken);
}

then_sent : (a b c : Option LinkTold) (first second : List ℕ) → Exchanges a b [] [] first →
    Exchanges b c [] [] second → Exchanges a c [] [] (first ++ second)
then_sent a b None first second one two = tt
then_sent a None (Some c) first second one two = absurd two
then_sent None (Some b) (Some c) first second one two = absurd one
then_sent (Some a) (Some b) (Some c) first second one two = record {
  asked_to = two.asked_to ∙ ap (λ (l : List ℕ). l ++ []) (one.asked_to ∙ append-nil a.ports);
  gave = one.gave ∙ two.gave;
  took = two.took ∙ ap (λ (l : List ℕ). l ++ second) one.took ∙ append_assoc a.taken first second;
}

-- all of the piece but the rest was sent
pub record HasSent (told_first told : Option LinkTold) (stage_first stage : LinkStage)
    (faults_first faults answers_first answers : ℕ) (piece rest : List ℕ) : Type 0 where
  pub shorter : length rest ≤ length piece
  pub place : rest ≡ drop (length piece - length rest) piece
  pub sent : Exchanges told_first told [] [] (take (length piece - length rest) piece)
  pub stands : stage ≡ stage_first
  pub counts : StandsOrRises faults_first faults
  pub fewer : answers ≤ answers_first

-- nothing was yet
pub send_begun : (told : Option LinkTold) (stage : LinkStage) (faults answers : ℕ)
    (piece : List ℕ) → HasSent told told stage stage faults faults answers answers piece piece
send_begun told stage faults answers piece =
    let none : length piece - length piece ≡ 0 = omega arith in
    record {
      shorter = omega arith;
      place = rw none refl;
      sent = rw none (nothing_yet told);
      stands = refl;
      counts = StandsOrRises-refl faults;
      fewer = omega arith;
    }

pub send_failed : (a b c : ℕ) → StandsOrRises a b → Rose b c → Rose a c
send_failed a b c first rose = StandsOrRises-Rose a b c first rose

pub counts_on : (a b c : ℕ) → StandsOrRises a b → StandsOrRises b c → StandsOrRises a c
counts_on a b c first second = StandsOrRises-trans a b c first second

pub never_then_rose : (a b c : ℕ) → NeverFalls a b → Rose b c → Rose a c
never_then_rose a b c first rose = NeverFalls-Rose a b c first rose

-- one more write
pub sent_more : (told_first told told' : Option LinkTold) (stage_first stage stage' : LinkStage)
    (faults_first faults faults' answers_first answers answers' : ℕ) (piece rest : List ℕ) (n : ℕ)
    → HasSent told_first told stage_first stage faults_first faults answers_first answers piece rest
    → n ≤ length rest
    → Exchanges told told' [] [] (take n rest)
    → stage' ≡ stage
    → NeverFalls faults faults'
    → answers' ≤ answers
    → HasSent told_first told' stage_first stage' faults_first faults' answers_first answers' piece
    (take (length rest - n) (drop n rest))
sent_more told_first told told' stage_first stage stage' faults_first faults faults' answers_first
    answers answers' piece rest n was within sent stands never fewer =
    let left : length (drop n rest) ≡ length rest - n = length-drop n rest in
    let shorter : length rest ≤ length piece = was.shorter in
    let done : length piece - length (drop n rest) ≡ length piece - length rest + n = omega arith in
    rw take_rest (record {
      shorter = omega arith;
      place = rw done (ap (drop n) was.place ∙ drop-drop n (length piece - length rest) piece);
      sent = rw (done, take-add (length piece - length rest) n piece, ← was.place)
          (then_sent told_first told told' (take (length piece - length rest) piece) (take n rest)
          was.sent sent);
      stands = stands ∙ was.stands;
      counts = inr (StandsOrRises-NeverFalls faults_first faults faults' was.counts never);
      fewer = omega (arith, fewer, was.fewer);
    })
