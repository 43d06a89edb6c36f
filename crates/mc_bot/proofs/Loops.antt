-- Loops over packets and lines: what was done so far, and what a turn and an exit make of it.
use Rattle.std.proofs.Common.{◌≡◌, ℕ, ◌+◌, ◌<◌, List, ◌∷◌, length, drop, get_or, Option}
use Rattle.std.proofs.Common.{sym, ap, ◌∙◌}
use Rattle.std.proofs.lemmas.List.{drop_more}
use Rattle.mc_wire.specs.Count.{StandsOrRises}
use Rattle.mc_wire.proofs.Counts.{StandsOrRises-refl, StandsOrRises-trans}
use Rattle.mc_wire.specs.LinkStage.{LinkStage}
use Rattle.mc_wire.specs.LinkTold.{LinkTold}
use Rattle.mc_bot.specs.declared.act.Line.{Line}
use Rattle.mc_bot.specs.declared.bot_fault.BotFault.{BotFault}
use Rattle.mc_bot.specs.Playing.{Bot, Course}
use Rattle.mc_bot.specs.Steps.{Standing, HasCome, HasFailed, CanGoOn}
use Rattle.mc_bot.proofs.Coming.{come_none, come_more, come_fail}

-- some steps of a loop, after which the play goes on as the rest
pub record Underway {S : Type 0} (play rest : Bot S → Course S) (a b : Standing S)
    (stage : LinkStage) (faults_ faults' : ℕ) : Type 0 where
  pub come : HasCome play rest a b
  pub goes_on : CanGoOn b.keeping stage
  pub counts : StandsOrRises faults_ faults'

pub underway_none : {S : Type 0} {play : Bot S → Course S} {a : Standing S} {stage : LinkStage}
    {faults_ : ℕ} → CanGoOn a.keeping stage → Underway play play a a stage faults_ faults_
underway_none {play} {a} {faults_} goes_on = record {
  come = come_none play a;
  goes_on = goes_on;
  counts = StandsOrRises-refl faults_;
}

-- one more step
pub underway_more : {S : Type 0} {play rest last : Bot S → Course S} {a b c : Standing S}
    {stage stage' : LinkStage} {f f1 f2 : ℕ} → Underway play rest a b stage f f1 →
    HasCome rest last b c → CanGoOn c.keeping stage' → StandsOrRises f1 f2 →
    Underway play last a c stage' f f2
underway_more {play} {rest} {last} {a} {b} {c} {f} {f1} {f2} so_far come goes_on counts = record {
  come = come_more play rest last a b c so_far.come come;
  goes_on = goes_on;
  counts = StandsOrRises-trans f f1 f2 so_far.counts counts;
}

-- a step fails
pub underway_fails : {S : Type 0} {play rest : Bot S → Course S} {a b : Standing S}
    {told : Option LinkTold} {stage stage' : LinkStage} {f f1 : ℕ} {fault : BotFault} →
    Underway play rest a b stage f f1 → HasFailed rest b told stage' fault →
    HasFailed play a told stage' fault
underway_fails {play} {rest} {a} {b} {told} {stage'} {fault} so_far failed =
    come_fail play rest a b told stage' fault so_far.come failed

-- the loop is left, where the rest is nothing but what is behind it
pub underway_ends : {S : Type 0} {play rest last : Bot S → Course S} {a b : Standing S}
    {stage : LinkStage} {f f1 : ℕ} → Underway play rest a b stage f f1 → HasCome rest last b b →
    HasCome play last a b × CanGoOn b.keeping stage
underway_ends {play} {rest} {last} {a} {b} so_far come =
    (come_more play rest last a b b so_far.come come, so_far.goes_on)

-- the lines that are left, before one
pub next_line : (lines : List Line) (i : ℕ) (line : Line) → i < length lines →
    line ≡ get_or lines i line → drop i lines ≡ line ∷ drop (i + 1) lines
next_line lines i line within is = drop_more lines i line within
    ∙ ap (λ (x : Line). x ∷ drop (i + 1) lines) (sym is)
