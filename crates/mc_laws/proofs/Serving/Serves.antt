-- The promise about what a lobby took and closed holds of turns one after another.
use Rattle.std.proofs.Common.{◌≡◌, ◌≤◌, ℕ, ◌+◌, Bool, true, false, cond, List, [], ◌∷◌, ◌++◌, Some}
use Rattle.std.proofs.Common.{None, refl, sym, subst, ap, ◌∙◌, arith}
use Rattle.std.specs.Prelude.{◌==◌, ◌⊎◌, option_map}
use Rattle.std.specs.List.{Contains, count_by}
use Rattle.std.specs.FinMap.{get}
use Rattle.std.proofs.lemmas.Bool.{eqb-true}
use Rattle.std.proofs.lemmas.List.Sums.{sum_by-cons}
use Rattle.mc_wire.specs.declared.log.LogEntry.{LogEntry}
use Rattle.mc_wire.specs.declared.log.LogEntry.TheVariants.{Closed, Stalled}
use Rattle.mc_model.specs.Log.{events_in, log_of, logged}
use Rattle.mc_model.specs.Serving.{closes, HasPut, Serves}
use Rattle.mc_model.specs.Step.{Event, forgot, is_new, step}
use Rattle.mc_model.specs.Link.{Link}
use Rattle.mc_model.specs.Minds.{Start}
use Rattle.mc_model.specs.World.{World, new_world}
use Rattle.mc_model.specs.Run.{history, lost, owed_in}
use Rattle.mc_model.specs.Good.{GoodWorld}
use Rattle.mc_model.specs.Turns.{AreTurns}
use Rattle.mc_model.proofs.Maps.Options.{not_both, none_some}
use Rattle.mc_laws.proofs.Walk.Steps.{step_moves}
use Rattle.mc_laws.proofs.Walk.Ticking.{after_tick, tick_link}
use Rattle.mc_laws.proofs.Runs.OneSteps.{OneStep, comes, departs, goes, one_step, reads, rests}
use Rattle.mc_laws.proofs.Runs.OneSteps.{takes, ticks}
use Rattle.mc_laws.proofs.Runs.Promises.{bytes_promised, still_new}
use Rattle.mc_laws.proofs.Runs.Worlds.{new_good, step_good}
use Rattle.mc_laws.proofs.Serving.Forgetting.{forgot_done}
use Rattle.mc_laws.proofs.Serving.Logs.{AreRight, IsRight, good_logged, logged_more, puts_taken}
use Rattle.mc_laws.proofs.Serving.Logs.{right_at, right_first}
use Rattle.mc_laws.proofs.Serving.Turns.{turn_at, turn_closes, turn_empties, turns_right}

-- ---- one that is gone stays away

-- it is not there, and its number is not new
record IsAway (k : ℕ) (w : World) : Type 0 where
  nowhere : get w.links k ≡ None
  old : is_new k w.last ≡ false

old_step : (k : ℕ) (w : World) (e : Event) → is_new k w.last ≡ false →
    is_new k (step w e).world.last ≡ false
old_step k w e old = at_new (is_new k (step w e).world.last) refl
  where
    at_new : (b : Bool) → is_new k (step w e).world.last ≡ b → b ≡ false
    at_new true t = absurd (not_both (is_new k w.last)
        (still_new w (step w e) k (step_moves w e) t) old)
    at_new false t = refl

away_by : (k : ℕ) (w : World) (e : Event) → IsAway k w → OneStep k w e →
    get (step w e).world.links k ≡ None
unfolding step
away_by k w e a (rests st none) = st.link ∙ a.nowhere
away_by k w e a (reads bytes l is there sits came_) = absurd (none_some _ l a.nowhere there)
away_by k w e a (departs cause l wordless there sits none) =
    absurd (none_some _ l a.nowhere there)
away_by k w e a (takes n l there sits none) = absurd (none_some _ l a.nowhere there)
away_by k w e a (comes c none) = absurd (not_both (is_new k w.last) c.new a.old)
away_by k w e a (goes l g none) = absurd (none_some _ l a.nowhere g.there)
away_by k w e a (ticks is) =
    ap (λ (x : Event). get (step w x).world.links k) is ∙ tick_link w k
    ∙ ap (option_map (λ (l : Link). (after_tick w k l).link)) a.nowhere

stays_away : (k : ℕ) (events : List Event) (w : World) → GoodWorld w → IsAway k w →
    IsAway k (history w events)
stays_away k [] w good a = a
stays_away k (e ∷ events) w good a = stays_away k events (step w e).world (step_good w e good)
    (record {
      nowhere = away_by k w e a (one_step w e k good);
      old = old_step k w e a.old;
    })

-- one that is there is not to come
there_old : (k : ℕ) (w : World) (l : Link) → GoodWorld w → get w.links k ≡ Some l →
    is_new k w.last ≡ false
there_old k w l good there = at_new (is_new k w.last) refl
  where
    at_new : (b : Bool) → is_new k w.last ≡ b → b ≡ false
    at_new true t = absurd (none_some _ l (good.fresh k t) there)
    at_new false t = refl

-- ---- none is closed twice

-- the step of a count
counted : (k : ℕ) (entry : LogEntry) (log : List LogEntry) (b : Bool) → closes k entry ≡ b →
    count_by (closes k) (entry ∷ log) ≡ cond b 1 0 + count_by (closes k) log
counted k entry log b is = sum_by-cons (λ (e : LogEntry). cond (closes k e) 1 0) entry log
    ∙ ap (λ (c : Bool). cond c 1 0 + count_by (closes k) log) is

-- one that is not there is not closed
away_closes : (k : ℕ) (w : World) (entry : LogEntry) → IsRight w entry → IsAway k w →
    closes k entry ≡ false
away_closes k w (Closed j) right a = at_own (j == k) refl
  where
    at_own : (b : Bool) → (j == k) ≡ b → b ≡ false
    at_own true t = absurd (none_some _ right.0 a.nowhere
        (ap (get w.links) (sym (eqb-true j k t)) ∙ right.1))
    at_own false t = refl
away_closes k w other right a = refl

away_counts : (k : ℕ) (log : List LogEntry) (w : World) → GoodWorld w → AreRight w log →
    IsAway k w → count_by (closes k) log ≡ 0
away_counts k [] w good right a = refl
away_counts k (entry ∷ log) w good right a =
    let later = away_counts k log (logged w (entry ∷ [])) (good_logged (entry ∷ []) w good)
    right.1 (stays_away k (events_in (entry ∷ [])) w good a) in
    let now = counted k entry log false (away_closes k w entry right.0 a) in
    omega (arith, now, later)

closed_away : (k : ℕ) (w : World) (entry : LogEntry) → GoodWorld w → IsRight w entry →
    closes k entry ≡ true → IsAway k (logged w (entry ∷ []))
closed_away k w (Closed j) good right own =
    let there : get w.links k ≡ Some right.0 =
    ap (get w.links) (sym (eqb-true j k own)) ∙ right.1 in
    subst (λ (n : ℕ). IsAway k (step w (forgot n)).world) (sym (eqb-true j k own)) (record {
      nowhere = forgot_done w k right.0 there right.2;
      old = old_step k w (forgot k) (there_old k w right.0 good there);
    })
closed_away k w other good right own = absurd cc

closed_once : (k : ℕ) (log : List LogEntry) (w : World) → GoodWorld w → AreRight w log →
    count_by (closes k) log ≤ 1
closed_once k [] w good right = omega arith
closed_once k (entry ∷ log) w good right =
    step_at (closes k entry) refl
    (closed_once k log (logged w (entry ∷ [])) (good_logged (entry ∷ []) w good) right.1)
  where
    step_at : (b : Bool) → closes k entry ≡ b → count_by (closes k) log ≤ 1 →
        count_by (closes k) (entry ∷ log) ≤ 1
    step_at true t later =
        let now = counted k entry log true t in
        let none = away_counts k log (logged w (entry ∷ [])) (good_logged (entry ∷ []) w good)
        right.1 (closed_away k w entry good right.0 t) in
        omega (arith, now, none)
    step_at false t later = let now = counted k entry log false t in omega (arith, now, later)

-- ---- all of it

has_put : (start : Start) (log : List LogEntry) (k : ℕ) →
    AreRight (new_world start) log → HasPut k (new_world start) log
has_put start log k right =
    let w = new_world start in
    let events = events_in log in
    let promised = bytes_promised start events k in
    let same = puts_taken k log w right in
    record {
      begun = (
        promised.begun.0,
        promised.begun.1 ∙ ap (λ (bs : List ℕ). bs ++ promised.begun.0) (sym same),
      );
      whole = λ ne. promised.whole ne
          ∙ ap (λ (bs : List ℕ). bs ++ (lost k w events ++ owed_in k (history w events)))
          (sym same);
    }

pub serves : (start : Start) (turns : List (List LogEntry)) →
    AreTurns (new_world start) turns → Serves start turns
serves start turns are =
    let w = new_world start in
    let right = turns_right turns w are in
    record {
      put = λ log later k split.
          has_put start log k (right_first log later w (subst (AreRight w) split right));
      emptied = λ before turn later k split.
          subst (λ (v : World). (owed_in k v ≡ []) ⊎ Contains turn (Stalled k))
          (sym (logged_more w (log_of before) turn))
          (turn_empties k (logged w (log_of before)) turn
          (turn_at before turn later w (subst (AreTurns w) split are)));
      all_closed = λ before turn later k l split there.
          turn_closes k l (logged w (log_of before)) turn
          (turn_at before turn later w (subst (AreTurns w) split are))
          (subst (λ (v : World). get v.links k ≡ Some l) (logged_more w (log_of before) turn)
          there);
      none_else = λ log later k split.
          right_at log (Closed k) later w (subst (AreRight w) split right);
      once = λ k. closed_once k (log_of turns) w (new_good start) right;
    }
