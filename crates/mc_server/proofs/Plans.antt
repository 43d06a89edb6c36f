-- What mobs are still to do changes at ticks alone.
use Rattle.std.proofs.Common.{◌≡◌, ◌≢◌, ℕ, cond, List, [], ◌∷◌, None, Some, Result, Ok, Err}
use Rattle.std.proofs.Common.{◌++◌, refl, length, subst, sym, ap, ◌∙◌, arith, drop, take}
use Rattle.std.proofs.Math.Seq.{take-append_seam}
use Rattle.std.specs.Prelude.{OnOk}
use Rattle.std.proofs.lemmas.Bool.Decides.{nat_tests}
use Rattle.std.proofs.lemmas.List.Sums.{fold-append, sum_by-cons}
use Rattle.std.specs.List.{count_by}
use Rattle.std.specs.FinMap.{empty, get}
use Rattle.std.proofs.lemmas.List.{take-take}
use Rattle.mc_wire.specs.declared.log.LogEntry.{LogEntry}
use Rattle.mc_model.specs.Log.{logged}
use Rattle.mc_model.specs.declared.mobs.TheConstants.{MOBS_MAX}
use Rattle.mc_model.specs.declared.settings.Settings.{Settings}
use Rattle.mc_model.specs.Game.{new_game}
use Rattle.mc_model.specs.Minds.{Plans}
use Rattle.mc_model.specs.Step.{Event, step, ticked}
use Rattle.mc_model.specs.World.{Seat, Turn, World, new_world, on_link, on_seat}
use Rattle.mc_events.specs.Served.{ServerValue}
use Rattle.mc_events.specs.Stands.{Stands}
use Rattle.mc_server.specs.Drives.{is_tick}
use Rattle.mc_server.specs.Minded.{ServedValue, StandsFor}

seat_plans : (w : World) (k : ℕ) (f : Seat → Turn) → (on_seat w k f).world.plans ≡ w.plans
seat_plans w k f = elim (get w.links k) as (λ o. (on_link w k f o).world.plans ≡ w.plans)
    [ None ↦ refl | (Some l) ↦ refl ]

pub step_plans : (w : World) (e : Event) → e ≢ ticked → (step w e).world.plans ≡ w.plans
unfolding step
step_plans w e ne = grind (arith, nat_tests, seat_plans)

-- so entries without a tick leave it
pub logged_plans : (log : List LogEntry) (w : World) → count_by is_tick log ≡ 0 →
    (logged w log).plans ≡ w.plans
logged_plans [] w none = refl
logged_plans (entry ∷ log) w none =
    grind (
      arith,
      nat_tests,
      step_plans,
      fold-append,
      sum_by-cons (λ (x : LogEntry). cond (is_tick x) 1 0) entry log,
      logged_plans log (logged w (entry ∷ [])),
    )

-- a new world with just these plans
abbrev begun : Settings → Plans → World
begun settings plans = record {
  game = new_game settings (length plans);
  plans = plans;
  links = empty;
  unread = empty;
  shown = empty;
  last = None;
}

-- plans past the most mobs make no difference
pub new_fewer : (settings : Settings) (plans : Plans) →
    new_world (record { settings = settings; plans = take MOBS_MAX plans })
    ≡ new_world (record { settings = settings; plans = plans })
new_fewer settings plans = ap (begun settings) (take-take MOBS_MAX MOBS_MAX plans (omega arith))

-- a server stands with its minds for a new world with as many mobs
pub new_stands : (settings : Settings) (plans left_ : Plans) (mobs : ℕ) (server : ServerValue) →
    left_ ≡ take MOBS_MAX plans → length left_ ≡ mobs →
    ((some : Plans) → length some ≡ mobs →
    Stands server (new_world (record { settings = settings; plans = some }))) →
    StandsFor (record { server = server; plans = left_ })
    (new_world (record { settings = settings; plans = plans }))
new_stands settings plans left_ mobs server is count stands = record {
  stands = subst (Stands server)
      (ap (λ (p : Plans). new_world (record { settings = settings; plans = p })) is
      ∙ new_fewer settings plans) (stands left_ count);
  plans = sym is;
}

-- a server that stands for a world, where its minds plan what is in the world
pub stands_on : {T E : Type 0} (r : Result T E) (served : ServedValue) (w : World) →
    OnOk r (Stands served.server w) → OnOk r (w.plans ≡ served.plans) → OnOk r (StandsFor served w)
stands_on (Ok x) served w stands plans = record { stands = stands; plans = plans }
stands_on (Err e) served w stands plans = tt

-- a vector whose every item may have changed
pub items_back : {X : Type 0} (n : ℕ) (old new : List X) → length new ≡ n →
    take n (new ++ drop (length new) old) ≡ new
items_back n old new same = subst (λ m. take m (new ++ drop (length new) old) ≡ new) same
    (take-append_seam new (drop (length new) old))
