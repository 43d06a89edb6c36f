-- What is known of a world that some events lead to: a further one leads to another such world, and
-- it is good and sound.
use Rattle.std.proofs.Common.{◌≡◌, ◌≢◌, ℕ, ◌≤◌, List, [], ◌∷◌, ◌++◌, Some, sym, subst, ap, ◌∙◌}
use Rattle.std.proofs.Common.{arith}
use Rattle.std.specs.Prelude.{Result, Ok, Err, OnOk}
use Rattle.std.proofs.lemmas.List.Sums.{fold-append}
use Rattle.std.specs.FinMap.{get, len}
use Rattle.mc_model.specs.Run.{AreBytes}
use Rattle.mc_model.specs.declared.stage.Stage.TheVariants as stages
use Rattle.mc_model.specs.Step.{Event, came, ticked, step}
use Rattle.mc_model.specs.declared.player.Player.{Player}
use Rattle.mc_model.specs.Apart.{IsOf, OnlySender}
use Rattle.mc_model.specs.Good.{GoodWorld}
use Rattle.mc_model.specs.Headline.{Between}
use Rattle.mc_model.specs.Link.{Link}
use Rattle.mc_model.specs.Minds.{Plans}
use Rattle.mc_model.specs.Tick.{aged, at_tick, beat, beats, flush, grown, moving, shown_all}
use Rattle.mc_model.specs.World.{Outcome, World, new_world, seat_of}
use Rattle.mc_laws.proofs.Apart.Senders.{only_sender}
use Rattle.mc_laws.proofs.Decoding.Worlds.{IsEvent, SoundWorld, new_world_sound, run_sound}
use Rattle.mc_laws.proofs.Headline.Between.{between}
use Rattle.mc_laws.proofs.Headline.Promise.{closing_of}
use Rattle.mc_laws.proofs.Minds.Moving.{mobs_leave}
use Rattle.mc_laws.proofs.Pickups.Picking.{pickups_leave}
use Rattle.mc_laws.proofs.Runs.Seats.{departed_seat}
use Rattle.mc_laws.proofs.Runs.Worlds.{always_good, first_seat, walked_seat}
use Rattle.mc_laws.proofs.Walk.Each.{each_stays}
use Rattle.mc_laws.proofs.Walk.Steps.{Move, departs, forgets, joins, passes, rests, sits}
use Rattle.mc_laws.proofs.Walk.Steps.{step_moves, takes}
use Rattle.mc_events.specs.Stands.{IsReached}

-- ---- one event more

more_bytes : (events : List Event) (e : Event) → AreBytes events → IsEvent e →
    AreBytes (events ++ e ∷ [])
more_bytes [] (came k bytes) are is = (is, tt)
more_bytes [] other are is = tt
more_bytes (came k bytes ∷ events) e are is = (are.0, more_bytes events e are.1 is)
more_bytes (other ∷ events) e are is = more_bytes events e are is

-- ---- what holds of it

pub reached_good : (w : World) → IsReached w → GoodWorld w
reached_good w reached = subst GoodWorld (sym reached.is)
    (always_good reached.start reached.events)

pub reached_sound : (w : World) → IsReached w → SoundWorld w
reached_sound w reached = subst SoundWorld (sym reached.is)
    (run_sound reached.events (new_world reached.start) reached.bytes
    (new_world_sound reached.start reached.settings))

pub reached_few : (w : World) → IsReached w → len w.game.players ≤ 50
reached_few w reached =
    let sound = (reached_sound w reached).game in
    let few = sound.few in
    let fifty = sound.settings.few in
    omega (arith, few, fifty)

pub reached_only : (w : World) (e : Event) (k : ℕ) → IsOf k e → IsReached w →
    OnlySender k w (step w e)
reached_only w e k is reached = only_sender w e k is (reached_good w reached)

pub reached_between : (w : World) (e : Event) (k : ℕ) (p : Player) → IsReached w →
    get w.game.players k ≡ Some p → e ≢ ticked → Between w e k p
reached_between w e k p reached there no_tick =
    between w e k p (reached_good w reached) there no_tick

-- who is closed stays closed
pub reached_shut : (w : World) (e : Event) (k : ℕ) (l m : Link) → IsReached w →
    get w.links k ≡ Some l → l.stage ≡ stages.Closed → get (step w e).world.links k ≡ Some m →
    m.stage ≡ stages.Closed
reached_shut w e k l m reached =
    subst (λ (v : World). get v.links k ≡ Some l → l.stage ≡ stages.Closed →
    get (step v e).world.links k ≡ Some m → m.stage ≡ stages.Closed) (sym reached.is)
    (λ there shut later.
    (((closing_of reached.start reached.events e).for_good k l there shut).1 m later).0)

-- ---- the world behind it

-- what a world began with stays
moves_settings : (w : World) (o : Outcome) → Move w o → GoodWorld w →
    o.world.game.settings ≡ w.game.settings
moves_settings w o (rests is) a = ap (λ (x : Outcome). x.world.game.settings) is
moves_settings w o (sits k l t there walked is) a =
    ap (λ (x : Outcome). x.world.game.settings) is
    ∙ (walked_seat w k l t there walked a).others.settings
moves_settings w o (departs k l cause there wordless is) a =
    ap (λ (x : Outcome). x.world.game.settings) is
    ∙ (departed_seat k w.game cause (seat_of w k l) (first_seat w k l there a)).others.settings
moves_settings w o (takes k n l there is) a = ap (λ (x : Outcome). x.world.game.settings) is
moves_settings w o (joins k new is) a = ap (λ (x : Outcome). x.world.game.settings) is
moves_settings w o (forgets k l there done is) a =
    ap (λ (x : Outcome). x.world.game.settings) is
moves_settings w o (passes is) a = ap (λ (x : Outcome). x.world.game.settings) is
    ∙ (each_stays (λ (k : ℕ) (l : Link). flush (at_tick w).game (get (at_tick w).shown k) k l)
    (shown_all (at_tick w))).settings
    ∙ (pickups_leave (moving (beats (aged w))).game).settings
    ∙ (mobs_leave (beats (aged w)).plans (beats (aged w)).game).settings
    ∙ (each_stays (λ (k : ℕ) (l : Link). beat (grown w.game) (get w.shown k) k l)
    (aged w)).settings

pub reached_settings : (w : World) (e : Event) → IsReached w →
    (step w e).world.game.settings ≡ w.game.settings
reached_settings w e reached =
    moves_settings w (step w e) (step_moves w e) (reached_good w reached)

pub reached_next : (w : World) (e : Event) → IsEvent e → IsReached w → IsReached (step w e).world
reached_next w e are reached = record {
  start = reached.start;
  settings = reached.settings;
  events = reached.events ++ e ∷ [];
  bytes = more_bytes reached.events e reached.bytes are;
  is = ap (λ (v : World). (step v e).world) reached.is
      ∙ sym (fold-append (λ (v : World) (x : Event). (step v x).world)
      (new_world reached.start) reached.events (e ∷ []));
}

-- what a connection does changes nothing of what mobs are still to do
pub plans_stay : {T E : Type 0} (r : Result T E) (w : World) (e : Event) (k : ℕ)
    (plans : Plans) → IsOf k e → IsReached w → w.plans ≡ plans →
    OnOk r ((step w e).world.plans ≡ plans)
plans_stay (Ok x) w e k plans is reached same = (reached_only w e k is reached).plans ∙ same
plans_stay (Err x) w e k plans is reached same = tt
