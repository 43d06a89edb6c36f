-- All that can be told holds of every world of a run: of its game, of what was shown, and of the
-- bytes that are not read.
use Rattle.std.proofs.Common.{◌≡◌, ℕ, true, false, List, [], ◌∷◌, ◌++◌, Option, Some, None, refl}
use Rattle.std.proofs.Common.{sym, subst, ap, ◌∙◌, arith}
use Rattle.std.specs.Prelude.{length, option_map, unwrap_or, if◌then◌else◌}
use Rattle.std.specs.Ordering.{nat_cmp}
use Rattle.std.specs.FinMap.{get, get-empty, insert, remove}
use Rattle.mc_bytes.specs.Reading.{IsBytes}
use Rattle.mc_model.specs.declared.cause.Cause.TheVariants as causes
use Rattle.mc_model.specs.declared.stage.Stage.{Stage}
use Rattle.mc_model.specs.declared.player.Player.{Player}
use Rattle.mc_model.specs.Decoding.{decoder_of}
use Rattle.mc_model.specs.Run.{AreBytes, history}
use Rattle.mc_model.specs.Sight.{Sight}
use Rattle.mc_model.specs.Step.{Event, joined, came, left, broke, ticked, took, forgot, is_new}
use Rattle.mc_model.specs.Step.{depart, forget, join, joining, on_bytes, step, take_from}
use Rattle.mc_model.specs.Game.{AreSettings, Game}
use Rattle.mc_model.specs.Minds.{Start, plans_of}
use Rattle.mc_model.specs.Stages.{is_closed}
use Rattle.mc_model.specs.Leaving.{leave, left_by}
use Rattle.mc_model.specs.Link.{Handing, Link, gone, is_done}
use Rattle.mc_model.specs.Showing.{last_shown, sight_of}
use Rattle.mc_model.specs.World.{Seat, Turn, Unread, World, closed_by, each, new_world}
use Rattle.mc_model.specs.World.{nothing_unread, on_link, seat_of, unread_of}
use Rattle.mc_model.specs.Tick.{aged, at_tick, beat, beats, flush, grown, shown_all, tick}
use Rattle.mc_model.specs.Good.{GoodWorld, in_play}
use Rattle.mc_model.proofs.Maps.Options.{none_some, some_is}
use Rattle.mc_laws.proofs.FitsSight.{SightFits, nothing_fits}
use Rattle.mc_laws.proofs.Walk.Ticking.{tick_shown, tick_unread}
use Rattle.mc_laws.proofs.Runs.OneSteps.{OneStep, comes, departs, goes, one_step, reads, rests}
use Rattle.mc_laws.proofs.Runs.OneSteps.{takes, ticks}
use Rattle.mc_laws.proofs.Runs.Worlds.{at_tick_world, new_good, step_good}
use Rattle.mc_laws.proofs.Fits.Clear.{SoundGame, sight_fits}
use Rattle.mc_laws.proofs.Fits.Sound.{grown_sound, leave_all_sound, leave_sound, new_sound}
use Rattle.mc_laws.proofs.Fits.Sound.{rules_sound, told_sound}
use Rattle.mc_laws.proofs.Minds.Beginning.{few_mobs}
use Rattle.mc_laws.proofs.Decoding.Seats.{IsSeat}
use Rattle.mc_laws.proofs.Decoding.Frames.{BytesDecode, bytes_decode}

pub record SoundWorld (w : World) : Type 0 where
  pub good : GoodWorld w
  pub game : SoundGame w.game
  pub shown : (k : ℕ) (s : Sight) → get w.shown k ≡ Some s → SightFits s
  pub unread : (k : ℕ) (u : Unread) → get w.unread k ≡ Some u → IsBytes u.rest

-- what comes in an event is bytes
abbrev pub IsEvent : Event → Type 0
IsEvent (came k bytes) = IsBytes bytes
IsEvent other = Unit {0}

-- bytes of all events are bytes of the first and of the others
pub first_bytes : (e : Event) (events : List Event) → AreBytes (e ∷ events) →
    IsEvent e × AreBytes events
first_bytes (came k bytes) events are = are
first_bytes (joined k) events are = (tt, are)
first_bytes (left k) events are = (tt, are)
first_bytes (broke k) events are = (tt, are)
first_bytes ticked events are = (tt, are)
first_bytes (took k n) events are = (tt, are)
first_bytes (forgot k) events are = (tt, are)

-- ---- a seat of such a world

pub no_bytes : IsBytes []
no_bytes i = omega arith

-- the bytes that are not read
abbrev pub rest_in : Option Unread → List ℕ
rest_in o = (unwrap_or o nothing_unread).rest

pub unread_bytes : (w : World) (k : ℕ) → SoundWorld w → IsBytes (unread_of k w).rest
unread_bytes w k sound = step_at (get w.unread k) refl
  where
    step_at : (o : Option Unread) → get w.unread k ≡ o → IsBytes (rest_in o)
    step_at None is = no_bytes
    step_at (Some u) is = sound.unread k u is

pub world_seat : (w : World) (k : ℕ) (l : Link) → get w.links k ≡ Some l → SoundWorld w →
    IsSeat k (seat_of w k l)
world_seat w k l there sound = record {
  sound = sound.game;
  plays = sound.good.plays k ∙ ap in_play there;
}

-- whatever decoder its first frame asks for
any_bytes : (w : World) (k : ℕ) (l : Link) (bytes : List ℕ) → get w.links k ≡ Some l →
    SoundWorld w → IsBytes bytes →
    BytesDecode (decoder_of ((unread_of k w).rest ++ bytes)) k (seat_of w k l) bytes
    (on_bytes k (seat_of w k l) bytes)
any_bytes w k l bytes there sound are =
    bytes_decode (decoder_of ((unread_of k w).rest ++ bytes)) k (seat_of w k l) bytes
    (world_seat w k l there sound) (unread_bytes w k sound) are (λ at. refl)

-- ---- games

left_sound : (k : ℕ) (stage : Stage) (g : Game) → SoundGame g → SoundGame (left_by k stage g)
left_sound k stage g sound = elim (is_closed stage) as
    (λ b. SoundGame (if b then leave k g else g)) [
      | true ↦ leave_sound k g sound
      | false ↦ sound
    ]

each_sound : (f : ℕ → Link → Handing) (w : World) → SoundGame w.game → SoundGame (each f w).game
unfolding each
each_sound f w sound = leave_all_sound (closed_by f w) w.game sound

pub at_tick_sound : (w : World) → SoundGame w.game → SoundGame (at_tick w).game
at_tick_sound w sound = rules_sound (beats (aged w)).plans (beats (aged w)).game
    (each_sound (λ (k : ℕ) (l : Link). beat (grown w.game) (get w.shown k) k l) (aged w)
    (grown_sound w.game sound))

tick_sound : (w : World) → SoundGame w.game → SoundGame (tick w).world.game
tick_sound w sound = each_sound
    (λ (k : ℕ) (l : Link). flush (at_tick w).game (get (at_tick w).shown k) k l)
    (shown_all (at_tick w)) (told_sound (at_tick w).game (at_tick_sound w sound))

on_link_sound : (w : World) (k : ℕ) (f : Seat → Turn) → SoundGame w.game →
    ((l : Link) → get w.links k ≡ Some l → SoundGame (f (seat_of w k l)).seat.game) →
    SoundGame (on_link w k f (get w.links k)).world.game
on_link_sound w k f none some = step_at (get w.links k) refl
  where
    step_at : (o : Option Link) → get w.links k ≡ o → SoundGame (on_link w k f o).world.game
    step_at None is = none
    step_at (Some l) is = some l is

join_sound : (w : World) (k : ℕ) → SoundGame w.game → SoundGame (join w k).game
join_sound w k sound = elim (is_new k w.last) as (λ b. SoundGame (if b
    then record w { last = Some k; links = insert w.links k (joining w) } else w).game)
    [ true ↦ sound | false ↦ sound ]

forget_sound : (w : World) (k : ℕ) (o : Option Link) → SoundGame w.game →
    SoundGame (forget w k o).game
forget_sound w k None sound = sound
forget_sound w k (Some l) sound = elim (is_done l) as (λ b. SoundGame (if b then record w {
  links = remove w.links k;
  unread = remove w.unread k;
  shown = remove w.shown k;
} else w).game) [ true ↦ sound | false ↦ sound ]

game_sound : (w : World) (e : Event) → IsEvent e → SoundWorld w → SoundGame (step w e).world.game
unfolding step
game_sound w (joined k) are sound = join_sound w k sound.game
game_sound w (came k bytes) are sound =
    on_link_sound w k (λ (s : Seat). on_bytes k s bytes) sound.game
    (λ l there. (any_bytes w k l bytes there sound are).seat.sound)
game_sound w (left k) are sound = on_link_sound w k (depart k causes.Gone) sound.game
    (λ l there. left_sound k (gone causes.Gone l).stage w.game sound.game)
game_sound w (broke k) are sound = on_link_sound w k (depart k causes.Broke) sound.game
    (λ l there. left_sound k (gone causes.Broke l).stage w.game sound.game)
game_sound w ticked are sound = tick_sound w sound.game
game_sound w (took k n) are sound = on_link_sound w k (take_from n) sound.game
    (λ l there. sound.game)
game_sound w (forgot k) are sound = forget_sound w k (get w.links k) sound.game

-- ---- bytes that are not read

bytes_at : (o : Option Unread) (u v : Unread) → o ≡ Some u → o ≡ Some v → IsBytes u.rest →
    IsBytes v.rest
bytes_at o u v here there are =
    subst (λ (x : Unread). IsBytes x.rest) (some_is u v (sym here ∙ there)) are

came_bytes : (k : ℕ) (e : Event) (bytes : List ℕ) → e ≡ came k bytes → IsEvent e → IsBytes bytes
came_bytes k e bytes is are = subst IsEvent is are

unread_sound : (w : World) (e : Event) (k : ℕ) (u : Unread) → IsEvent e → SoundWorld w →
    get (step w e).world.unread k ≡ Some u → OneStep k w e → IsBytes u.rest
unfolding step
unread_sound w e k u are sound there (rests st none) = sound.unread k u (sym st.unread ∙ there)
unread_sound w e k u are sound there (reads bytes l is here sits none) =
    bytes_at _ _ u sits.unread there
    (any_bytes w k l bytes here sound (came_bytes k e bytes is are)).rest
unread_sound w e k u are sound there (departs cause l wordless here sits none) =
    bytes_at _ _ u sits.unread there (unread_bytes w k sound)
unread_sound w e k u are sound there (takes n l here sits none) =
    bytes_at _ _ u sits.unread there (unread_bytes w k sound)
unread_sound w e k u are sound there (comes c none) = sound.unread k u (sym c.unread ∙ there)
unread_sound w e k u are sound there (goes l g none) = absurd (none_some _ u g.unread there)
unread_sound w e k u are sound there (ticks is) = sound.unread k u
    (sym (ap (λ (x : Event). get (step w x).world.unread k) is
    ∙ ap (λ m. get m k) (tick_unread w)) ∙ there)

-- ---- what was shown

pub last_fits : (o : Option Sight) → ((s : Sight) → o ≡ Some s → SightFits s) →
    SightFits (last_shown o)
last_fits None each = nothing_fits
last_fits (Some s) each = each s refl

shown_by_tick : (w : World) (k : ℕ) (s : Sight) → SoundWorld w →
    get (tick w).world.shown k ≡ Some s → SightFits s
shown_by_tick w k s sound there =
    at_player (get (at_tick w).game.players k) (sym (tick_shown w k) ∙ there)
  where
    last : Sight
    last = last_shown (get w.shown k)

    at_player : (o : Option Player) →
        option_map (λ (p : Player). sight_of (at_tick w).game p (last_shown (get w.shown k))) o
        ≡ Some s → SightFits s
    at_player None e = absurd cc
    at_player (Some p) e = subst SightFits (some_is _ s e)
        (sight_fits (at_tick w).game p last (at_tick_sound w sound.game)
        (at_tick_world w sound.good).windows
        (last_fits (get w.shown k) (sound.shown k)).chat)

shown_sound : (w : World) (e : Event) (k : ℕ) (s : Sight) → SoundWorld w →
    get (step w e).world.shown k ≡ Some s → OneStep k w e → SightFits s
unfolding step
shown_sound w e k s sound there (rests st none) = sound.shown k s (sym st.shown ∙ there)
shown_sound w e k s sound there (reads bytes l is here sits none) =
    sound.shown k s (sym sits.shown ∙ there)
shown_sound w e k s sound there (departs cause l wordless here sits none) =
    sound.shown k s (sym sits.shown ∙ there)
shown_sound w e k s sound there (takes n l here sits none) =
    sound.shown k s (sym sits.shown ∙ there)
shown_sound w e k s sound there (comes c none) = sound.shown k s (sym c.shown ∙ there)
shown_sound w e k s sound there (goes l g none) = absurd (none_some _ s g.shown there)
shown_sound w e k s sound there (ticks is) = shown_by_tick w k s sound
    (sym (ap (λ (x : Event). get (step w x).world.shown k) is) ∙ there)

-- ---- along runs

pub step_sound : (w : World) (e : Event) → IsEvent e → SoundWorld w →
    SoundWorld (step w e).world
step_sound w e are sound = record {
  good = step_good w e sound.good;
  game = game_sound w e are sound;
  shown = λ k s there. shown_sound w e k s sound there (one_step w e k sound.good);
  unread = λ k u there. unread_sound w e k u are sound there (one_step w e k sound.good);
}

pub new_world_sound : (start : Start) → AreSettings start.settings.players start.settings.cap →
    SoundWorld (new_world start)
new_world_sound start are = record {
  good = new_good start;
  game = new_sound start.settings (length (plans_of start)) (few_mobs start) are;
  shown = λ k s there. absurd (none_some _ s (get-empty nat_cmp k) there);
  unread = λ k u there. absurd (none_some _ u (get-empty nat_cmp k) there);
}

pub run_sound : (events : List Event) (w : World) → AreBytes events → SoundWorld w →
    SoundWorld (history w events)
run_sound [] w are sound = sound
run_sound (e ∷ events) w are sound =
    let parts = first_bytes e events are in
    run_sound events (step w e).world parts.1 (step_sound w e parts.0 sound)
