-- All laws of a run in one.
use Rattle.std.proofs.Common.{◌≡◌, ℕ, true, false, List, [], ◌∷◌, ◌++◌, Option, Some, None, refl}
use Rattle.std.proofs.Common.{sym, subst, ap, ◌∙◌}
use Rattle.std.specs.FinMap.{get}
use Rattle.mc_frame.specs.Cut.{Cut}
use Rattle.mc_frame.proofs.Cuts.{unique}
use Rattle.mc_model.specs.declared.stage.Stage.{Stage}
use Rattle.mc_model.specs.declared.stage.Stage.TheVariants as stages
use Rattle.mc_model.specs.declared.player.Player.{Player}
use Rattle.mc_model.specs.Decoding.{IsDecoded, decoder_of}
use Rattle.mc_model.specs.Packets.{Decoder, Sent, decoded_frames, played}
use Rattle.mc_model.specs.Replica.{new_replica, replay}
use Rattle.mc_model.specs.Run.{AreBytes, handed, history, received, stream}
use Rattle.mc_model.specs.Step.{Event, joined, came, left, broke, ticked, took, forgot, step}
use Rattle.mc_model.specs.Game.{AreSettings}
use Rattle.mc_model.specs.Minds.{Start}
use Rattle.mc_model.specs.Stages.{is_closed}
use Rattle.mc_model.specs.Link.{Link}
use Rattle.mc_model.specs.World.{new_world}
use Rattle.mc_model.specs.Tick.{at_tick}
use Rattle.mc_model.specs.Headline.{Closing, Headline, ShowsGame}
use Rattle.mc_model.proofs.Maps.Options.{none_some, some_is}
use Rattle.mc_laws.proofs.Apart.Senders.{only_sender}
use Rattle.mc_laws.proofs.Runs.Effects.{Effect, effect, ends, goes, hands, joins, rests, takes}
use Rattle.mc_laws.proofs.Runs.FirstCauses.{closing}
use Rattle.mc_laws.proofs.Runs.Lasting.{lasts}
use Rattle.mc_laws.proofs.Runs.Promises.{bytes_promised}
use Rattle.mc_laws.proofs.Runs.Worlds.{always_good}
use Rattle.mc_laws.proofs.Weighing.Runs.{always_even}
use Rattle.mc_laws.proofs.Decoding.Streams.{stream_decoded}
use Rattle.mc_laws.proofs.Shown.Showing.{run_shows}
use Rattle.mc_laws.proofs.Headline.Ticks.{after_tick_game, at_tick_hands}
use Rattle.mc_laws.proofs.Headline.Between.{between}
use Rattle.mc_laws.proofs.Headline.Logins.{logging_in}

-- ---- decoding

-- a client decodes bytes as one list of packets
pub one_decoded : (o : Option Decoder) (bytes : List ℕ) (ps qs : List Sent) → IsDecoded o bytes ps →
    IsDecoded o bytes qs → ps ≡ qs
one_decoded None bytes ps qs p q = p.1 ∙ sym q.1
one_decoded (Some decoder) bytes ps qs p q =
    let same : p.frames ≡ q.frames =
    ap (λ (cut : Cut). cut.frames)
    (unique 0 bytes p.frames [] None q.frames [] None p.is_cut q.is_cut) in
    some_is ps qs (sym p.are ∙ ap (decoded_frames decoder) same ∙ q.are)

-- what a client in play decodes shows the game in its view
pub decoded_shows : (start : Start) (events : List Event) (k : ℕ) (p : Player)
    (packets : List Sent) → AreSettings start.settings.players start.settings.cap →
    AreBytes (events ++ ticked ∷ []) →
    get (history (new_world start) (events ++ ticked ∷ [])).game.players k ≡ Some p →
    IsDecoded (decoder_of (received k (new_world start) (events ++ ticked ∷ [])))
    (stream k (new_world start) (events ++ ticked ∷ [])) packets →
    ShowsGame (at_tick (history (new_world start) events)) k
    (replay new_replica (played packets))
decoded_shows start events k p packets are bytes there decoded =
    let w = new_world start in
    let all = events ++ ticked ∷ [] in
    subst (λ (ps : List Sent). ShowsGame (at_tick (history w events)) k
    (replay new_replica (played ps)))
    (one_decoded (decoder_of (received k w all)) (stream k w all) (handed k w all) packets
    (stream_decoded start all k are bytes) decoded)
    (run_shows start events k p there)

-- ---- closing

-- a closed one
module _ (l : Link) (o q : Option Link) (is : o ≡ Some l) (shut : l.stage ≡ stages.Closed)
    (last : Option ℕ) (k : ℕ) where
  abbrev StaysShut : List Sent → Type 0
  StaysShut ps = (ps ≡ []) × ((m : Link) → q ≡ Some m →
      (m.stage ≡ stages.Closed) × (m.cause ≡ l.cause))

  same_as : (m : Link) → o ≡ Some m → m ≡ l
  same_as m too = some_is m l (sym too ∙ is)

  closed_at : (stage : Stage) → is_closed stage ≡ true → stage ≡ stages.Closed
  closed_at stages.Closed closed = refl
  closed_at other closed = absurd cc

  now_so : (m n : Link) → q ≡ Some m → m.stage ≡ stages.Closed → m.cause ≡ l.cause →
      q ≡ Some n → (n.stage ≡ stages.Closed) × (n.cause ≡ l.cause)
  now_so m n now stage cause there =
      let same = some_is m n (sym now ∙ there) in
      subst (λ (x : Link). (x.stage ≡ stages.Closed) × (x.cause ≡ l.cause)) same (stage, cause)

  shut_by : (ps : List Sent) (taken lost : List ℕ) → Effect k last o q ps taken lost →
      StaysShut ps
  shut_by ps taken lost (rests same none no_take no_loss) =
      (none, λ n there. now_so l n (same ∙ is) shut refl there)
  shut_by ps taken lost (hands a m there now open_ owes no_take no_loss) =
      (let clash : true ≡ false = sym (ap is_closed (ap (λ (x : Link). x.stage) (same_as a there)
      ∙ shut)) ∙ open_ in absurd cc)
  shut_by ps taken lost (goes a m there now owed closed caused kept none no_take loss) = (
    none,
    λ n too. now_so m n now (closed_at m.stage closed)
        (kept (ap (λ (x : Link). is_closed x.stage) (same_as a there) ∙ ap is_closed shut)
        ∙ ap (λ (x : Link). x.cause) (same_as a there)) too,
  )
  shut_by ps taken lost (takes n a m there now less none took_ no_loss) = (
    none,
    λ x too. now_so m x now
        (ap (λ (y : Link). y.stage) less ∙ ap (λ (y : Link). y.stage) (same_as a there) ∙ shut)
        (ap (λ (y : Link). y.cause) less ∙ ap (λ (y : Link). y.cause) (same_as a there)) too,
  )
  shut_by ps taken lost (joins m new gone now owed has none no_take no_loss) =
      absurd (none_some o l gone is)
  shut_by ps taken lost (ends a there closed owed now none no_take no_loss) =
      (none, λ n too. absurd (none_some q n now too))

pub closing_of : (start : Start) (events : List Event) (e : Event) →
    Closing (history (new_world start) events) e
closing_of start events e =
    let w = history (new_world start) events in
    let good = always_good start events in
    record {
      first = λ k cause none. closing w e k cause good
          (bytes_promised start events k).closed none;
      for_good = λ k l there shut. shut_by l (get w.links k) (get (step w e).world.links k) there
          shut w.last k _ _ _ (effect w e k good (bytes_promised start events k).closed);
      only_sender = λ j is. only_sender w e j is good;
    }

-- ---- all of it

-- the first of some events are bytes where all are
first_are_bytes : (events later : List Event) → AreBytes (events ++ later) → AreBytes events
first_are_bytes [] later are = tt
first_are_bytes (joined k ∷ events) later are = first_are_bytes events later are
first_are_bytes (came k bytes ∷ events) later are = (are.0, first_are_bytes events later are.1)
first_are_bytes (left k ∷ events) later are = first_are_bytes events later are
first_are_bytes (broke k ∷ events) later are = first_are_bytes events later are
first_are_bytes (ticked ∷ events) later are = first_are_bytes events later are
first_are_bytes (took k n ∷ events) later are = first_are_bytes events later are
first_are_bytes (forgot k ∷ events) later are = first_are_bytes events later are

pub headline : (start : Start) (log : List Event) →
    AreSettings start.settings.players start.settings.cap → AreBytes log → Headline start log
headline start log are bytes = record {
  shows = λ events later k p packets split there decoded.
      decoded_shows start events k p packets are
      (first_are_bytes (events ++ ticked ∷ []) later (subst AreBytes split bytes)) there decoded;
  decoded = λ events later k split. stream_decoded start events k are
      (first_are_bytes events later (subst AreBytes split bytes));
  good = λ events later split. always_good start events;
  promised = λ events later k split. bytes_promised start events k;
  stays = λ events e later k l split there. lasts k (history (new_world start) events) e l
      (always_good start events) (bytes_promised start events k).closed there;
  ticks = λ events later split.
      at_tick_hands (history (new_world start) events) (always_good start events);
  after = λ events later split.
      after_tick_game (history (new_world start) events) (always_good start events);
  between = λ events e later k p split playing no_tick.
      between (history (new_world start) events) e k p (always_good start events) playing
      no_tick;
  logging_in = λ events e later k l split there at.
      logging_in (history (new_world start) events) e k l (always_good start events) there
      at;
  closing = λ events e later split. closing_of start events e;
  balance = λ events later split. always_even start events;
}
