-- What was handed to a connection is what its client decodes from the bytes of it, by the first
-- frame of the bytes that came from it.
use Rattle.std.proofs.Common.{◌≡◌, ℕ, true, false, List, [], ◌∷◌, ◌++◌, map, Option, Some, None}
use Rattle.std.proofs.Common.{refl, sym, subst, ap, ◌∙◌, append_assoc, arith, ◌≤◌}
use Rattle.std.specs.Prelude.{is_some, option_map, if◌then◌else◌}
use Rattle.std.specs.Ordering.{nat_cmp}
use Rattle.std.specs.FinMap.{get, get-empty}
use Rattle.std.proofs.lemmas.List.{append-nil}
use Rattle.mc_bytes.specs.Reading.{IsBytes}
use Rattle.mc_model.specs.declared.cause.Cause.{Cause}
use Rattle.mc_model.specs.declared.cause.Cause.TheVariants as causes
use Rattle.mc_model.specs.declared.stage.Stage.{Stage}
use Rattle.mc_model.specs.declared.stage.Stage.TheVariants as stages
use Rattle.mc_model.specs.declared.player.Player.{Player}
use Rattle.mc_model.specs.Decoding.{IsDecoded, decoder_of}
use Rattle.mc_model.specs.Packets.{Decoder, Sent, bytes_of, of_play}
use Rattle.mc_model.specs.Run.{AreBytes, to, handed, received, received_at, stream}
use Rattle.mc_model.specs.Step.{Event, ticked, is_new, is_crowded, joining, on_bytes, step}
use Rattle.mc_model.specs.Talk.{farewell}
use Rattle.mc_model.specs.Game.{AreSettings}
use Rattle.mc_model.specs.Minds.{Start}
use Rattle.mc_model.specs.Stages.{is_closed, is_play}
use Rattle.mc_model.specs.Link.{Handing, Link, gone, mark_closed, new_link}
use Rattle.mc_model.specs.Showing.{due}
use Rattle.mc_model.specs.World.{Unread, World, new_world, seat_of, unread_of}
use Rattle.mc_model.specs.Tick.{at_tick, awaiting, grown, tick, tick_hands}
use Rattle.mc_model.specs.Good.{GoodWorld, in_play}
use Rattle.mc_model.proofs.Decodes.{decodes_bytes}
use Rattle.mc_model.proofs.FitsBytes.{bytes_joined}
use Rattle.mc_model.proofs.Maps.Options.{none_some, some_is}
use Rattle.mc_laws.proofs.StageDecoding.{AreDecoded, DecodesAt, Hands, at_decoded, decodes_at_more}
use Rattle.mc_laws.proofs.StageDecoding.{hands_farewell, hands_play, hands_same, hands_shut}
use Rattle.mc_laws.proofs.StageDecoding.{none_decoded}
use Rattle.mc_laws.proofs.Walk.Handings.{gone_closed, hand_cases}
use Rattle.mc_laws.proofs.Walk.Steps.{step_moves}
use Rattle.mc_laws.proofs.Walk.Ticking.{after_tick, tick_cases, tick_handed, tick_link, tick_unread}
use Rattle.mc_laws.proofs.Apart.Outs.{handed_by}
use Rattle.mc_laws.proofs.Runs.OneSteps.{OneStep, comes, departs, goes, one_step, reads, rests}
use Rattle.mc_laws.proofs.Runs.OneSteps.{takes, ticks}
use Rattle.mc_laws.proofs.Runs.Promises.{still_new}
use Rattle.mc_laws.proofs.Runs.Worlds.{at_tick_world}
use Rattle.mc_laws.proofs.Fits.Clear.{clear_decodes, due_clear}
use Rattle.mc_laws.proofs.Decoding.Frames.{bytes_decode}
use Rattle.mc_laws.proofs.Decoding.Worlds.{IsEvent, SoundWorld, at_tick_sound, first_bytes}
use Rattle.mc_laws.proofs.Decoding.Worlds.{last_fits, new_world_sound, rest_in, step_sound}
use Rattle.mc_laws.proofs.Decoding.Worlds.{unread_bytes, world_seat}

-- what came from a connection up to a world of a run, and what was handed to it: by the first of
-- those bytes its client decodes these packets
pub record Decoded (k : ℕ) (w : World) (bytes : List ℕ) (packets : List Sent) : Type 0 where
  pub here : (l : Link) → get w.links k ≡ Some l → DecodesAt (decoder_of bytes) l.stage packets
  pub waits : (l : Link) → get w.links k ≡ Some l → l.stage ≡ stages.Hand →
      bytes ≡ (unread_of k w).rest
  pub early : is_new k w.last ≡ true →
      (packets ≡ []) × (bytes ≡ []) × (get w.unread k ≡ None)
  pub decoded : AreDecoded (decoder_of bytes) packets
  pub are : IsBytes bytes

-- with others that are the same
as_is : (k : ℕ) (v : World) (xs ys : List ℕ) (ps qs : List Sent) → xs ≡ ys → ps ≡ qs →
    Decoded k v xs ps → Decoded k v ys qs
as_is k v xs ys ps qs same alike d =
    subst (λ (zs : List ℕ). Decoded k v zs qs) same
    (subst (λ (rs : List Sent). Decoded k v xs rs) alike d)

-- its link changed, and it was handed what it can be
changed_so : (k : ℕ) (v : World) (l m : Link) (bytes : List ℕ) (packets more : List Sent) →
    GoodWorld v → get v.links k ≡ Some m → DecodesAt (decoder_of bytes) l.stage packets →
    Hands (decoder_of bytes) l.stage m.stage more →
    (m.stage ≡ stages.Hand → bytes ≡ (unread_of k v).rest) → IsBytes bytes →
    Decoded k v bytes (packets ++ more)
changed_so k v l m bytes packets more good there before hands waits are =
    let now = hands packets before in
    record {
      here = λ n is. subst (λ (x : Link).
          DecodesAt (decoder_of bytes) x.stage (packets ++ more))
          (some_is m n (sym there ∙ is)) now;
      waits = λ n is at. waits (ap (λ (x : Link). x.stage) (some_is m n (sym there ∙ is)) ∙ at);
      early = λ new. absurd (none_some _ m (good.fresh k new) there);
      decoded = at_decoded (decoder_of bytes) m.stage (packets ++ more) now;
      are = are;
    }

-- ---- its own turns

-- whoever goes does not wait for its first frame
not_first : (stage : Stage) → is_closed stage ≡ true → stage ≡ stages.Hand → ⊥
not_first stage closed at = (let clash : false ≡ true = sym (ap is_closed at) ∙ closed in cc)

gone_hands : (o : Option Decoder) (cause : Cause) (l : Link) →
    Hands o l.stage (gone cause l).stage []
gone_hands o cause l = elim (is_closed l.stage) as (λ b. Hands o l.stage (if b
    then record l { owed = [] } else record (mark_closed l cause) { owed = [] }).stage []) [
      | true ↦ hands_same o l.stage
      | false ↦ hands_shut o l.stage
    ]

-- one that came
joins_decoded : (o : Option Decoder) (w : World) (packets : List Sent) → packets ≡ [] →
    DecodesAt o (joining w).stage packets
joins_decoded o w packets none = elim (is_crowded w) as (λ b. DecodesAt o
    (if b then mark_closed new_link causes.Crowded else new_link).stage packets) [
      | true ↦ none_decoded o packets none
      | false ↦ none
    ]

-- ---- a tick

-- what a tick makes of a link: it is handed what it can be
record TickHands (o : Option Decoder) (l : Link) (h : Handing) : Type 0 where
  hands : Hands o l.stage h.link.stage h.handed
  waits : h.link.stage ≡ stages.Hand → l.stage ≡ stages.Hand

-- who has a player is in play
plays_at : (stage : Stage) → is_play stage ≡ true → stage ≡ stages.Play
plays_at stages.Play is = refl
plays_at other is = absurd cc

pub has_stage : (w : World) (k : ℕ) (l : Link) (p : Player) → GoodWorld w →
    get w.links k ≡ Some l → get w.game.players k ≡ Some p → l.stage ≡ stages.Play
has_stage w k l p good there plays = plays_at l.stage
    (sym (sym (ap is_some plays) ∙ good.plays k ∙ ap in_play there))

tick_hands_so : (o : Option Decoder) (w : World) (k : ℕ) (l : Link) → SoundWorld w →
    get w.links k ≡ Some l → TickHands o l (after_tick w k l)
tick_hands_so o w k l sound there = tick_cases w k l (TickHands o l) there
    (λ nobody. record { hands = hands_same o l.stage; waits = λ at. at })
    (λ p plays. ap is_closed (stage p plays))
    (λ p plays quiet_. hand_cases (mark_closed l causes.Silent) (farewell l.stage causes.Silent)
    (TickHands o l)
    (λ fits. record { hands = hands_farewell o l.stage causes.Silent; waits = λ at. absurd cc })
    (λ much. record { hands = hands_shut o l.stage; waits = λ at. absurd cc }))
    (λ p plays speaks. hand_cases (awaiting (grown w.game) (get w.shown k) l)
    (map of_play (due (at_tick w).game (get w.shown k) p)) (TickHands o l)
    (λ fits. record { hands = due_hands p plays; waits = λ at. at })
    (λ much. record { hands = hands_shut o l.stage; waits = λ at. absurd cc }))
  where
    stage : (p : Player) → get w.game.players k ≡ Some p → l.stage ≡ stages.Play
    stage p plays = has_stage w k l p sound.good there plays

    small : (p : Player) → get w.game.players k ≡ Some p → p.eid ≤ 2147483647
    small p plays =
        let given = (sound.game.good.own k p plays).given in
        let few = sound.game.told.few in
        omega (arith, given, few)

    due_hands : (p : Player) → get w.game.players k ≡ Some p →
        Hands o l.stage l.stage (map of_play (due (at_tick w).game (get w.shown k) p))
    due_hands p plays = subst (λ (at : Stage). Hands o at at
        (map of_play (due (at_tick w).game (get w.shown k) p))) (sym (stage p plays))
        (hands_play o _ (clear_decodes (due (at_tick w).game (get w.shown k) p)
        (due_clear (at_tick w).game (get w.shown k) p (at_tick_sound w sound.game)
        (at_tick_world w sound.good).windows (small p plays) (sound.game.players k p plays).notes
        (last_fits (get w.shown k) (sound.shown k)))))

tick_decoded : (k : ℕ) (w : World) (bytes : List ℕ) (packets : List Sent) → SoundWorld w →
    GoodWorld (tick w).world → (is_new k (tick w).world.last ≡ true → is_new k w.last ≡ true) →
    Decoded k w bytes packets → Decoded k (tick w).world bytes (packets ++ to k (tick w).out)
tick_decoded k w bytes packets sound good old d = at_link (get w.links k) refl
  where
    unread_stays : (unread_of k (tick w).world).rest ≡ (unread_of k w).rest
    unread_stays = ap (λ m. rest_in (get m k)) (tick_unread w)

    at_link : (o : Option Link) → get w.links k ≡ o →
        Decoded k (tick w).world bytes (packets ++ to k (tick w).out)
    at_link None is =
        let now = tick_link w k
        ∙ ap (option_map (λ (l : Link). (after_tick w k l).link)) is in
        let none = tick_handed w k
        ∙ ap (handed_by (λ (j : ℕ) (l : Link). tick_hands w j l) k) is in
        as_is k (tick w).world bytes bytes packets _ refl
        (sym (ap (λ (ps : List Sent). packets ++ ps) none ∙ append-nil packets)) (record {
          here = λ l there. absurd (none_some _ l now there);
          waits = λ l there. absurd (none_some _ l now there);
          early = λ new. let e = d.early (old new) in
              (e.0, e.1, ap (λ m. get m k) (tick_unread w) ∙ e.2);
          decoded = d.decoded;
          are = d.are;
        })
    at_link (Some l) is =
        let now = tick_link w k
        ∙ ap (option_map (λ (l : Link). (after_tick w k l).link)) is in
        let handed_is = tick_handed w k
        ∙ ap (handed_by (λ (j : ℕ) (l : Link). tick_hands w j l) k) is in
        let t = tick_hands_so (decoder_of bytes) w k l sound is in
        as_is k (tick w).world bytes bytes _ _ refl
        (ap (λ (ps : List Sent). packets ++ ps) (sym handed_is))
        (changed_so k (tick w).world l (after_tick w k l).link bytes packets
        (after_tick w k l).handed good now (d.here l is) t.hands
        (λ at. d.waits l is (t.waits at) ∙ sym unread_stays) d.are)

-- ---- any event

module _ (k : ℕ) (w : World) (e : Event) (bytes : List ℕ) (packets : List Sent)
    (event : IsEvent e) (sound : SoundWorld w) (good : GoodWorld (step w e).world)
    (d : Decoded k w bytes packets) where
  old : is_new k (step w e).world.last ≡ true → is_new k w.last ≡ true
  old = still_new w (step w e) k (step_moves w e)

  abbrev Next : Type 0
  Next = Decoded k (step w e).world (bytes ++ received_at k w e)
      (packets ++ to k (step w e).out)

  none_came : received_at k w e ≡ [] → bytes ≡ bytes ++ received_at k w e
  none_came none = sym (ap (λ (bs : List ℕ). bytes ++ bs) none ∙ append-nil bytes)

  none_handed : to k (step w e).out ≡ [] → packets ≡ packets ++ to k (step w e).out
  none_handed none = sym (ap (λ (ps : List Sent). packets ++ ps) none ∙ append-nil packets)

  quiet_turn : (l m : Link) (u : Unread) → get w.links k ≡ Some l →
      get (step w e).world.links k ≡ Some m → get (step w e).world.unread k ≡ Some u →
      to k (step w e).out ≡ [] → received_at k w e ≡ [] →
      Hands (decoder_of bytes) l.stage m.stage [] →
      (m.stage ≡ stages.Hand → (l.stage ≡ stages.Hand) × (u ≡ unread_of k w)) → Next
  quiet_turn l m u there now unread none no_bytes hands waits =
      as_is k (step w e).world bytes _ _ _ (none_came no_bytes)
      (ap (λ (ps : List Sent). packets ++ ps) (sym none))
      (changed_so k (step w e).world l m bytes packets [] good now (d.here l there) hands
      (λ at. let was = waits at in d.waits l there was.0
      ∙ ap (λ (x : Unread). x.rest) (sym was.1) ∙ ap rest_in (sym unread)) d.are)

  decoded_next : OneStep k w e → Next
  unfolding step
  decoded_next (rests st none) =
      as_is k (step w e).world bytes _ packets _ (none_came none) (none_handed st.handed) (record {
        here = λ l there. d.here l (sym st.link ∙ there);
        waits = λ l there at. d.waits l (sym st.link ∙ there) at ∙ ap rest_in (sym st.unread);
        early = λ new. let e = d.early (old new) in (e.0, e.1, st.unread ∙ e.2);
        decoded = d.decoded;
        are = d.are;
      })
  decoded_next (reads more l is there sits came_) =
      let s = seat_of w k l in
      let all = bytes ++ more in
      let are = subst IsEvent is event in
      let h = bytes_decode (decoder_of all) k s more (world_seat w k l there sound)
      (unread_bytes w k sound) are
      (λ at. ap (λ (bs : List ℕ). decoder_of (bs ++ more)) (sym (d.waits l there at))) in
      as_is k (step w e).world all _ _ _
      (ap (λ (bs : List ℕ). bytes ++ bs) (sym came_))
      (ap (λ (ps : List Sent). packets ++ ps) (sym sits.handed))
      (changed_so k (step w e).world l (on_bytes k s more).seat.link all packets
      (on_bytes k s more).handed good sits.link
      (decodes_at_more bytes more l.stage packets d.are (d.here l there)) h.hands
      (λ at. let was = h.waits at in
      ap (λ (bs : List ℕ). bs ++ more) (d.waits l there was.0)
      ∙ sym was.1 ∙ ap rest_in (sym sits.unread))
      (bytes_joined bytes more d.are are))
  decoded_next (departs cause l wordless there sits none) =
      quiet_turn l (gone cause l) (unread_of k w) there sits.link sits.unread sits.handed none
      (gone_hands (decoder_of bytes) cause l)
      (λ at. absurd (not_first (gone cause l).stage (gone_closed cause l) at))
  decoded_next (takes n l there sits none) =
      quiet_turn l _ (unread_of k w) there sits.link sits.unread sits.handed none
      (hands_same (decoder_of bytes) l.stage) (λ at. (at, refl))
  decoded_next (comes c none) =
      let early = d.early c.new in
      as_is k (step w e).world bytes _ packets _ (none_came none) (none_handed c.handed) (record {
        here = λ l there. subst (λ (x : Link). DecodesAt (decoder_of bytes) x.stage packets)
            (some_is (joining w) l (sym c.link ∙ there))
            (joins_decoded (decoder_of bytes) w packets early.0);
        waits = λ l there at. early.1 ∙ ap rest_in (sym (c.unread ∙ early.2));
        early = λ new. absurd (none_some _ (joining w) (good.fresh k new) c.link);
        decoded = d.decoded;
        are = d.are;
      })
  decoded_next (goes l g none) =
      as_is k (step w e).world bytes _ packets _ (none_came none) (none_handed g.handed) (record {
        here = λ m there. absurd (none_some _ m g.link there);
        waits = λ m there. absurd (none_some _ m g.link there);
        early = λ new. absurd (none_some _ l (sound.good.fresh k (old new)) g.there);
        decoded = d.decoded;
        are = d.are;
      })
  decoded_next (ticks is) = at_tick_so e is good old
    where
      at_tick_so : (e : Event) → e ≡ ticked → GoodWorld (step w e).world →
          (is_new k (step w e).world.last ≡ true → is_new k w.last ≡ true) →
          Decoded k (step w e).world (bytes ++ received_at k w e) (packets ++ to k (step w e).out)
      at_tick_so e is good before = subst (λ (x : Event). GoodWorld (step w x).world →
          (is_new k (step w x).world.last ≡ true → is_new k w.last ≡ true) →
          Decoded k (step w x).world (bytes ++ received_at k w x)
          (packets ++ to k (step w x).out)) (sym is)
          (λ good old. as_is k (tick w).world bytes _ _ _ (sym (append-nil bytes)) refl
          (tick_decoded k w bytes packets sound good old d)) good before

-- ---- along runs

run_decoded : (k : ℕ) (events : List Event) (w : World) (bytes : List ℕ) (packets : List Sent) →
    AreBytes events → SoundWorld w → Decoded k w bytes packets →
    AreDecoded (decoder_of (bytes ++ received k w events)) (packets ++ handed k w events)
run_decoded k [] w bytes packets are sound d =
    subst (λ (bs : List ℕ). AreDecoded (decoder_of bs) (packets ++ [])) (sym (append-nil bytes))
    (subst (AreDecoded (decoder_of bytes)) (sym (append-nil packets)) d.decoded)
run_decoded k (e ∷ events) w bytes packets are sound d =
    let parts = first_bytes e events are in
    let v = (step w e).world in
    let after_ = step_sound w e parts.0 sound in
    let next = decoded_next k w e bytes packets parts.0 sound after_.good d
    (one_step w e k sound.good) in
    subst (λ (bs : List ℕ). AreDecoded (decoder_of bs) (packets ++ handed k w (e ∷ events)))
    (append_assoc bytes (received_at k w e) (received k v events))
    (subst (AreDecoded (decoder_of ((bytes ++ received_at k w e) ++ received k v events)))
    (append_assoc packets (to k (step w e).out) (handed k v events))
    (run_decoded k events v (bytes ++ received_at k w e) (packets ++ to k (step w e).out)
    parts.1 after_ next))

nothing_decoded : (k : ℕ) (start : Start) → Decoded k (new_world start) [] []
nothing_decoded k start = record {
  here = λ l there. absurd (none_some _ l (get-empty nat_cmp k) there);
  waits = λ l there. absurd (none_some _ l (get-empty nat_cmp k) there);
  early = λ new. (refl, refl, get-empty nat_cmp k);
  decoded = none_decoded (decoder_of []) [] refl;
  are = λ i. omega arith;
}

-- packets that a client decodes are decoded from their bytes
decoded_so : (o : Option Decoder) (packets : List Sent) → AreDecoded o packets →
    IsDecoded o (bytes_of packets) packets
decoded_so None packets none = (ap bytes_of none, none)
decoded_so (Some decoder) packets h = decodes_bytes decoder h.0 packets h.1

pub stream_decoded : (start : Start) (events : List Event) (k : ℕ) →
    AreSettings start.settings.players start.settings.cap → AreBytes events →
    IsDecoded (decoder_of (received k (new_world start) events))
    (stream k (new_world start) events) (handed k (new_world start) events)
stream_decoded start events k are bytes =
    let w = new_world start in
    decoded_so (decoder_of (received k w events)) (handed k w events)
    (run_decoded k events w [] [] bytes (new_world_sound start are)
    (nothing_decoded k start))
