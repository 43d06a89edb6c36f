-- A client that is followed record by record: what was read, and what the client came to.
use Rattle.std.proofs.Common.{◌≡◌, ℕ, ◌+◌, ◌==◌, List, [], ◌∷◌, ◌++◌, length, refl, sym, subst}
use Rattle.std.proofs.Common.{ap, ◌∙◌, append_assoc, arith, Option, Bool, true, false}
use Rattle.std.proofs.Common.{◌⊎◌, inl, inr}
use Rattle.std.specs.Prelude.{if◌then◌else◌, Result, Ok, Err, OnErr, IfErr}
use Rattle.std.proofs.lemmas.List.{append-nil}
use Rattle.std.proofs.lemmas.List.Sums.{fold-append}
use Rattle.mc_wire.specs.Count.{Rose, StandsOrRises}
use Rattle.mc_wire.specs.Stream.{Consumes, Grows, IsAtEnd}
use Rattle.mc_packets.specs.declared.down.Down.{Down}
use Rattle.mc_capture.specs.declared.fault.CaptureEnd.{CaptureEnd}
use Rattle.mc_capture.specs.declared.fault.CaptureEnd.TheVariants as ends
use Rattle.mc_capture.specs.declared.record.Record.{Record}
use Rattle.mc_capture.specs.declared.states.Way.TheVariants.{Up, Down as ToClient}
use Rattle.mc_capture.specs.Gathering.{WritesPart}
use Rattle.mc_capture.specs.Grammar.{IsRecord, capture_head, record_bytes}
use Rattle.mc_capture.specs.Reading.{EndsHead, EndsSo, kept_place}
use Rattle.mc_capture.specs.Talks.{Hearing, Talk, hearing_of, new_talk, with_hearing}
use Rattle.mc_capture.specs.Viewed.{Begins, Faults, IsNumbered, end_of}
use Rattle.mc_capture.specs.Viewed.IsRead.{headed, headless}
use Rattle.mc_capture.specs.ViewText.{after_record, talk_behind, talk_of}
use Rattle.mc_capture.proofs.ViewSteps.{after_up, begins_next, place_next}
use Rattle.mc_capture.proofs.ViewSteps.{rose_later, talk_one_more, wrong_there}
use Rattle.mc_model.specs.Replica.{Replica, apply, new_replica, replay}
use Rattle.mc_replica.specs.Dump.{dump_text}
use Rattle.mc_show.specs.Following.{Brings, Followed, first_followed, followed_after, followed_by}
use Rattle.mc_show.specs.PlayPackets.{heard_packets, packets_behind, play_packets, record_packets}
use Rattle.mc_show.specs.Shown.{EndsFollowing, EndsShow, IsFollowed}
use Rattle.mc_show.specs.Shown.{ShowsClient, ShowsInPart}
use Rattle.mc_show.specs.ShowText.{show_text}
use Rattle.mc_show.proofs.Packets.{packets_up}

-- ---- a record of the client's connection

-- the packets of one by its kind
packets_of_kind : (talk : Talk) (r : Record) (kind : ℕ) → r.kind ≡ kind
    → record_packets talk r
    ≡ (if kind == 4 then heard_packets r.connection ToClient (hearing_of ToClient talk) r.bytes
    else [])
packets_of_kind talk r kind is = ap (λ (n : ℕ).
    if n == 4 then heard_packets r.connection ToClient (hearing_of ToClient talk) r.bytes
    else []) is

pub up_taken : (f : Followed) (r : Record) (next : Hearing) (world : Replica)
    → r.kind ≡ 1
    → Brings Up (hearing_of Up f.talk) r.bytes next f.world world
    → record { talk = with_hearing Up next f.talk; world = world } ≡ followed_by f r
up_taken f r next world kind b =
    let talk : with_hearing Up next f.talk ≡ after_record f.talk r =
    ap (λ (h : Hearing). with_hearing Up h f.talk) (sym (b.heard r.connection))
    ∙ after_up f.talk r r.bytes kind refl in
    let same : world ≡ replay f.world (record_packets f.talk r) =
    b.shows r.connection
    ∙ ap (replay f.world) (packets_up r.connection (hearing_of Up f.talk) r.bytes
    ∙ sym (packets_of_kind f.talk r 1 kind)) in
    ap (λ (t : Talk). record { talk = t; world = world }) talk
    ∙ ap (λ (w : Replica). record { talk = after_record f.talk r; world = w }) same

-- ---- one record more

packets_one_more : (k : ℕ) (talk : Talk) (records : List Record) (r : Record)
    → packets_behind k talk (records ++ r ∷ [])
    ≡ packets_behind k talk records
    ++ (if r.connection == k then record_packets (talk_behind k talk records) r else [])
packets_one_more k talk [] r = step (r.connection == k)
  where
    step : (own : Bool) → (if own then record_packets talk r ++ [] else [])
        ≡ (if own then record_packets talk r else [])
    step true = append-nil (record_packets talk r)
    step false = refl
packets_one_more k talk (q ∷ records) r =
    step (q.connection == k) (λ t. packets_one_more k t records r)
  where
    last : Talk → List Down
    last t = if r.connection == k then record_packets (talk_behind k t records) r else []

    step : (own : Bool)
        → ((t : Talk) → packets_behind k t (records ++ r ∷ [])
        ≡ packets_behind k t records ++ last t)
        → (if own then record_packets talk q ++ packets_behind k (after_record talk q)
        (records ++ r ∷ []) else packets_behind k talk (records ++ r ∷ []))
        ≡ (if own then record_packets talk q ++ packets_behind k (after_record talk q) records
        else packets_behind k talk records)
        ++ last (if own then after_record talk q else talk)
    step true more =
        ap (λ (ps : List Down). record_packets talk q ++ ps) (more (after_record talk q))
        ∙ sym (append_assoc (record_packets talk q)
        (packets_behind k (after_record talk q) records) (last (after_record talk q)))
    step false more = more talk

followed_one_more : (k : ℕ) (records : List Record) (r : Record)
    → followed_after k (records ++ r ∷ [])
    ≡ (if r.connection == k then followed_by (followed_after k records) r
    else followed_after k records)
followed_one_more k records r =
    ap (λ (t : Talk). record {
      talk = t;
      world = replay new_replica (play_packets k (records ++ r ∷ []));
    }) (talk_one_more k new_talk records r)
    ∙ ap (λ (w : Replica). record {
      talk = if r.connection == k then after_record (talk_of k records) r else talk_of k records;
      world = w;
    })
    (ap (replay new_replica) (packets_one_more k new_talk records r)
    ∙ fold-append apply new_replica (play_packets k records)
    (if r.connection == k then record_packets (talk_of k records) r else []))
    ∙ step (r.connection == k)
  where
    step : (own : Bool) → record {
      talk = if own then after_record (talk_of k records) r else talk_of k records;
      world = replay (replay new_replica (play_packets k records))
          (if own then record_packets (talk_of k records) r else []);
    }
        ≡ (if own then followed_by (followed_after k records) r else followed_after k records)
    step true = refl
    step false = refl

-- ---- on the way

-- these records were read, and the client is as they leave it
pub record IsFollowing (k : ℕ) (old left : Option (List ℕ)) (at : ℕ) (f : Followed) : Type 0 where
  pub records : List Record
  pub begins : Begins old left records
  pub place : at ≡ kept_place (end_of records)
  pub stands : f ≡ followed_after k records

pub following_first : (k : ℕ) (old left : Option (List ℕ)) (at : ℕ) (f : Followed)
    → Consumes old left capture_head
    → at ≡ 8
    → f ≡ first_followed
    → IsFollowing k old left at f
following_first k old left at f head place new =
    let P : List ℕ → Type 0 = λ t. Consumes old left t in
    record {
      records = [];
      begins = record {
        are_records = tt;
        are_numbered = tt;
        consumed = subst P (sym (append-nil capture_head)) head;
      };
      place = omega (arith, place);
      stands = new;
    }

pub following_next : (k : ℕ) (old left new : Option (List ℕ)) (at next : ℕ) (f f' : Followed)
    (r : Record)
    → IsFollowing k old left at f
    → IsRecord r
    → IsNumbered r
    → Consumes left new (record_bytes r)
    → next ≡ kept_place (at + length (record_bytes r))
    → f' ≡ (if r.connection == k then followed_by f r else f)
    → IsFollowing k old new next f'
following_next k old left new at next f f' r i one numbered consumed place is = record {
  records = i.records ++ r ∷ [];
  begins = begins_next old left new i.records r i.begins one numbered consumed;
  place = place_next at next i.records r i.place place;
  stands = is
      ∙ ap (λ (g : Followed). if r.connection == k then followed_by g r else g) i.stands
      ∙ sym (followed_one_more k i.records r);
}

-- ---- where it ends

pub following_ends : (k : ℕ) (old left new : Option (List ℕ)) (at : ℕ) (f : Followed)
    → IsFollowing k old left at f
    → Consumes left new [] × IsAtEnd new
    → IsFollowed k f old new
following_ends k old left new at f i ends =
    record { records = i.records; reads = headed left i.begins ends; stands = i.stands }

pub head_ends : (end : CaptureEnd) (old new : Option (List ℕ)) (was is : ℕ)
    → EndsHead end old new was is
    → EndsFollowing end old new was is
head_ends (ends.Bad fault) old new was is e =
    record { records = []; reads = headless fault refl refl e }
head_ends ends.Read old new was is e = e
head_ends ends.Write old new was is e = e
head_ends ends.NoMemory old new was is e = tt

pub record_ends : (end : CaptureEnd) (k : ℕ) (old left new : Option (List ℕ)) (at : ℕ)
    (f : Followed) (first was is : ℕ)
    → IsFollowing k old left at f
    → StandsOrRises first was
    → EndsSo end at left new was is
    → EndsFollowing end old new first is
record_ends (ends.Bad fault) k old left new at f first was is i s e = record {
  records = i.records;
  reads = headed left i.begins (wrong_there fault at (end_of i.records) left new i.place e);
}
record_ends ends.Read k old left new at f first was is i s e = rose_later first was is s e
record_ends ends.Write k old left new at f first was is i s e = e
record_ends ends.NoMemory k old left new at f first was is i s e = tt

-- ---- what is written

show_is : (k : ℕ) (records : List Record) (f : Followed) → f ≡ followed_after k records
    → dump_text f.world ≡ show_text k records
unfolding show_text
show_is k records f stands = ap (λ (g : Followed). dump_text g.world) stands

pub client_shown : (k : ℕ) (f : Followed) (old new held held' : Option (List ℕ))
    → IsFollowed k f old new
    → Grows held held' (dump_text f.world)
    → ShowsClient k old new held held'
client_shown k f old new held held' i grown =
    let P : List ℕ → Type 0 = λ t. Grows held held' t in
    record {
      records = i.records;
      reads = i.reads;
      wrote = subst P (show_is k i.records f i.stands) grown;
    }

client_part : (k : ℕ) (f : Followed) (old new held held' : Option (List ℕ))
    → IsFollowed k f old new
    → WritesPart held held' (dump_text f.world)
    → ShowsInPart k old new held held'
client_part k f old new held held' i part =
    let P : List ℕ → Type 0 = λ t. WritesPart held held' t in
    record {
      records = i.records;
      reads = i.reads;
      wrote = subst P (show_is k i.records f i.stands) part;
    }

pub dump_ends : (r : Result (Unit {0}) CaptureEnd) (k : ℕ) (f : Followed)
    (old new held held' : Option (List ℕ)) (was is : Faults)
    → IsFollowed k f old new
    → IfErr r (λ end. ((end ≡ ends.Write) × Rose was.out is.out) ⊎ (end ≡ ends.NoMemory))
    → OnErr r (WritesPart held held' (dump_text f.world))
    → IfErr r (λ end. EndsShow k end old new held held' was is)
dump_ends (Ok done) k f old new held held' was is i why part = tt
dump_ends (Err end) k f old new held held' was is i (inl (write, rose)) part =
    let P : CaptureEnd → Type 0 = λ e. EndsShow k e old new held held' was is in
    subst P (sym write) (rose, client_part k f old new held held' i part)
dump_ends (Err end) k f old new held held' was is i (inr memory) part =
    let P : CaptureEnd → Type 0 = λ e. EndsShow k e old new held held' was is in
    subst P (sym memory) (inr (client_part k f old new held held' i part))
