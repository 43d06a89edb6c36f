-- Before each frame of the bytes of a connection stand first bytes of them, which are just the
-- frames before it: what was not read of a connection that is open is no whole frame.
use Rattle.std.proofs.Common.{◌≡◌, ℕ, ◌+◌, Bool, true, false, List, [], ◌∷◌, ◌++◌, Option, Some}
use Rattle.std.proofs.Common.{None, refl, sym, subst, ap, ◌∙◌, inl, inr, append_assoc, length}
use Rattle.std.proofs.Common.{arith}
use Rattle.std.specs.Prelude.{◌⊎◌, option_map, suc, zero, if◌then◌else◌}
use Rattle.std.specs.Ordering.{nat_cmp}
use Rattle.std.specs.FinMap.{get, get-empty}
use Rattle.std.proofs.lemmas.List.{append-nil}
use Rattle.mc_bytes.specs.Reading.{IsBytes}
use Rattle.mc_frame.specs.declared.fault.FrameFault.{FrameFault}
use Rattle.mc_frame.specs.Frame.{SpellsFrame}
use Rattle.mc_frame.specs.Cut.{Cut, Ends, IsCutAt, IsPart, SpellsFrames}
use Rattle.mc_frame.proofs.Cuts.{ends_no_frame, unique}
use Rattle.mc_frame.proofs.Stops.{nothing_part}
use Rattle.mc_model.specs.declared.cause.Cause.TheVariants as causes
use Rattle.mc_model.specs.Cutting.{cut_of}
use Rattle.mc_model.specs.Run.{AreBytes, history}
use Rattle.mc_model.specs.Step.{Event, is_new, disconnect_for, on_bytes, on_cut, on_fault}
use Rattle.mc_model.specs.Step.{on_frames, read_to, step, still}
use Rattle.mc_model.specs.Talk.{farewell}
use Rattle.mc_model.specs.Stages.{is_closed}
use Rattle.mc_model.specs.Link.{Handing, Link, gone}
use Rattle.mc_model.specs.Minds.{Start}
use Rattle.mc_model.specs.World.{Seat, Turn, Unread, World, new_world, seat_of}
use Rattle.mc_model.specs.World.{unread_of}
use Rattle.mc_model.specs.Tick.{tick}
use Rattle.mc_model.specs.Good.{GoodWorld, in_play}
use Rattle.mc_model.specs.Apart.{HasBadFrame, StandsBefore, cut_behind}
use Rattle.mc_model.proofs.CutFacts.{cut_of_bytes}
use Rattle.mc_model.proofs.FitsBytes.{bytes_joined, cut_bytes}
use Rattle.mc_model.proofs.Maps.Options.{not_both, none_some, some_is}
use Rattle.mc_laws.proofs.Walk.Each.{disconnect_closes}
use Rattle.mc_laws.proofs.Walk.Handings.{gone_closed, not_in_play}
use Rattle.mc_laws.proofs.Walk.Steps.{step_moves}
use Rattle.mc_laws.proofs.Walk.Ticking.{after_tick, tick_link, tick_unread}
use Rattle.mc_laws.proofs.Runs.OneSteps.{OneStep, comes, departs, goes, one_step, reads, rests}
use Rattle.mc_laws.proofs.Runs.OneSteps.{takes, ticks}
use Rattle.mc_laws.proofs.Runs.Promises.{still_new}
use Rattle.mc_laws.proofs.Runs.Seats.{nobody_yet}
use Rattle.mc_laws.proofs.Runs.Worlds.{new_good, step_good}
use Rattle.mc_laws.proofs.Apart.BadFrames.{frames_elsewhere}
use Rattle.mc_laws.proofs.Decoding.Worlds.{IsEvent, first_bytes, no_bytes, rest_in}
use Rattle.mc_laws.proofs.Headline.Ticks.{after_quiet}

-- ---- lists

-- of two ways to part a list, the front of one is the longer
pub parted : (xs ys us vs : List ℕ) → xs ++ ys ≡ us ++ vs →
    ((d : List ℕ) × (us ≡ xs ++ d) × (ys ≡ d ++ vs))
    ⊎ ((d : List ℕ) × (xs ≡ us ++ d) × (vs ≡ d ++ ys))
parted [] ys us vs e = inl (us, refl, e)
parted (x ∷ xs) ys [] vs e = inr (x ∷ xs, refl, sym e)
parted (x ∷ xs) ys (u ∷ us) vs e =
    let same : x ≡ u = cc in
    let rest : xs ++ ys ≡ us ++ vs = cc in
    elim (parted xs ys us vs rest) [
      | inl longer ↦ inl (
        longer.0,
        ap (λ (zs : List ℕ). u ∷ zs) longer.1
            ∙ ap (λ (z : ℕ). z ∷ (xs ++ longer.0)) (sym same),
        longer.2,
      )
      | inr shorter ↦ inr (
        shorter.0,
        ap (λ (zs : List ℕ). x ∷ zs) shorter.1
            ∙ ap (λ (z : ℕ). z ∷ (us ++ shorter.0)) same,
        shorter.2,
      )
    ]

-- the bytes of some frames, and of those behind them
pub record FramesPart (good later : List (List ℕ)) (bytes : List ℕ) : Type 0 where
  pub front : List ℕ
  pub back : List ℕ
  pub parts : bytes ≡ front ++ back
  pub framed : SpellsFrames good front

frames_part : (good later : List (List ℕ)) (bytes : List ℕ) → SpellsFrames (good ++ later) bytes →
    FramesPart good later bytes
frames_part [] later bytes s = record { front = []; back = bytes; parts = refl; framed = refl }
frames_part (frame ∷ good) later bytes s =
    let rest = frames_part good later s.1 s.4 in
    record {
      front = s.0 ++ rest.front;
      back = rest.back;
      parts = s.2 ∙ ap (λ (bs : List ℕ). s.0 ++ bs) rest.parts
          ∙ sym (append_assoc s.0 rest.front rest.back);
      framed = (s.0, rest.front, refl, s.3, rest.framed);
    }

-- ---- the bytes before a frame

-- a part of a frame has no whole frame in front
pub part_no_frame : (payload front rest : List ℕ) → SpellsFrame payload front →
    IsPart (front ++ rest) → ⊥
part_no_frame payload front rest s part = ends_no_frame 0 None payload front rest s part

-- bytes behind a part of a frame, of which the cut begins with these frames
pub record HasBefore (count : ℕ) (part bytes : List ℕ) (good : List (List ℕ)) : Type 0 where
  pub before : List ℕ
  pub more : List ℕ
  pub first : bytes ≡ before ++ more
  pub rest : List ℕ
  pub is_cut : IsCutAt count (part ++ before)
      (record { frames = good; rest = rest; fault = None })

no_good : (count : ℕ) (part bytes : List ℕ) → IsPart part → HasBefore count part bytes []
no_good count part bytes is = record {
  before = [];
  more = bytes;
  first = refl;
  rest = part ++ [];
  is_cut = record {
    front = [];
    parts = refl;
    framed = refl;
    ends = subst IsPart (sym (append-nil part)) is;
  };
}

some_good : (count : ℕ) (part bytes : List ℕ) (frame : List ℕ) (good later : List (List ℕ))
    (cut : Cut) → IsPart part → cut.frames ≡ (frame ∷ good) ++ later →
    IsCutAt count (part ++ bytes) cut → HasBefore count part bytes (frame ∷ good)
some_good count part bytes frame good later cut is split c =
    let p = frames_part (frame ∷ good) later c.front
    (subst (λ (fs : List (List ℕ)). SpellsFrames fs c.front) split c.framed) in
    let all : part ++ bytes ≡ p.front ++ (p.back ++ cut.rest) =
    c.parts ∙ ap (λ (bs : List ℕ). bs ++ cut.rest) p.parts
    ∙ append_assoc p.front p.back cut.rest in
    elim (parted part bytes p.front (p.back ++ cut.rest) all) [
      | inl longer ↦ record {
        before = longer.0;
        more = p.back ++ cut.rest;
        first = longer.2;
        rest = [];
        is_cut = record {
          front = p.front;
          parts = sym longer.1 ∙ sym (append-nil p.front);
          framed = p.framed;
          ends = nothing_part;
        };
      }
      | inr shorter ↦ absurd (part_no_frame frame p.framed.0 (p.framed.1 ++ shorter.0) p.framed.3
          (subst IsPart (shorter.1 ∙ ap (λ (bs : List ℕ). bs ++ shorter.0) p.framed.2
          ∙ append_assoc p.framed.0 p.framed.1 shorter.0) is))
    ]

has_before : (count : ℕ) (part bytes : List ℕ) (good later : List (List ℕ)) (cut : Cut) →
    IsPart part → cut.frames ≡ good ++ later → IsCutAt count (part ++ bytes) cut →
    HasBefore count part bytes good
has_before count part bytes [] later cut is split c = no_good count part bytes is
has_before count part bytes (frame ∷ good) later cut is split c =
    some_good count part bytes frame good later cut is split c

-- ---- what is not read

-- what is not read of an open connection is a part of a frame
pub record PartUnread (k : ℕ) (w : World) : Type 0 where
  pub good : GoodWorld w
  pub part : (l : Link) → get w.links k ≡ Some l → is_closed l.stage ≡ false →
      IsPart (unread_of k w).rest
  pub are : IsBytes (unread_of k w).rest
  pub early : is_new k w.last ≡ true → get w.unread k ≡ None

-- frames change nothing of what is not read
frames_unread : (k : ℕ) (s : Seat) (frames : List (List ℕ)) →
    (on_frames k s frames).seat.unread ≡ s.unread
frames_unread k s frames =
    ap (λ (t : Turn). t.seat.unread) (frames_elsewhere k frames s s.unread)

fault_unread : (k : ℕ) (s : Seat) (fault : Option FrameFault) →
    (on_fault k s fault).seat.unread ≡ s.unread
fault_unread k s None = refl
fault_unread k s (Some fault) = elim (is_closed s.link.stage) as (λ b. (if b then still s
    else disconnect_for k s (causes.Frame fault)).seat.unread ≡ s.unread)
    [ true ↦ refl | false ↦ refl ]

-- where it is open still, there was no fault
fault_open : (k : ℕ) (s : Seat) (fault : Option FrameFault) →
    is_closed (on_fault k s fault).seat.link.stage ≡ false → fault ≡ None
fault_open k s None open_ = refl
fault_open k s (Some fault) open_ = step_at (is_closed s.link.stage) refl open_
  where
    step_at : (b : Bool) → is_closed s.link.stage ≡ b → is_closed (if b then still s
        else disconnect_for k s (causes.Frame fault)).seat.link.stage ≡ false →
        ◌≡◌ {A = Option FrameFault} (Some fault) None
    step_at true t open_ = absurd (not_both (is_closed s.link.stage) t open_)
    step_at false t open_ = absurd (not_both _
        (disconnect_closes s.link (causes.Frame fault)
        (farewell s.link.stage (causes.Frame fault))) open_)

-- a cut without a fault ends in a part
clean_part : (count : ℕ) (bytes : List ℕ) (cut : Cut) → cut.fault ≡ None →
    IsCutAt count bytes cut → IsPart cut.rest
clean_part count bytes cut clean c = subst (λ (fault : Option FrameFault).
    Ends (count + length c.front) cut.rest fault) clean c.ends

-- bytes of one that is open then leave a part
pub record LeavesPart (s : Seat) (t : Turn) : Type 0 where
  pub part : is_closed t.seat.link.stage ≡ false → IsPart t.seat.unread.rest
  pub are : IsBytes t.seat.unread.rest

pub bytes_part : (k : ℕ) (s : Seat) (bytes : List ℕ) → IsBytes s.unread.rest → IsBytes bytes →
    LeavesPart s (on_bytes k s bytes)
unfolding on_bytes
bytes_part k s bytes before came_ = step_at (is_closed s.link.stage) refl
  where
    all : List ℕ
    all = s.unread.rest ++ bytes

    step_at : (b : Bool) → is_closed s.link.stage ≡ b → LeavesPart s (if b then still s
        else on_cut k s (length all) (cut_of s.unread.before all))
    step_at true t = record {
      part = λ open_. absurd (not_both (is_closed s.link.stage) t open_);
      are = before;
    }
    step_at false t =
        let fits = bytes_joined s.unread.rest bytes before came_ in
        let cut = cut_of s.unread.before all in
        let read = read_to s cut (length all) in
        let framed = (on_frames k read cut.frames).seat in
        let same : (on_fault k framed cut.fault).seat.unread ≡ read.unread =
        fault_unread k framed cut.fault ∙ frames_unread k read cut.frames in
        record {
          part = λ open_. subst (λ (u : Unread). IsPart u.rest) (sym same)
              (clean_part s.unread.before all cut (fault_open k framed cut.fault open_)
              (cut_of_bytes s.unread.before all fits));
          are = subst (λ (u : Unread). IsBytes u.rest) (sym same)
              (cut_bytes s.unread.before all fits).1;
        }

-- ---- any event

-- who is open after a tick was open before it
open_before : (w : World) (k : ℕ) (l : Link) → GoodWorld w → get w.links k ≡ Some l →
    is_closed (after_tick w k l).link.stage ≡ false → is_closed l.stage ≡ false
open_before w k l good there open_ = step_at (is_closed l.stage) refl
  where
    step_at : (b : Bool) → is_closed l.stage ≡ b → b ≡ false
    step_at true t =
        let nobody = nobody_yet (get w.game.players k)
        (good.plays k ∙ ap in_play there ∙ not_in_play l.stage t) in
        absurd (not_both (is_closed l.stage) t
        (sym (ap (λ (h : Handing). is_closed h.link.stage)
        (after_quiet w k l there good nobody)) ∙ open_))
    step_at false t = refl

module _ (k : ℕ) (w : World) (e : Event) (event : IsEvent e) (p : PartUnread k w)
    (good : GoodWorld (step w e).world) where
  old : is_new k (step w e).world.last ≡ true → is_new k w.last ≡ true
  old = still_new w (step w e) k (step_moves w e)

  -- with what is not read as it was
  as_it_was : get (step w e).world.unread k ≡ get w.unread k →
      ((m : Link) → get (step w e).world.links k ≡ Some m → is_closed m.stage ≡ false →
      IsPart (unread_of k w).rest) → PartUnread k (step w e).world
  as_it_was same part = record {
    good = good;
    part = λ m there open_. subst IsPart (ap rest_in (sym same)) (part m there open_);
    are = subst IsBytes (ap rest_in (sym same)) p.are;
    early = λ new. same ∙ p.early (old new);
  }

  -- with another where it is there
  now_there : (m : Link) (u : Unread) → get (step w e).world.links k ≡ Some m →
      get (step w e).world.unread k ≡ Some u →
      (is_closed m.stage ≡ false → IsPart u.rest) → IsBytes u.rest →
      PartUnread k (step w e).world
  now_there m u link unread part are = record {
    good = good;
    part = λ n there open_. subst IsPart (ap rest_in (sym unread))
        (part (ap (λ (x : Link). is_closed x.stage) (some_is m n (sym link ∙ there)) ∙ open_));
    are = subst IsBytes (ap rest_in (sym unread)) are;
    early = λ new. absurd (none_some _ m (good.fresh k new) link);
  }

  part_next : OneStep k w e → PartUnread k (step w e).world
  unfolding step
  part_next (rests st none) =
      as_it_was st.unread (λ m there open_. p.part m (sym st.link ∙ there) open_)
  part_next (reads bytes l is there sits came_) =
      let b = bytes_part k (seat_of w k l) bytes p.are (subst IsEvent is event) in
      now_there _ _ sits.link sits.unread b.part b.are
  part_next (departs cause l wordless there sits none) =
      now_there (gone cause l) (unread_of k w) sits.link sits.unread
      (λ open_. absurd (not_both _ (gone_closed cause l) open_)) p.are
  part_next (takes n l there sits none) =
      now_there _ (unread_of k w) sits.link sits.unread (p.part l there) p.are
  part_next (comes c none) = as_it_was c.unread
      (λ m there open_. subst IsPart (ap rest_in (sym (p.early c.new))) nothing_part)
  part_next (goes l g none) = record {
    good = good;
    part = λ m there open_. absurd (none_some _ m g.link there);
    are = subst IsBytes (ap rest_in (sym g.unread)) no_bytes;
    early = λ new. g.unread;
  }
  part_next (ticks is) = as_it_was
      (ap (λ (x : Event). get (step w x).world.unread k) is ∙ ap (λ m. get m k) (tick_unread w))
      (λ m there open_. at_link m (get w.links k) refl
      (sym (ap (λ (x : Event). get (step w x).world.links k) is) ∙ there) open_)
    where
      at_link : (m : Link) (o : Option Link) → get w.links k ≡ o →
          get (tick w).world.links k ≡ Some m → is_closed m.stage ≡ false →
          IsPart (unread_of k w).rest
      at_link m None is there open_ = absurd (none_some _ m
          (tick_link w k ∙ ap (option_map (λ (l : Link). (after_tick w k l).link)) is) there)
      at_link m (Some l) is there open_ =
          let same = some_is (after_tick w k l).link m
          (sym (tick_link w k ∙ ap (option_map (λ (l : Link). (after_tick w k l).link)) is)
          ∙ there) in
          p.part l is (open_before w k l p.good is
          (ap (λ (x : Link). is_closed x.stage) same ∙ open_))

run_part : (k : ℕ) (events : List Event) (w : World) → AreBytes events → PartUnread k w →
    PartUnread k (history w events)
run_part k [] w are p = p
run_part k (e ∷ events) w are p =
    let parts = first_bytes e events are in
    run_part k events (step w e).world parts.1
    (part_next k w e parts.0 p (step_good w e p.good) (one_step w e k p.good))

-- ---- before a bad frame

pub cut_again : (count : ℕ) (bytes : List ℕ) (cut : Cut) → IsBytes bytes → IsCutAt count bytes cut →
    cut_of count bytes ≡ cut
cut_again count bytes cut fits c =
    let d = cut_of_bytes count bytes fits in
    let now = cut_of count bytes in
    unique count bytes now.frames now.rest now.fault cut.frames cut.rest cut.fault d c

first_fit : (xs ys : List ℕ) → IsBytes (xs ++ ys) → IsBytes xs
first_fit [] ys are i = omega arith
first_fit (x ∷ xs) ys are zero = are zero
first_fit (x ∷ xs) ys are (suc i) = first_fit xs ys (λ j. are (suc j)) i

stands_in : (k : ℕ) (w : World) (bytes : List ℕ) (bad : HasBadFrame k w bytes) → IsBytes bytes →
    PartUnread k w → (before : List ℕ) × StandsBefore k w bytes bad.good before
stands_in k w bytes bad fits p =
    let count = (unread_of k w).before in
    let rest = (unread_of k w).rest in
    let h = has_before count rest bytes bad.good bad.later (cut_behind w k bytes)
    (p.part bad.link bad.there bad.open_) bad.parts
    (cut_of_bytes count (rest ++ bytes) (bytes_joined rest bytes p.are fits)) in
    let same = cut_again count (rest ++ h.before) _ (bytes_joined rest h.before p.are
    (first_fit h.before h.more (subst IsBytes h.first fits))) h.is_cut in (
      h.before,
      record {
        first = (h.more, h.first);
        whole = ap (λ (cut : Cut). cut.frames) same;
        clean = ap (λ (cut : Cut). cut.fault) same;
      },
    )

pub stands_before : (start : Start) (events : List Event) (k : ℕ) (bytes : List ℕ) →
    AreBytes events → IsBytes bytes →
    (bad : HasBadFrame k (history (new_world start) events) bytes) →
    (before : List ℕ) × StandsBefore k (history (new_world start) events) bytes bad.good before
stands_before start events k bytes are fits bad =
    stands_in k (history (new_world start) events) bytes bad fits
    (run_part k events (new_world start) are (record {
      good = new_good start;
      part = λ l there open_. absurd (none_some _ l (get-empty nat_cmp k) there);
      are = subst IsBytes (ap rest_in (sym (get-empty nat_cmp k))) no_bytes;
      early = λ new. get-empty nat_cmp k;
    }))
