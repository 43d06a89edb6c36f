-- Bytes close a connection just for the cause of the first frame that closes it.
use Rattle.std.proofs.Common.{◌≡◌, ℕ, Bool, true, false, List, [], ◌∷◌, ◌++◌, Option, Some, None}
use Rattle.std.proofs.Common.{refl, sym, subst, ap, ◌∙◌, arith}
use Rattle.std.specs.Prelude.{◌↔◌}
use Rattle.std.proofs.lemmas.Bool.{leb-true, leb-false}
use Rattle.mc_frame.specs.declared.fault.FrameFault.{FrameFault}
use Rattle.mc_up.specs.declared.play_up.PlayUp.{PlayUp}
use Rattle.mc_model.specs.declared.cause.Cause.{Cause}
use Rattle.mc_model.specs.declared.cause.Cause.TheVariants as causes
use Rattle.mc_model.specs.declared.cause.Refusal.{Refusal}
use Rattle.mc_model.specs.Names.{offline_uuid}
use Rattle.mc_model.specs.Packets.{Sent, of_status}
use Rattle.mc_model.specs.Talk.{ClientRequest, nothing, greets, replies, ends, enters, acts, wrong}
use Rattle.mc_model.specs.Talk.{farewell, refused, accepted}
use Rattle.mc_model.specs.Stages.{is_closed}
use Rattle.mc_model.specs.Game.{Game}
use Rattle.mc_model.specs.Acts.{act}
use Rattle.mc_model.specs.Link.{Handing, Link, hand, mark_closed}
use Rattle.mc_model.specs.World.{Seat, Turn}
use Rattle.mc_model.specs.Step.{acted, answer_login, asked_by, entered, on_fault, on_frame}
use Rattle.mc_model.specs.Step.{on_frames, perform, refusal}
use Rattle.mc_model.specs.Promised.{HasCause}
use Rattle.mc_model.specs.Causes.{EnteringCloses, FirstCloses, IsTooMuch, NextCloses, RequestCloses}
use Rattle.mc_model.specs.Causes.{or_backlog}
use Rattle.mc_model.proofs.Maps.Options.{none_some, some_is}
use Rattle.mc_laws.proofs.Walk.Handings.{hand_cases}
use Rattle.mc_laws.proofs.Walk.Moves.{frame_walks, walked_keeps}
use Rattle.mc_laws.proofs.Runs.Owing.{Owes, heard_link, owes_kept}
use Rattle.mc_laws.proofs.Runs.Effects.{no_cause, owes_first}

-- ---- handing

-- where nothing closes it but too much
pub hand_closes : (m : Link) (ps : List Sent) (c : Cause) → m.cause ≡ None →
    ((hand m ps).link.cause ≡ Some c ↔ (IsTooMuch m ps × (c ≡ causes.Backlog)))
hand_closes m ps c none = hand_cases m ps
    (λ (h : Handing). h.link.cause ≡ Some c ↔ (IsTooMuch m ps × (c ≡ causes.Backlog)))
    (λ fits. (
      λ e. absurd (none_some m.cause c none e),
      λ both. absurd (omega (arith, both.0, leb-true _ _ fits)),
    ))
    (λ much. (
      λ e. (leb-false _ _ much, sym (some_is causes.Backlog c e)),
      λ both. ap Some (sym both.1),
    ))

-- where it is closed, with its last packets
pub last_closes : (l : Link) (cause : Cause) (ps : List Sent) (c : Cause) →
    ((hand (mark_closed l cause) ps).link.cause ≡ Some c ↔ (c ≡ or_backlog l cause ps))
last_closes l cause ps c = hand_cases (mark_closed l cause) ps
    (λ (h : Handing). h.link.cause ≡ Some c ↔ (c ≡ or_backlog l cause ps))
    (λ fits. (
      λ e. sym (some_is cause c e) ∙ rw fits refl,
      λ is. ap Some (sym (is ∙ rw fits refl)),
    ))
    (λ much. (
      λ e. sym (some_is causes.Backlog c e) ∙ rw much refl,
      λ is. ap Some (sym (is ∙ rw much refl)),
    ))

-- ---- a frame

entering_closes : (k : ℕ) (s : Seat) (name : List ℕ) (o : Option Refusal) (c : Cause) →
    s.link.cause ≡ None →
    ((answer_login k s name o).seat.link.cause ≡ Some c ↔ EnteringCloses s.link name o c)
entering_closes k s name (Some why) c none =
    last_closes s.link (causes.Refused why) (refused why) c
entering_closes k s name None c none =
    hand_closes (entered k s name).link (accepted (offline_uuid name) name) c none

acting_closes : (k : ℕ) (s : Seat) (packet : PlayUp) (o : Option Game) (c : Cause) →
    s.link.cause ≡ None → ((acted k s packet o).seat.link.cause ≡ Some c
    ↔ ((o ≡ None) × (c ≡ or_backlog s.link causes.BadNumber
    (farewell s.link.stage causes.BadNumber))))
acting_closes k s packet (Some g) c none = (
  λ e. absurd (none_some s.link.cause c none (sym (heard_link packet s.link).1 ∙ e)),
  λ both. (let clash = both.0 in absurd cc),
)
acting_closes k s packet None c none =
    let l = last_closes s.link causes.BadNumber (farewell s.link.stage causes.BadNumber) c in
    (λ e. (refl, l.0 e), λ both. l.1 both.1)

pub request_closes : (k : ℕ) (s : Seat) (x : ClientRequest) (c : Cause) → s.link.cause ≡ None →
    ((perform k s x).seat.link.cause ≡ Some c ↔ RequestCloses k s x c)
request_closes k s nothing c none =
    (λ e. none_some s.link.cause c none e, λ no_way. absurd no_way)
request_closes k s (greets protocol stage) c none =
    (λ e. none_some s.link.cause c none e, λ no_way. absurd no_way)
request_closes k s (replies packet) c none = hand_closes s.link (of_status packet ∷ []) c none
request_closes k s (ends packet) c none =
    last_closes s.link causes.Done (of_status packet ∷ []) c
request_closes k s (enters name) c none =
    entering_closes k s name (refusal s.game s.link.protocol name) c none
request_closes k s (acts packet) c none =
    acting_closes k s packet (act s.game k packet) c none
request_closes k s (wrong fault) c none = last_closes s.link (causes.Packet fault)
    (farewell s.link.stage (causes.Packet fault)) c

pub frame_is : (k : ℕ) (s : Seat) (frame : List ℕ) → is_closed s.link.stage ≡ false →
    on_frame k s frame ≡ perform k s (asked_by s frame)
unfolding on_frame
frame_is k s frame open_ = rw open_ refl

-- a closed one stays as it is
closed_frame : (k : ℕ) (s : Seat) (frame : List ℕ) → is_closed s.link.stage ≡ true →
    (on_frame k s frame).seat ≡ s
unfolding on_frame
closed_frame k s frame closed = rw closed refl

pub closed_frames : (k : ℕ) (s : Seat) (frames : List (List ℕ)) → is_closed s.link.stage ≡ true →
    (on_frames k s frames).seat ≡ s
closed_frames k s [] closed = refl
closed_frames k s (frame ∷ frames) closed =
    ap (λ (t : Seat). (on_frames k t frames).seat) (closed_frame k s frame closed)
    ∙ closed_frames k s frames closed

pub closed_fault : (k : ℕ) (s : Seat) (fault : Option FrameFault) → is_closed s.link.stage ≡ true →
    (on_fault k s fault).seat ≡ s
closed_fault k s None closed = refl
closed_fault k s (Some fault) closed = rw closed refl

-- ---- frames

-- a frame keeps that a link is closed just where it has a cause
frame_has : (k : ℕ) (s : Seat) (frame : List ℕ) → is_closed s.link.stage ≡ false →
    HasCause s.link → HasCause (on_frame k s frame).seat.link
frame_has k s frame open_ has = (walked_keeps k (λ (t : Seat) ps. Owes s.link t.link ps)
    (owes_kept k s.link) s (on_frame k s frame) [] (frame_walks k s frame)
    (owes_first s.link has open_)).cause

-- a seat after frames and what is behind them
abbrev after_all : ℕ → Seat → List (List ℕ) → Option FrameFault → Seat
after_all k s frames fault = (on_fault k (on_frames k s frames).seat fault).seat

no_frames : (good later : List (List ℕ)) → [] ≡ good ++ later → (good ≡ []) × (later ≡ [])
no_frames [] [] e = (refl, refl)
no_frames [] (x ∷ xs) e = absurd cc
no_frames (x ∷ xs) later e = absurd cc

fault_closes : (k : ℕ) (s : Seat) (fault : Option FrameFault) (c : Cause) →
    is_closed s.link.stage ≡ false → s.link.cause ≡ None →
    ((on_fault k s fault).seat.link.cause ≡ Some c ↔ NextCloses k s [] fault c)
fault_closes k s None c open_ none =
    (λ e. none_some s.link.cause c none e, λ no_way. absurd no_way)
fault_closes k s (Some fault) c open_ none = rw open_ (last_closes s.link (causes.Frame fault)
    (farewell s.link.stage (causes.Frame fault)) c)

pub frames_close : (k : ℕ) (frames : List (List ℕ)) (s : Seat) (fault : Option FrameFault)
    (c : Cause) → is_closed s.link.stage ≡ false → HasCause s.link →
    ((after_all k s frames fault).link.cause ≡ Some c ↔ FirstCloses k s frames fault c)
frames_close k [] s fault c open_ has =
    let f = fault_closes k s fault c open_ (no_cause s.link has open_) in (
      λ e. record { good = []; later = []; parts = refl; still_open = open_; closes = f.0 e },
      λ first. (let none = no_frames first.good first.later first.parts in
          f.1 (subst (λ (later : List (List ℕ)). NextCloses k s later fault c) none.1
          (subst (λ (good : List (List ℕ)).
          NextCloses k (on_frames k s good).seat first.later fault c) none.0 first.closes))),
    )
frames_close k (frame ∷ frames) s fault c open_ has =
    at_stage (is_closed (on_frame k s frame).seat.link.stage) refl
    (λ still. frames_close k frames (on_frame k s frame).seat fault c still
    (frame_has k s frame open_ has))
  where
    u : Seat
    u = (on_frame k s frame).seat

    asked : ((on_frame k s frame).seat.link.cause ≡ Some c
        ↔ RequestCloses k s (asked_by s frame) c)
    asked = subst (λ (t : Turn). t.seat.link.cause ≡ Some c
        ↔ RequestCloses k s (asked_by s frame) c) (sym (frame_is k s frame open_))
        (request_closes k s (asked_by s frame) c (no_cause s.link has open_))

    -- the frame itself, or one of those behind it
    split : (good later : List (List ℕ)) → frame ∷ frames ≡ good ++ later →
        is_closed (on_frames k s good).seat.link.stage ≡ false →
        NextCloses k (on_frames k s good).seat later fault c →
        (RequestCloses k s (asked_by s frame) c → (after_all k s (frame ∷ frames) fault).link.cause
        ≡ Some c) →
        (FirstCloses k (on_frame k s frame).seat frames fault c →
        (after_all k s (frame ∷ frames) fault).link.cause ≡ Some c) →
        (after_all k s (frame ∷ frames) fault).link.cause ≡ Some c
    split [] [] e open_ closes here there = absurd cc
    split [] (x ∷ xs) e open_ closes here there =
        (let same : x ≡ frame = cc in
        here (subst (λ (f : List ℕ). RequestCloses k s (asked_by s f) c) same closes))
    split (x ∷ xs) later e open_ closes here there =
        (let same : x ≡ frame = cc in
        let rest : frames ≡ xs ++ later = cc in
        there (record {
          good = xs;
          later = later;
          parts = rest;
          still_open = subst (λ (f : List ℕ).
              is_closed (on_frames k (on_frame k s f).seat xs).seat.link.stage ≡ false) same open_;
          closes = subst (λ (f : List ℕ).
              NextCloses k (on_frames k (on_frame k s f).seat xs).seat later fault c) same closes;
        }))

    at_stage : (b : Bool) → is_closed (on_frame k s frame).seat.link.stage ≡ b →
        (b ≡ false → ((after_all k (on_frame k s frame).seat frames fault).link.cause ≡ Some c
        ↔ FirstCloses k (on_frame k s frame).seat frames fault c)) →
        ((after_all k s (frame ∷ frames) fault).link.cause ≡ Some c
        ↔ FirstCloses k s (frame ∷ frames) fault c)
    at_stage true t later =
        let stays : after_all k (on_frame k s frame).seat frames fault ≡ (on_frame k s frame).seat =
        ap (λ (x : Seat). (on_fault k x fault).seat)
        (closed_frames k (on_frame k s frame).seat frames t)
        ∙ closed_fault k (on_frame k s frame).seat fault t in (
          λ e. record {
            good = [];
            later = frame ∷ frames;
            parts = refl;
            still_open = open_;
            closes = asked.0 (sym (ap (λ (x : Seat). x.link.cause) stays) ∙ e);
          },
          λ first. split first.good first.later first.parts first.still_open first.closes
              (λ request. ap (λ (x : Seat). x.link.cause) stays ∙ asked.1 request)
              (λ behind. absurd (shut_before behind t)),
        )
      where
        shut_before : FirstCloses k (on_frame k s frame).seat frames fault c →
            is_closed (on_frame k s frame).seat.link.stage ≡ true → ⊥
        shut_before behind t =
            (let clash : true ≡ false = sym (ap (λ (x : Seat). is_closed x.link.stage)
            (closed_frames k (on_frame k s frame).seat behind.good t) ∙ t)
            ∙ behind.still_open in cc)
    at_stage false t later =
        let i = later refl in (
          λ e. (let first = i.0 e in record {
            good = frame ∷ first.good;
            later = first.later;
            parts = ap (λ (fs : List (List ℕ)). frame ∷ fs) first.parts;
            still_open = first.still_open;
            closes = first.closes;
          }),
          λ first. split first.good first.later first.parts first.still_open first.closes
              (λ request. absurd (none_some _ c
              (no_cause (on_frame k s frame).seat.link (frame_has k s frame open_ has) t)
              (asked.1 request)))
              (λ behind. i.1 behind),
        )
