-- What the packets that a connection was handed show, by how far it came: kept by whatever its
-- bytes do.
use Rattle.std.proofs.Common.{◌≡◌, ℕ, true, false, List, [], ◌∷◌, ◌++◌, map, Option, None, refl}
use Rattle.std.proofs.Common.{sym, subst, ap, ◌∙◌}
use Rattle.std.specs.Prelude.{if◌then◌else◌}
use Rattle.std.proofs.lemmas.List.{append-nil}
use Rattle.std.proofs.lemmas.List.Elements.{filter_map-append}
use Rattle.mc_packets.specs.declared.down.Down.{Down}
use Rattle.mc_model.specs.declared.cause.Cause.TheVariants as causes
use Rattle.mc_model.specs.declared.stage.Stage.{Stage}
use Rattle.mc_model.specs.declared.stage.Stage.TheVariants as stages
use Rattle.mc_model.specs.Names.{offline_uuid}
use Rattle.mc_model.specs.Packets.{Sent, in_play, of_play, of_status, played}
use Rattle.mc_model.specs.Replica.{new_replica, replay, seeing}
use Rattle.mc_model.specs.Sight.{Sight}
use Rattle.mc_model.specs.Talk.{accepted}
use Rattle.mc_model.specs.Stages.{is_closed, is_play}
use Rattle.mc_model.specs.Link.{Handing, mark_closed, new_link}
use Rattle.mc_model.specs.Showing.{last_shown}
use Rattle.mc_model.specs.World.{Turn, World}
use Rattle.mc_model.specs.Step.{is_crowded, joining}
use Rattle.mc_model.proofs.Maps.Options.{not_both}
use Rattle.mc_laws.proofs.Walk.Handings.{hand_cases, heard_stage, not_in_play}
use Rattle.mc_laws.proofs.Walk.Moves.{Kept, answers, closes, comes_in, does, keeps, shakes}

-- ---- packets of play

pub played_joined : (ps qs : List Sent) → played (ps ++ qs) ≡ played ps ++ played qs
played_joined ps qs = filter_map-append in_play ps qs

played_more : (ps qs : List Sent) → played ps ≡ [] → played qs ≡ [] → played (ps ++ qs) ≡ []
played_more ps qs none more = played_joined ps qs ∙ rw (none, more) refl

pub played_all : (ds : List Down) → played (map of_play ds) ≡ ds
played_all [] = refl
played_all (d ∷ ds) = ap (λ (es : List Down). d ∷ es) (played_all ds)

-- the packets of a login are none of play
accepted_played : (uuid : ℕ) (name : List ℕ) → played (accepted uuid name) ≡ []
unfolding accepted
accepted_played uuid name = refl

-- ---- one connection

-- the packets that were handed to a connection in play show what it was shown last; before it plays
-- there are none
pub record IsShown (shown : Option Sight) (stage : Stage) (ps : List Sent) : Type 0 where
  pub playing : is_play stage ≡ true → replay new_replica (played ps) ≡ seeing (last_shown shown)
  pub waiting : is_play stage ≡ false → is_closed stage ≡ false →
      (played ps ≡ []) × (shown ≡ None)

pub closed_shown : (shown : Option Sight) (stage : Stage) (ps : List Sent) →
    is_closed stage ≡ true → IsShown shown stage ps
closed_shown shown stage ps closed = record {
  playing = λ plays. absurd (not_both (is_play stage) plays (not_in_play stage closed));
  waiting = λ waits open_. absurd (not_both (is_closed stage) closed open_);
}

waits_shown : (stage : Stage) (ps : List Sent) → is_play stage ≡ false → played ps ≡ [] →
    IsShown None stage ps
waits_shown stage ps waits none = record {
  playing = λ plays. absurd (not_both (is_play stage) plays waits);
  waiting = λ _ open_. (none, refl);
}

-- nothing more was handed out at the same stage
pub same_shown : (shown : Option Sight) (stage at : Stage) (ps : List Sent) → at ≡ stage →
    IsShown shown stage ps → IsShown shown at (ps ++ [])
same_shown shown stage at ps same h =
    subst (λ (x : Stage). IsShown shown x (ps ++ [])) (sym same)
    (subst (λ (qs : List Sent). IsShown shown stage qs) (sym (append-nil ps)) h)

-- what is done before play hands out no packet of play
before_play : (shown : Option Sight) (stage at : Stage) (ps qs : List Sent) →
    is_play stage ≡ false → is_closed stage ≡ false → played qs ≡ [] → is_play at ≡ false →
    IsShown shown stage ps → IsShown shown at (ps ++ qs)
before_play shown stage at ps qs waits open_ none later h =
    let was = h.waiting waits open_ in
    subst (λ (o : Option Sight). IsShown o at (ps ++ qs)) (sym was.1)
    (waits_shown at (ps ++ qs) later (played_more ps qs was.0 none))

-- a player that enters was shown nothing
entered_shown : (shown : Option Sight) (stage : Stage) (uuid : ℕ) (name : List ℕ)
    (ps : List Sent) → is_play stage ≡ false → is_closed stage ≡ false →
    IsShown shown stage ps → IsShown shown stages.Play (ps ++ accepted uuid name)
entered_shown shown stage uuid name ps waits open_ h =
    let was = h.waiting waits open_ in
    subst (λ (o : Option Sight). IsShown o stages.Play (ps ++ accepted uuid name)) (sym was.1)
    (record {
      playing = λ plays. ap (replay new_replica)
          (played_more ps (accepted uuid name) was.0 (accepted_played uuid name));
      waiting = λ other open_. absurd cc;
    })

pub shown_kept : (k : ℕ) (shown : Option Sight) → Kept k (λ s ps. IsShown shown s.link.stage ps)
shown_kept k shown s t ps (keeps unread is) h =
    subst (λ (x : Turn). IsShown shown x.seat.link.stage (ps ++ x.handed)) (sym is)
    (same_shown shown s.link.stage s.link.stage ps refl h)
shown_kept k shown s t ps (does packet g at did is) h =
    subst (λ (x : Turn). IsShown shown x.seat.link.stage (ps ++ x.handed)) (sym is)
    (same_shown shown s.link.stage _ ps (heard_stage packet s.link) h)
shown_kept k shown s t ps (shakes protocol stage at play closed is) h =
    subst (λ (x : Turn). IsShown shown x.seat.link.stage (ps ++ x.handed)) (sym is)
    (before_play shown s.link.stage stage ps [] (ap is_play at) (ap is_closed at) refl play h)
shown_kept k shown s t ps (answers packet at is) h =
    subst (λ (x : Turn). IsShown shown x.seat.link.stage (ps ++ x.handed)) (sym is)
    (hand_cases s.link (of_status packet ∷ [])
    (λ (h : Handing). IsShown shown h.link.stage (ps ++ h.handed))
    (λ fits. before_play shown s.link.stage s.link.stage ps (of_status packet ∷ [])
    (ap is_play at) (ap is_closed at) refl (ap is_play at) h)
    (λ much. closed_shown shown stages.Closed _ refl))
shown_kept k shown s t ps (closes cause packets open_ last other is) h =
    subst (λ (x : Turn). IsShown shown x.seat.link.stage (ps ++ x.handed)) (sym is)
    (hand_cases (mark_closed s.link cause) packets
    (λ (h : Handing). IsShown shown h.link.stage (ps ++ h.handed))
    (λ fits. closed_shown shown stages.Closed _ refl)
    (λ much. closed_shown shown stages.Closed _ refl))
shown_kept k shown s t ps (comes_in name at free is) h =
    subst (λ (x : Turn). IsShown shown x.seat.link.stage (ps ++ x.handed)) (sym is)
    (hand_cases (record s.link { stage = stages.Play }) (accepted (offline_uuid name) name)
    (λ (h : Handing). IsShown shown h.link.stage (ps ++ h.handed))
    (λ fits. entered_shown shown s.link.stage (offline_uuid name) name ps (ap is_play at)
    (ap is_closed at) h)
    (λ much. closed_shown shown stages.Closed _ refl))

pub joins_shown : (w : World) (ps : List Sent) → ps ≡ [] → IsShown None (joining w).stage ps
joins_shown w ps none = elim (is_crowded w) as (λ b. IsShown None
    (if b then mark_closed new_link causes.Crowded else new_link).stage ps) [
      | true ↦ closed_shown None stages.Closed ps refl
      | false ↦ waits_shown stages.Hand ps refl (ap played none)
    ]
