-- What a connection is owed, and why it is closed, after whatever its bytes do.
use Rattle.std.proofs.Common.{◌≡◌, ◌≢◌, ℕ, true, false, List, [], ◌∷◌, ◌++◌, Some, refl, sym, subst}
use Rattle.std.proofs.Common.{ap, ◌∙◌, append_assoc, inl, inr}
use Rattle.std.specs.Prelude.{◌⊎◌, is_some}
use Rattle.std.proofs.lemmas.List.{append-nil}
use Rattle.mc_up.specs.declared.play_up.PlayUp.{PlayUp}
use Rattle.mc_up.specs.declared.play_up.PlayUp.TheVariants.{KeepAlive}
use Rattle.mc_model.specs.declared.cause.Cause.TheVariants as causes
use Rattle.mc_model.specs.declared.stage.Stage.{Stage}
use Rattle.mc_model.specs.declared.stage.Stage.TheVariants as stages
use Rattle.mc_model.specs.Packets.{Sent, bytes_of, frame_of}
use Rattle.mc_model.specs.Stages.{is_closed}
use Rattle.mc_model.specs.Link.{Handing, Link, hand, mark_closed}
use Rattle.mc_model.specs.World.{Seat, Turn}
use Rattle.mc_model.specs.Step.{heard}
use Rattle.mc_model.specs.Promised.{HasCause}
use Rattle.mc_model.proofs.Maps.Options.{some_is}
use Rattle.mc_laws.proofs.Walk.Handings.{hand_cases}
use Rattle.mc_laws.proofs.Walk.Moves.{Kept, keeps, does, shakes, answers, closes, comes_in}

pub bytes_joined : (ps qs : List Sent) → bytes_of (ps ++ qs) ≡ bytes_of ps ++ bytes_of qs
bytes_joined [] qs = refl
bytes_joined (p ∷ ps) qs = ap (λ (bs : List ℕ). frame_of p ++ bs) (bytes_joined ps qs)
    ∙ sym (append_assoc (frame_of p) (bytes_of ps) (bytes_of qs))

-- it is owed what it was and what it was handed; or that was too much, and it is closed for it
abbrev pub IsOwed : Link → List Sent → Link → Type 0
IsOwed l ps m = ((m.owed ≡ l.owed ++ bytes_of ps) × (m.cause ≢ Some causes.Backlog))
    ⊎ ((m.owed ≡ []) × (m.cause ≡ Some causes.Backlog))

-- what becomes of a link by a walk: from an open one on, a first cause is kept
pub record Owes (l : Link) (m : Link) (ps : List Sent) : Type 0 where
  pub owed : IsOwed l ps m
  pub cause : HasCause m

pub handed_owes : (l s m : Link) (ps qs : List Sent) → s.owed ≡ l.owed ++ bytes_of ps →
    m.owed ≡ s.owed → m.cause ≢ Some causes.Backlog → HasCause m →
    Owes l (hand m qs).link (ps ++ (hand m qs).handed)
handed_owes l s m ps qs owed same other cause =
    hand_cases m qs (λ (h : Handing). Owes l h.link (ps ++ h.handed))
    (λ fits. record {
      owed = inl (
        ap (λ (bs : List ℕ). bs ++ bytes_of qs) (same ∙ owed)
            ∙ append_assoc l.owed (bytes_of ps) (bytes_of qs)
            ∙ ap (λ (bs : List ℕ). l.owed ++ bs) (sym (bytes_joined ps qs)),
        other,
      );
      cause = record { is = cause.is };
    })
    (λ much. record { owed = inr (refl, refl); cause = record { is = refl } })

-- an open link owes what it was handed
open_owed : (l m : Link) (ps : List Sent) → is_closed m.stage ≡ false → Owes l m ps →
    (m.owed ≡ l.owed ++ bytes_of ps) × (m.cause ≢ Some causes.Backlog)
open_owed l m ps open_ o = elim o.owed [
  | inl is ↦ is
  | inr much ↦ (let clash : true ≡ false =
      sym (ap is_some much.1) ∙ sym o.cause.is ∙ open_ in absurd cc)
]

pub heard_link : (packet : PlayUp) (l : Link) → ((heard packet l).owed ≡ l.owed)
    × ((heard packet l).cause ≡ l.cause) × ((heard packet l).stage ≡ l.stage)
heard_link (KeepAlive beat) l = (refl, refl, refl)
heard_link other l = (refl, refl, refl)

-- with another link that has the same of it
same_owes : (l m n : Link) (ps : List Sent) → n.owed ≡ m.owed → n.cause ≡ m.cause →
    is_closed n.stage ≡ is_closed m.stage → Owes l m ps → Owes l n (ps ++ [])
same_owes l m n ps owed cause stage o = subst (λ (qs : List Sent). Owes l n qs)
    (sym (append-nil ps)) (record {
      owed = elim (o.owed) as (λ (x : IsOwed l ps m). IsOwed l ps n) [
        | inl is ↦ inl (owed ∙ is.0, λ e. is.1 (sym cause ∙ e))
        | inr much ↦ inr (owed ∙ much.0, cause ∙ much.1)
      ];
      cause = record { is = stage ∙ o.cause.is ∙ ap is_some (sym cause) };
    })

open_at : (stage to : Stage) → stage ≡ to → is_closed to ≡ false → is_closed stage ≡ false
open_at stage to is open_ = ap is_closed is ∙ open_

pub owes_kept : (k : ℕ) (l : Link) → Kept k (λ (s : Seat) ps. Owes l s.link ps)
owes_kept k l s t ps (keeps unread is) o =
    subst (λ (x : Turn). Owes l x.seat.link (ps ++ x.handed)) (sym is)
    (same_owes l s.link s.link ps refl refl refl o)
owes_kept k l s t ps (does packet g at did is) o = (let h = heard_link packet s.link in
    subst (λ (x : Turn). Owes l x.seat.link (ps ++ x.handed)) (sym is)
    (same_owes l s.link (heard packet s.link) ps h.0 h.1 (ap is_closed h.2) o))
owes_kept k l s t ps (shakes protocol stage at play closed is) o =
    subst (λ (x : Turn). Owes l x.seat.link (ps ++ x.handed)) (sym is)
    (same_owes l s.link (record s.link { stage = stage; protocol = protocol }) ps refl refl
    (closed ∙ sym (open_at s.link.stage stages.Hand at refl)) o)
owes_kept k l s t ps (answers packet at is) o =
    subst (λ (x : Turn). Owes l x.seat.link (ps ++ x.handed)) (sym is)
    (let a = open_owed l s.link ps (open_at s.link.stage stages.Status at refl) o in
    handed_owes l s.link s.link ps _ a.0 refl a.1 o.cause)
owes_kept k l s t ps (closes cause packets open_ last other is) o =
    subst (λ (x : Turn). Owes l x.seat.link (ps ++ x.handed)) (sym is)
    (handed_owes l s.link (mark_closed s.link cause) ps packets (open_owed l s.link ps open_ o).0
    refl (λ e. other (some_is cause causes.Backlog e)) (record { is = refl }))
owes_kept k l s t ps (comes_in name at free is) o =
    (let open_ = open_at s.link.stage stages.Login at refl in
    subst (λ (x : Turn). Owes l x.seat.link (ps ++ x.handed)) (sym is)
    (let a = open_owed l s.link ps open_ o in
    handed_owes l s.link (record s.link { stage = stages.Play }) ps _ a.0 refl a.1
    (record { is = sym open_ ∙ o.cause.is })))
