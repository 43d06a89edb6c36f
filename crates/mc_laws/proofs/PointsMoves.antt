-- What a packet about one entity makes of it, and that those of a move put it where it is wanted.
use Rattle.std.proofs.Common.{◌≡◌, ℕ, ◌==◌, Bool, true, false, cond, not, ◌&&◌, [], ◌∷◌, refl, sym}
use Rattle.std.proofs.Common.{ap, ◌∙◌, eqb-true, arith}
use Rattle.std.specs.Ordering.{int_eq}
use Rattle.std.specs.Cmp.{int_cmp_total}
use Rattle.std.specs.FinMap.{insert}
use Rattle.std.proofs.lemmas.Bool.Decides.{Decides-int_eq, nat_tests}
use Rattle.std.proofs.Math.IntN.{+ℤ_comm, +ℤ_idr, -ℤ-+ℤ_cancel}
use lib.IntN.{ℤ, pos, ◌+ℤ◌, ◌-ℤ◌}
use Rattle.mc_fields.specs.declared.position.Spot.{Spot}
use Rattle.mc_slots.specs.declared.slot.Slot.{Slot}
use Rattle.mc_packets.specs.declared.down.Down.TheVariants.{Step, Look, StepLook, Teleport}
use Rattle.mc_packets.specs.declared.down.Down.TheVariants.{HeadLook}
use Rattle.mc_packets.specs.declared.meta.MetaValue.TheVariants as values
use Rattle.mc_view.specs.declared.forms.Form.TheVariants as forms
use Rattle.mc_view.specs.Forms.{are_bytes, are_zero, form_of, is_turned, moves_of}
use Rattle.mc_model.specs.declared.seen.SeenKind.{SeenKind}
use Rattle.mc_model.specs.declared.seen.SeenKind.TheVariants as seen_kinds
use Rattle.mc_model.specs.Sight.{Seen, Sight}
use Rattle.mc_model.specs.Replica.{Entities, apply, seeing, put_at, looking, is_32_bits, wearing}
use Rattle.mc_model.specs.Replica.{with_metas}
use Rattle.mc_model.specs.Replica as replica
use Rattle.mc_model.specs.Delta.{IsPileOf, IsSeen, pile_told, move_packets, head_packets}
use Rattle.mc_model.proofs.FitsText.{both_true}
use Rattle.mc_model.proofs.Maps.Sorted.{altered_put}
use Rattle.mc_laws.proofs.Leading.{Leads, no_packets, led}

-- ---- one entity

-- with an entity under a number
abbrev pub with_seen : Sight → Entities → ℤ → Seen → Sight
with_seen s m k e = record s { entities = insert m k e }

-- what changes it puts it there changed
pub put_altered : (s : Sight) (m : Entities) (k : ℤ) (e : Seen) (f : Seen → Seen) →
    seeing (record s { entities = replica.altered (insert m k e) k f })
    ≡ seeing (with_seen s m k (f e))
put_altered s m k e f = grind (arith, nat_tests, altered_put, int_cmp_total)

-- so much farther
step_leads : (s : Sight) (m : Entities) (k dx dy dz : ℤ) (e : Seen) →
    Leads (with_seen s m k e) (Step k dx dy dz true ∷ [])
    (with_seen s m k (put_at (replica.onward dx dy dz e.spot) e))
unfolding apply
step_leads s m k dx dy dz e = record {
  is = put_altered s m k e (λ (e : Seen). put_at (replica.onward dx dy dz e.spot) e);
}

-- and turned
step_look_leads : (s : Sight) (m : Entities) (k dx dy dz : ℤ) (yaw pitch : ℕ) (e : Seen) →
    Leads (with_seen s m k e) (StepLook k dx dy dz yaw pitch true ∷ [])
    (with_seen s m k (put_at (looking yaw pitch (replica.onward dx dy dz e.spot)) e))
unfolding apply
step_look_leads s m k dx dy dz yaw pitch e = record {
  is = put_altered s m k e
      (λ (e : Seen). put_at (looking yaw pitch (replica.onward dx dy dz e.spot)) e);
}

-- turned alone
look_leads : (s : Sight) (m : Entities) (k : ℤ) (yaw pitch : ℕ) (e : Seen) →
    Leads (with_seen s m k e) (Look k yaw pitch true ∷ [])
    (with_seen s m k (record e { spot = looking yaw pitch e.spot }))
unfolding apply
look_leads s m k yaw pitch e = record {
  is = put_altered s m k e (λ (e : Seen). record e { spot = looking yaw pitch e.spot });
}

-- at another spot
jump_leads : (s : Sight) (m : Entities) (k : ℤ) (spot : Spot) (e : Seen) →
    Leads (with_seen s m k e) (Teleport k spot.x spot.y spot.z spot.yaw spot.pitch true ∷ [])
    (with_seen s m k (put_at spot e))
unfolding apply
jump_leads s m k spot e = record { is = put_altered s m k e (λ (e : Seen). put_at spot e) }

-- with another head
pub head_leads : (s : Sight) (m : Entities) (k : ℤ) (head : ℕ) (e : Seen) →
    Leads (with_seen s m k e) (HeadLook k head ∷ []) (with_seen s m k (record e { head = head }))
unfolding apply
head_leads s m k head e = record {
  is = put_altered s m k e (λ (e : Seen). record e { head = head });
}

-- with another pile: a player that holds it, or a dropped item that is it; a mob has none
pub pile_leads : (s : Sight) (m : Entities) (k : ℤ) (pile : Slot) (e : Seen) →
    IsPileOf e.kind e.pile → IsPileOf e.kind pile →
    Leads (with_seen s m k e) (pile_told k e.kind pile)
    (with_seen s m k (record e { pile = pile }))
unfolding apply
pile_leads s m k pile e = cases e.kind
  where
    cases : (kind : SeenKind) → IsPileOf kind e.pile → IsPileOf kind pile →
        Leads (with_seen s m k (record e { kind = kind })) (pile_told k kind pile)
        (with_seen s m k (record e { kind = kind; pile = pile }))
    cases (seen_kinds.Player uuid) was is = record {
      is = put_altered s m k (record e { kind = seen_kinds.Player uuid }) (wearing (pos 0) pile);
    }
    cases seen_kinds.Dropped was is = record {
      is = put_altered s m k (record e { kind = seen_kinds.Dropped })
          (with_metas (record { index = 10; value = values.Slot pile } ∷ []));
    }
    cases seen_kinds.Mob was is = led refl (ap (λ (slot : Slot).
        with_seen s m k (record e { kind = seen_kinds.Mob; pile = slot })) (was ∙ sym is))
        (no_packets (with_seen s m k (record e { kind = seen_kinds.Mob })))

-- ---- where it is

-- a place within 32 bits is taken over
taken_over : (spot : Spot) (e : Seen) → is_32_bits spot.x ≡ true → is_32_bits spot.y ≡ true →
    is_32_bits spot.z ≡ true → put_at spot e ≡ record e { spot = spot }
taken_over spot e x y z = rw (x, y, z) refl

-- what is left to go leads there
there : (a b : ℤ) → a +ℤ (b -ℤ a) ≡ b
there a b = +ℤ_comm a (b -ℤ a) ∙ -ℤ-+ℤ_cancel b a

-- where nothing is left, it is there
arrived : (a b : ℤ) → int_eq (b -ℤ a) (pos 0) ≡ true → a ≡ b
arrived a b t = grind (arith, nat_tests, +ℤ_idr, Decides-int_eq, there)

-- neither yaw nor pitch differs
same_look : (old new : Spot) → is_turned old new ≡ false →
    (old.yaw ≡ new.yaw) × (old.pitch ≡ new.pitch)
same_look old new t = grind (arith, nat_tests)

-- the packets of a form put an entity where it is wanted
pub form_leads : (s : Sight) (m : Entities) (k : ℤ) (e new : Seen) → IsSeen new →
    Leads (with_seen s m k e) (move_packets k new.spot (form_of e.spot new.spot))
    (with_seen s m k (record e { spot = new.spot }))
form_leads s m k e new seen =
    cases (are_zero dx dy dz) (are_bytes dx dy dz) (is_turned e.spot new.spot) refl refl
  where
    dx : ℤ
    dx = new.spot.x -ℤ e.spot.x

    dy : ℤ
    dy = new.spot.y -ℤ e.spot.y

    dz : ℤ
    dz = new.spot.z -ℤ e.spot.z

    is_there : are_zero dx dy dz ≡ true → (e.spot.x ≡ new.spot.x) × (e.spot.y ≡ new.spot.y)
        × (e.spot.z ≡ new.spot.z)
    is_there t = grind (arith, nat_tests, both_true, arrived, dx, dy, dz)

    jump : (still turns : Bool) → Leads (with_seen s m k e) (move_packets k new.spot
        (cond (not still && false) (cond turns (forms.StepTurn dx dy dz) (forms.Step dx dy dz))
        (cond (not false) forms.Jump (cond turns forms.Turn forms.Still))))
        (with_seen s m k (put_at new.spot e))
    jump true turns = jump_leads s m k new.spot e
    jump false turns = jump_leads s m k new.spot e

    cases : (still small turns : Bool) → are_zero dx dy dz ≡ still →
        is_turned e.spot new.spot ≡ turns →
        Leads (with_seen s m k e) (move_packets k new.spot (cond (not still && small)
        (cond turns (forms.StepTurn dx dy dz) (forms.Step dx dy dz))
        (cond (not small) forms.Jump (cond turns forms.Turn forms.Still))))
        (with_seen s m k (record e { spot = new.spot }))
    cases still false turns a b = led refl
        (ap (with_seen s m k) (taken_over new.spot e seen.x seen.y seen.z))
        (jump still turns)
    cases false true true a b =
        let goes : looking new.spot.yaw new.spot.pitch (replica.onward dx dy dz e.spot) ≡ new.spot =
        grind (
          arith,
          there,
        ) in
        led refl (ap (with_seen s m k) (ap (λ spot. put_at spot e) goes
        ∙ taken_over new.spot e seen.x seen.y seen.z))
        (step_look_leads s m k dx dy dz new.spot.yaw new.spot.pitch e)
    cases false true false a b =
        let look = same_look e.spot new.spot b in
        let goes : replica.onward dx dy dz e.spot ≡ new.spot = grind (arith, nat_tests, there) in
        led refl (ap (with_seen s m k) (ap (λ spot. put_at spot e) goes
        ∙ taken_over new.spot e seen.x seen.y seen.z)) (step_leads s m k dx dy dz e)
    cases true true true a b =
        let goes : looking new.spot.yaw new.spot.pitch e.spot ≡ new.spot =
        λ i. record {
          x = (is_there a).0 i;
          y = (is_there a).1 i;
          z = (is_there a).2 i;
          yaw = new.spot.yaw;
          pitch = new.spot.pitch;
        } in
        led refl (ap (λ (spot : Spot). with_seen s m k (record e { spot = spot })) goes)
        (look_leads s m k new.spot.yaw new.spot.pitch e)
    cases true true false a b =
        let look = same_look e.spot new.spot b in
        let goes : e.spot ≡ new.spot =
        λ i. record {
          x = (is_there a).0 i;
          y = (is_there a).1 i;
          z = (is_there a).2 i;
          yaw = look.0 i;
          pitch = look.1 i;
        } in
        led refl (ap (λ (spot : Spot). with_seen s m k (record e { spot = spot })) goes)
        (no_packets (with_seen s m k e))

-- the head looks where it is wanted
pub turn_leads : (s : Sight) (m : Entities) (k : ℤ) (e : Seen) (old new : Spot) → e.head ≡ old.yaw →
    Leads (with_seen s m k e) (head_packets k new (moves_of old new).head)
    (with_seen s m k (record e { head = new.yaw }))
turn_leads s m k e old new head = cases (old.yaw == new.yaw) refl
  where
    cases : (same : Bool) → (old.yaw == new.yaw) ≡ same →
        Leads (with_seen s m k e) (head_packets k new (not same))
        (with_seen s m k (record e { head = new.yaw }))
    cases true t = led refl (ap (λ (yaw : ℕ). with_seen s m k (record e { head = yaw }))
        (head ∙ eqb-true old.yaw new.yaw t)) (no_packets (with_seen s m k e))
    cases false t = head_leads s m k new.yaw e
