-- What the packets about entities make of what a client sees: those that are seen no more go, and
-- each other one is as it is wanted.
use Rattle.std.proofs.Common.{◌≡◌, ℕ, zero, suc, ◌<◌, ◌≤◌, Bool, true, not, List, [], ◌∷◌, take}
use Rattle.std.proofs.Common.{drop, length, map, Option, Some, None, refl, sym, subst, ap, ◌∙◌}
use Rattle.std.proofs.Common.{lit<, arith}
use Rattle.std.specs.Prelude.{is_some}
use Rattle.std.specs.List.{filter, fold}
use Rattle.std.specs.Cmp.{int_cmp_total}
use Rattle.std.specs.FinMap.{get, remove, entries, entries_sorted, contains_key, get-entries}
use Rattle.std.specs.FinMap.{int_cmp-IsAntisymmetric}
use Rattle.std.proofs.lemmas.List.{take-append-drop, length-drop}
use Rattle.std.proofs.lemmas.List.Sums.{fold-append}
use Rattle.std.proofs.lemmas.Bool.Decides.{Decides-int_eq, nat_tests}
use lib.IntN.{ℤ, pos}
use Rattle.mc_nbt.specs.Nbt.{Named}
use Rattle.mc_fields.specs.declared.position.Spot.{Spot}
use Rattle.mc_slots.specs.declared.slot.Slot.{Slot}
use Rattle.mc_slots.specs.declared.slot.Slot.TheVariants as slots
use Rattle.mc_packets.specs.declared.down.Down.TheVariants.{SpawnPlayer, SpawnObject, Destroy}
use Rattle.mc_packets.specs.declared.meta.MetaEntry.{MetaEntry}
use Rattle.mc_model.specs.declared.seen.TheConstants.{DESTROYED_MAX}
use Rattle.mc_model.specs.declared.seen.SeenKind.{SeenKind}
use Rattle.mc_model.specs.declared.seen.SeenKind.TheVariants as seen_kinds
use Rattle.mc_model.specs.Sight.{Seen, Sight}
use Rattle.mc_model.specs.Replica.{Entities, apply, replay, seeing, coming, without_eids}
use Rattle.mc_model.specs.Delta.{Follows, IsPileOf, IsSeen, parts_of, destroys_point, is_same_slot}
use Rattle.mc_model.specs.Delta.{pile_packets, id_in_hand, hand_packets, no_flags, spawn_as}
use Rattle.mc_model.specs.Delta.{entity_packets, entities_point}
use Rattle.mc_model.proofs.FitsText.{both_true}
use Rattle.mc_model.proofs.Maps.Sorted.{take_out, is_without, kept, get_kept, all_put_in, put_there}
use Rattle.mc_laws.proofs.Leading.{Leads, onward, no_packets, led, walked}
use Rattle.mc_laws.proofs.PointsMoves.{with_seen, head_leads, pile_leads, form_leads, turn_leads}

-- ---- equal slots

-- a tag that is not there
no_tag : (tag : Option Named) → not (is_some tag) ≡ true → tag ≡ None
no_tag None e = refl
no_tag (Some tag) e = absurd cc

-- slots that pass the test are equal
pub same_slot : (a b : Slot) → is_same_slot a b ≡ true → a ≡ b
same_slot a b e = grind (arith, nat_tests, both_true, Decides-int_eq, no_tag)

-- ---- entities that are seen no more

-- the packet takes their numbers out
taken : (m : Entities) (test : ℤ → Bool) (es : List (ℤ × Seen)) →
    without_eids m (filter test (map (λ e. e.0) es))
    ≡ fold take_out m (filter (λ e. test e.0) es)
taken m test [] = refl
taken m test (e ∷ es) = grind (arith, nat_tests, taken (remove m e.0) test es, taken m test es)

-- numbers in two parts are all taken out
without_parts : (m : Entities) (most : ℕ) (eids : List ℤ) →
    without_eids (without_eids m (take most eids)) (drop most eids) ≡ without_eids m eids
without_parts m most eids = grind (arith, nat_tests, fold-append, take-append-drop most eids)

-- packets about entities that go, in parts of so many, change the entities alone
parts_lead : (n most : ℕ) (s : Sight) (eids : List ℤ) → 0 < most → length eids ≤ n →
    replay (seeing s) (map Destroy (parts_of n most eids))
    ≡ seeing (record s { entities = without_eids s.entities eids })
unfolding apply
parts_lead zero most s [] some le = refl
parts_lead zero most s (eid ∷ eids) some le = absurd (omega (arith, le))
parts_lead (suc n) most s [] some le = refl
parts_lead (suc n) most s (eid ∷ eids) some le =
    let size = length-drop most (eid ∷ eids) in
    parts_lead n most
    (record s { entities = without_eids s.entities (take most (eid ∷ eids)) })
    (drop most (eid ∷ eids)) some (omega (arith, le, some, size))
    ∙ ap (λ (m : Entities). seeing (record s { entities = m }))
    (without_parts s.entities most (eid ∷ eids))

-- the entities that the second sees no more go
pub destroys_point_leads : (p q s : Sight) →
    Leads (record s { entities = p.entities }) (destroys_point p q) (record s {
      entities = fold take_out p.entities
          (filter (is_without q.entities) (entries p.entities));
    })
destroys_point_leads p q s =
    let test : ℤ → Bool = λ eid. not (contains_key q.entities eid) in
    let gone : List ℤ = filter test (map (λ e. e.0) (entries p.entities)) in
    record {
      is = parts_lead (length gone) DESTROYED_MAX (record s { entities = p.entities }) gone
          (lit< tt) (omega arith)
          ∙ ap (λ (m : Entities). seeing (record s { entities = m }))
          (taken p.entities test (entries p.entities));
    }

-- ---- one entity

-- it holds or is the pile that is wanted, whose packet is of its kind
lying_leads : (s : Sight) (m : Entities) (k : ℤ) (e : Seen) (kind : SeenKind) (new : Slot) →
    e.kind ≡ kind → IsPileOf e.kind e.pile → IsPileOf kind new →
    Leads (with_seen s m k e) (pile_packets k kind e.pile new)
    (with_seen s m k (record e { kind = kind; pile = new }))
lying_leads s m k e kind new same was is =
    let told = pile_leads s m k new e was
    (subst (λ (x : SeenKind). IsPileOf x new) (sym same) is) in
    grind (arith, nat_tests, led, same_slot e.pile new, no_packets, told)

-- an entity that was seen is as it is wanted
change_leads : (s : Sight) (m : Entities) (k : ℤ) (old new : Seen) → get m k ≡ Some old →
    IsSeen old → IsSeen new → old.kind ≡ new.kind →
    Leads (record s { entities = m }) (entity_packets k (Some old) new) (with_seen s m k new)
change_leads s m k old new stands was seen same =
    let moved : Seen = record old { spot = new.spot } in
    let turned : Seen = record moved { head = new.spot.yaw } in
    led (ap (λ (n : Entities). record s { entities = n })
    (sym (put_there int_cmp_total int_cmp-IsAntisymmetric m k old stands)))
    (ap (λ (head : ℕ). with_seen s m k (record new { head = head })) (sym seen.head))
    (onward (onward (form_leads s m k old new seen)
    (turn_leads s m k moved old.spot new.spot was.head))
    (lying_leads s m k turned new.kind new.pile same was.pile seen.pile))

-- a player that comes is one that holds nothing yet
player_leads : (s : Sight) (m : Entities) (k : ℤ) (uuid : ℕ) (spot : Spot) (item : ℤ)
    (metas : List MetaEntry) →
    Leads (record s { entities = m })
    (SpawnPlayer k uuid spot.x spot.y spot.z spot.yaw spot.pitch item metas ∷ [])
    (with_seen s m k (coming (seen_kinds.Player uuid) spot))
unfolding apply
player_leads s m k uuid spot item metas = record { is = refl }

-- an object of kind 2 is an entity of which is not known yet what it is
object_leads : (s : Sight) (m : Entities) (k : ℤ) (spot : Spot) →
    Leads (record s { entities = m })
    (SpawnObject k (pos 2) spot.x spot.y spot.z spot.pitch spot.yaw (pos 0) None ∷ [])
    (with_seen s m k (coming seen_kinds.Dropped spot))
unfolding apply
object_leads s m k spot = record { is = refl }

-- a mob is one that has no pile
mob_leads : (s : Sight) (m : Entities) (k : ℤ) (spot : Spot) →
    Leads (record s { entities = m }) (spawn_as k seen_kinds.Mob spot slots.Empty)
    (with_seen s m k (coming seen_kinds.Mob spot))
unfolding apply
mob_leads s m k spot = record { is = refl }

-- a player that came holds what it is to hold
hand_leads : (s : Sight) (m : Entities) (k : ℤ) (uuid : ℕ) (spot : Spot) (pile : Slot) →
    Leads (with_seen s m k (coming (seen_kinds.Player uuid) spot)) (hand_packets k uuid pile)
    (with_seen s m k (record (coming (seen_kinds.Player uuid) spot) { pile = pile }))
hand_leads s m k uuid spot slots.Empty =
    no_packets (with_seen s m k (coming (seen_kinds.Player uuid) spot))
hand_leads s m k uuid spot (slots.Full stack) =
    pile_leads s m k (slots.Full stack) (coming (seen_kinds.Player uuid) spot) tt tt

-- one that comes is as it is wanted, but for its head
spawn_as_leads : (s : Sight) (m : Entities) (k : ℤ) (kind : SeenKind) (spot : Spot)
    (pile : Slot) → IsPileOf kind pile →
    Leads (record s { entities = m }) (spawn_as k kind spot pile)
    (with_seen s m k (record (coming kind spot) { pile = pile }))
spawn_as_leads s m k (seen_kinds.Player uuid) spot pile is =
    onward (player_leads s m k uuid spot (id_in_hand pile) no_flags)
    (onward (head_leads s m k spot.yaw (coming (seen_kinds.Player uuid) spot))
    (hand_leads s m k uuid spot pile))
spawn_as_leads s m k seen_kinds.Dropped spot pile is =
    onward (object_leads s m k spot) (pile_leads s m k pile (coming seen_kinds.Dropped spot) tt tt)
spawn_as_leads s m k seen_kinds.Mob spot pile is = led refl
    (ap (λ (slot : Slot). with_seen s m k (record (coming seen_kinds.Mob spot) { pile = slot }))
    (sym is)) (mob_leads s m k spot)

-- one that was not seen is as it is wanted
spawn_leads : (s : Sight) (m : Entities) (k : ℤ) (new : Seen) → IsSeen new →
    Leads (record s { entities = m }) (entity_packets k None new) (with_seen s m k new)
spawn_leads s m k new seen = grind (arith, nat_tests, led, spawn_as_leads)

-- once those that are seen no more are gone, the packets of each entity lead to what is wanted
pub entities_point_leads : (p q s : Sight) → Follows p q →
    Leads (record s {
      entities = fold take_out p.entities
          (filter (is_without q.entities) (entries p.entities));
    }) (entities_point p q) (record s { entities = q.entities })
entities_point_leads p q s follows =
    let left : Entities = fold take_out p.entities
    (filter (is_without q.entities) (entries p.entities)) in
    led refl
    (ap (λ (m : Entities). record s { entities = m })
    (all_put_in int_cmp_total int_cmp-IsAntisymmetric left q.entities
    (λ k none. get_kept int_cmp_total int_cmp-IsAntisymmetric p.entities q.entities k
    ∙ ap (kept (get p.entities k)) none)))
    (walked int_cmp_total (λ (m : Entities). record s { entities = m })
    (λ (e : ℤ × Seen). entity_packets e.0 (get p.entities e.0) e.1)
    (λ (k : ℤ) (v : Seen) (o : Option Seen).
    (o ≡ get p.entities k) × (get q.entities k ≡ Some v))
    (λ m k v before. cases m k v before.0 before.1 (get p.entities k) refl)
    (entries q.entities) (entries_sorted q.entities) left
    (λ k v found. (
      get_kept int_cmp_total int_cmp-IsAntisymmetric p.entities q.entities k
          ∙ ap (kept (get p.entities k)) (get-entries q.entities k ∙ found),
      get-entries q.entities k ∙ found,
    )))
  where
    cases : (m : Entities) (k : ℤ) (v : Seen) → get m k ≡ get p.entities k →
        get q.entities k ≡ Some v → (old : Option Seen) → get p.entities k ≡ old →
        Leads (record s { entities = m }) (entity_packets k old v) (with_seen s m k v)
    cases m k v before wanted None e = spawn_leads s m k v (follows.new.entities k v wanted)
    cases m k v before wanted (Some old) e =
        change_leads s m k old v (before ∙ e) (follows.old.entities k old e)
        (follows.new.entities k v wanted) (follows.kinds k old v e wanted)
