-- The packets of entities fit: those that show one, say what it holds or is, and take some away.
use Rattle.std.proofs.Common.{◌^◌, ◌<◌, ◌≤◌, ℕ, zero, suc, List, ◌∷◌, take, drop, length, map, lit<}
use Rattle.std.proofs.Common.{arith, ◌≢◌, []}
use Rattle.std.specs.Prelude.{None}
use Rattle.std.specs.Int.{w16, w32}
use Rattle.std.specs.List.{AllByRecursion}
use Rattle.std.proofs.lemmas.List.{length-take}
use lib.IntN.{ℤ, pos}
use mir.Val.{SFits}
use Rattle.mc_fields.specs.VarintFormat.{FitsVarint, varint-fits}
use Rattle.mc_slots.specs.declared.slot.Slot.{Slot}
use Rattle.mc_slots.specs.declared.slot.Slot.TheVariants as slots
use Rattle.mc_slots.specs.declared.pile.Pile.{Pile}
use Rattle.mc_slots.specs.Pile.{IsPile, slot_of}
use Rattle.mc_slots.specs.Slot.{FitsSlot}
use Rattle.mc_packets.specs.declared.down.Down.TheVariants.{SpawnPlayer, SpawnObject, Equipment}
use Rattle.mc_packets.specs.declared.down.Down.TheVariants.{Destroy, Meta, SpawnMob}
use Rattle.mc_packets.specs.declared.meta.MetaEntry.{MetaEntry}
use Rattle.mc_packets.specs.declared.meta.MetaValue.TheVariants as values
use Rattle.mc_model.specs.declared.seen.TheConstants.{DESTROYED_MAX}
use Rattle.mc_model.specs.declared.seen.SeenKind.{SeenKind}
use Rattle.mc_model.specs.declared.seen.SeenKind.TheVariants as seen_kinds
use Rattle.mc_model.specs.Packets.{of_play, for_play}
use Rattle.mc_model.specs.Delta.{parts_of, destroying, pile_told, id_in_hand, hand_packets}
use Rattle.mc_model.specs.Delta.{no_flags}
use Rattle.mc_model.proofs.Decodes.{IsClear, play_clear}
use Rattle.mc_model.proofs.AllFacts.{all_taken, all_dropped}
use Rattle.mc_model.proofs.FitsSize.{fields, all_fit, all_few}
use Rattle.mc_model.proofs.FitsList.{AreClear}
use Rattle.mc_model.proofs.FitsSlots.{SlotFits, pile_slot_fits}

-- ---- entities that go

-- a packet about so many
pub part_clear : (eids : List ℤ) → AllByRecursion (SFits w32) eids → length eids ≤ 4210 →
    IsClear for_play (of_play (Destroy eids))
part_clear eids f few =
    let counted : SFits w32 (pos (length eids)) = record { sfits = omega (arith, few) } in
    let all = all_fit (SFits w32) (FitsVarint 5) varint-fits eids f in
    let le = all_few (SFits w32) (λ eid. 5) 5 (λ eid s. omega arith) eids f in
    play_clear (Destroy eids) (search (fields, all)) (omega (arith, few, le))

-- packets about them, in parts of so many
parts_clear : (n most : ℕ) (eids : List ℤ) → AllByRecursion (SFits w32) eids → most ≤ 4210 →
    AreClear (map Destroy (parts_of n most eids))
parts_clear zero most eids f few = tt
parts_clear (suc n) most [] f few = tt
parts_clear (suc n) most (eid ∷ eids) f few =
    let size = length-take most (eid ∷ eids) in (
      part_clear (take most (eid ∷ eids)) (all_taken (SFits w32) most (eid ∷ eids) f)
          (omega (arith, size, few)),
      parts_clear n most (drop most (eid ∷ eids))
          (all_dropped (SFits w32) most (eid ∷ eids) f) few,
    )

-- the packets about entities that go
pub destroying_clear : (eids : List ℤ) → AllByRecursion (SFits w32) eids →
    AreClear (destroying eids)
destroying_clear eids f = parts_clear (length eids) DESTROYED_MAX eids f (omega arith)

-- ---- what it holds or is

-- Equipment, of a slot that fits
worn_clear : (eid : ℤ) (pile : Slot) → SFits w32 eid → SlotFits pile →
    IsClear for_play (of_play (Equipment eid (pos 0) pile))
worn_clear eid pile at f =
    play_clear (Equipment eid (pos 0) pile) (search (fields, f.fits)) (omega (arith, f.few))

-- Meta, of a slot that fits
lying_clear : (eid : ℤ) (pile : Slot) → SFits w32 eid → SlotFits pile →
    AreClear (pile_told eid seen_kinds.Dropped pile)
lying_clear eid pile at f =
    let other : ◌≢◌ {A = ℕ} 170 127 = λ e. omega (arith, e) in
    let lies : List MetaEntry = record { index = 10; value = values.Slot pile } ∷ [] in
    (play_clear (Meta eid lies) (search (fields, other, f.fits)) (omega (arith, f.few)), tt)

-- whichever it is, of a slot that fits
pub pile_slot_clear : (eid : ℤ) (kind : SeenKind) (pile : Slot) → SFits w32 eid → SlotFits pile →
    AreClear (pile_told eid kind pile)
pile_slot_clear eid (seen_kinds.Player uuid) pile at f = (worn_clear eid pile at f, tt)
pile_slot_clear eid seen_kinds.Dropped pile at f = lying_clear eid pile at f
pile_slot_clear eid seen_kinds.Mob pile at f = tt

-- and of that of a pile
pub pile_clear : (eid : ℤ) (kind : SeenKind) (pile : Pile) → SFits w32 eid → IsPile pile →
    AreClear (pile_told eid kind (slot_of pile))
pile_clear eid kind pile at is = pile_slot_clear eid kind (slot_of pile) at (pile_slot_fits pile is)

-- ---- an entity that comes

-- an object of kind 2, without a speed
pub object_clear : (eid x y z : ℤ) (yaw pitch : ℕ) → SFits w32 eid → SFits w32 x → SFits w32 y →
    SFits w32 z → yaw < 256 → pitch < 256 →
    IsClear for_play (of_play (SpawnObject eid (pos 2) x y z pitch yaw (pos 0) None))
object_clear eid x y z yaw pitch in_32 at_x at_y at_z at_yaw at_pitch =
    play_clear (SpawnObject eid (pos 2) x y z pitch yaw (pos 0) None) (search fields) (lit< tt)

-- the id of what is in a hand
pub hand_fits : (pile : Slot) → FitsSlot pile → SFits w16 (id_in_hand pile)
hand_fits slots.Empty f = record { sfits = lit< tt }
hand_fits (slots.Full stack) f = f.1.id

-- a player, with its flags
pub player_clear : (eid : ℤ) (uuid : ℕ) (x y z : ℤ) (yaw pitch : ℕ) (item : ℤ) → SFits w32 eid →
    uuid < 2 ^ 128 → SFits w32 x → SFits w32 y → SFits w32 z → yaw < 256 → pitch < 256 →
    SFits w16 item → IsClear for_play (of_play (SpawnPlayer eid uuid x y z yaw pitch item no_flags))
player_clear eid uuid x y z yaw pitch item in_32 in_128 at_x at_y at_z at_yaw at_pitch in_16 =
    let other : ◌≢◌ {A = ℕ} 0 127 = λ e. omega (arith, e) in
    play_clear (SpawnPlayer eid uuid x y z yaw pitch item no_flags) (search (fields, other))
    (lit< tt)

-- a mob, with its flags
pub mob_clear : (eid x y z : ℤ) (yaw pitch : ℕ) → SFits w32 eid → SFits w32 x → SFits w32 y →
    SFits w32 z → yaw < 256 → pitch < 256 →
    IsClear for_play (of_play
    (SpawnMob eid 90 x y z yaw pitch yaw (pos 0) (pos 0) (pos 0) no_flags))
mob_clear eid x y z yaw pitch in_32 at_x at_y at_z at_yaw at_pitch =
    let other : ◌≢◌ {A = ℕ} 0 127 = λ e. omega (arith, e) in
    play_clear (SpawnMob eid 90 x y z yaw pitch yaw (pos 0) (pos 0) (pos 0) no_flags)
    (search (fields, other)) (lit< tt)

-- what a packet can say of what an entity is: an identifier has 128 bits
abbrev pub KindFits : SeenKind → Type 0
KindFits (seen_kinds.Player uuid) = uuid < 2 ^ 128
KindFits seen_kinds.Dropped = Unit {0}
KindFits seen_kinds.Mob = Unit {0}

-- what a player that comes holds
pub hand_clear : (eid : ℤ) (uuid : ℕ) (pile : Slot) → SFits w32 eid → SlotFits pile →
    AreClear (hand_packets eid uuid pile)
hand_clear eid uuid slots.Empty in_32 f = tt
hand_clear eid uuid (slots.Full stack) in_32 f = (worn_clear eid (slots.Full stack) in_32 f, tt)
