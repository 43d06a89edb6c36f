-- What an entity is changes: the entity of its number alone, since numbers rise.
use Rattle.std.proofs.Common.{◌≡◌, List, [], ◌∷◌, refl, arith, ℤ, pos, ◌≤ℤ◌}
use Rattle.std.specs.Prelude.{Some, None}
use Rattle.std.proofs.lemmas.Bool.Decides.{nat_tests}
use Rattle.mc_entities.specs.declared.entity.Entity.{Entity}
use Rattle.mc_entities.specs.declared.entity.EntityKind.{EntityKind}
use Rattle.mc_entities.specs.Numbers.{Rise, changed, numbered}
use Rattle.mc_entities.specs.Folk.{FolkState, eid_of, entity_of, with_entity, with_kind}

-- those above a number stay
changed_above : (n low high : ℤ) (f : Entity → Entity) (es : List Entity) →
    Rise eid_of low es high → n ≤ℤ low → changed eid_of n f es ≡ es
changed_above n low high f [] r le = refl
changed_above n low high f (e ∷ es) r le =
    grind (arith, nat_tests, changed_above n e.eid high f es r.1)

-- two changes that do the same with the one of a number are one
changed_alike : (n low high : ℤ) (f g : Entity → Entity) (e : Entity) (es : List Entity) →
    Rise eid_of low es high → numbered eid_of n es ≡ Some e → f e ≡ g e →
    changed eid_of n f es ≡ changed eid_of n g es
changed_alike n low high f g e [] r found same = refl
changed_alike n low high f g e (x ∷ es) r found same =
    grind (arith, changed_alike n x.eid high f g e es r.1, changed_above)

-- where none has the number, all stay
changed_none : (n : ℤ) (f : Entity → Entity) (es : List Entity) →
    numbered eid_of n es ≡ None → changed eid_of n f es ≡ es
changed_none n f [] none = refl
changed_none n f (x ∷ es) none = grind (arith, nat_tests, changed_none n f es)

-- ---- by number

-- the one of a number becomes what it is changed to
pub kind_changed : (eid n : ℤ) (state : FolkState) (es : List Entity) (e : Entity)
    (f : EntityKind → EntityKind) → es ≡ state.entities → Rise eid_of (pos 0) es (pos state.given) →
    n ≡ eid → Some e ≡ entity_of n state →
    with_kind eid (f e.kind) state ≡ with_entity eid (λ x. record x { kind = f x.kind }) state
kind_changed eid n state es e f all rise is found = grind (arith, nat_tests, changed_alike)

-- nothing changes where none has it
pub none_changed : (eid n : ℤ) (f : Entity → Entity) (state : FolkState) → n ≡ eid →
    None ≡ entity_of n state → with_entity eid f state ≡ state
none_changed eid n f state is none = grind (arith, nat_tests, changed_none)
