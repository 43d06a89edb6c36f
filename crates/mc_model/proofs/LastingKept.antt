-- Changes of entities keep their kinds.
use Rattle.std.proofs.Common.{◌≡◌, ℕ, ◌+◌, List, [], ◌∷◌, ◌++◌, map, refl, ◌∙◌, inr}
use Rattle.std.proofs.Common.{arith}
use Rattle.std.specs.Prelude.{Bool, if◌then◌else◌}
use Rattle.std.specs.List.{AllByRecursion, filter}
use Rattle.std.specs.Ordering.{int_eq}
use Rattle.std.proofs.lemmas.Cmp.{int_eq_equiv}
use Rattle.std.proofs.lemmas.Int.{ints}
use Rattle.std.proofs.lemmas.Bool.Decides.{nat_tests}
use lib.IntN.{ℤ, pos}
use lib.Signed.{◌≤ℤ◌}
use Rattle.mc_fields.specs.declared.position.Spot.{Spot}
use Rattle.mc_slots.specs.declared.pile.Item.{Item}
use Rattle.mc_slots.specs.declared.pile.Pile.{Pile}
use Rattle.mc_entities.specs.declared.entity.Entity.{Entity}
use Rattle.mc_entities.specs.declared.entity.EntityKind.{EntityKind}
use Rattle.mc_model.specs.declared.seen.SeenKind.{SeenKind}
use Rattle.mc_model.specs.Things.{standing, hand_of, holding, kind_of_item, lying_as}
use Rattle.mc_model.specs.Fitting.{GivenKinds, HasKind, HaveKinds, kind_seen}
use Rattle.mc_model.proofs.AllFacts.{all_joined, all_mapped, all_filtered}
use Rattle.mc_model.proofs.Lasting.{IsSince, Since}
use Rattle.mc_model.proofs.Lasting.{IsSteady}

-- ---- changes that are steady

-- one that stands somewhere else
pub standing_steady : (spot : Spot) → IsSteady (standing spot)
standing_steady spot = record { eid = λ e. refl; kind = λ e. refl }

-- it is seen as before
hand_seen : (pile : Pile) (kind : EntityKind) → kind_seen (hand_of pile kind) ≡ kind_seen kind
hand_seen pile kind = grind (arith, nat_tests)

-- one that holds another pile
pub holding_steady : (pile : Pile) → IsSteady (holding pile)
holding_steady pile = record { eid = λ e. refl; kind = λ e. hand_seen pile e.kind }

-- one that is another item
item_seen : (item : Item) (kind : EntityKind) →
    kind_seen (kind_of_item item kind) ≡ kind_seen kind
item_seen item kind = grind (arith, nat_tests)

pub lying_steady : (item : Item) → IsSteady (lying_as item)
lying_steady item = record { eid = λ e. refl; kind = λ e. item_seen item e.kind }

-- of one number alone
pub steady_at : (eid : ℕ) (f : Entity → Entity) → IsSteady f →
    IsSteady (λ e. if int_eq e.eid (pos eid) then f e else e)
steady_at eid f steady = grind (arith, nat_tests)

-- ---- entities that were known, and those since

-- one that was known still is
known_entity : (old : GivenKinds) (f : Entity → Entity) → IsSteady f → (e : Entity) →
    HasKind old e → HasKind old (f e)
known_entity old f steady e known = grind (arith, nat_tests)

-- steady changes keep them known
pub known_mapped : (f : Entity → Entity) (eids : ℕ) (entities : List Entity) → IsSteady f →
    HaveKinds eids entities → HaveKinds eids (map f entities)
known_mapped f eids entities steady known =
    let old : GivenKinds = record { given = eids; kind_at = known.kind_at } in
    record {
      kind_at = known.kind_at;
      entities = all_mapped (HasKind old) (HasKind old) f (known_entity old f steady) entities
          known.entities;
    }

-- and so it is where some go
pub known_filtered : (test : Entity → Bool) (eids : ℕ) (entities : List Entity) →
    HaveKinds eids entities → HaveKinds eids (filter test entities)
known_filtered test eids entities known = record {
  kind_at = known.kind_at;
  entities = all_filtered (HasKind (record { given = eids; kind_at = known.kind_at })) test
      entities known.entities;
}

-- one number more, of a kind
abbrev with_next : ℕ → EntityKind → (ℤ → SeenKind) → ℤ → SeenKind
with_next eid kind kind_at n = if int_eq n (pos eid) then kind_seen kind else kind_at n

-- has that kind
new_kind : (eid : ℕ) (kind : EntityKind) (kind_at : ℤ → SeenKind) →
    kind_seen kind ≡ with_next eid kind kind_at (pos eid)
new_kind eid kind kind_at = rw (int_eq_equiv.refl (pos eid)) refl

-- and those below it have theirs
old_kind : (eid : ℕ) (kind : EntityKind) (kind_at : ℤ → SeenKind) (n : ℤ) →
    n ≤ℤ pos eid → kind_at n ≡ with_next (eid + 1) kind kind_at n
old_kind eid kind kind_at n below = grind (arith, nat_tests, ints)

-- they are known with one that comes
pub known_more : (kind : EntityKind) (spot : Spot) (eids : ℕ) (entities : List Entity) →
    HaveKinds eids entities → HaveKinds (eids + 1)
    (entities ++ record { eid = pos (eids + 1); kind = kind; spot = spot } ∷ [])
known_more kind spot eids entities known =
    let more : ℤ → SeenKind = with_next (eids + 1) kind known.kind_at in
    record {
      kind_at = more;
      entities = all_joined (HasKind (record { given = eids + 1; kind_at = more })) entities _
          (each entities known.entities)
          ((omega (arith, ints), new_kind (eids + 1) kind known.kind_at), tt);
    }
  where
    each : (es : List Entity) →
        AllByRecursion (HasKind (record { given = eids; kind_at = known.kind_at })) es →
        AllByRecursion (HasKind (record {
          given = eids + 1;
          kind_at = with_next (eids + 1) kind known.kind_at;
        })) es
    each [] a = tt
    each (e ∷ es) a = (
      (omega (arith, ints, a.0.0), a.0.1 ∙ old_kind eids kind known.kind_at e.eid a.0.0),
      each es a.1,
    )

-- ---- entities since some were known

-- those that were known are since then
pub since_known : (old : GivenKinds) (entities : List Entity) →
    AllByRecursion (HasKind old) entities → Since old old.given entities
since_known old entities known = record { eids = omega arith; entities = each entities known }
  where
    each : (es : List Entity) → AllByRecursion (HasKind old) es → AllByRecursion (IsSince old) es
    each [] a = tt
    each (e ∷ es) a = (inr a.0.1, each es a.1)

-- one since then still is
since_entity : (old : GivenKinds) (f : Entity → Entity) → IsSteady f → (e : Entity) →
    IsSince old e → IsSince old (f e)
since_entity old f steady e h2 = grind (arith, nat_tests)

-- steady changes keep them so
pub since_mapped : {old : GivenKinds} {eids : ℕ} (f : Entity → Entity) (entities : List Entity) →
    IsSteady f → Since old eids entities → Since old eids (map f entities)
since_mapped {old} f entities steady since = record {
  eids = since.eids;
  entities = all_mapped (IsSince old) (IsSince old) f (since_entity old f steady) entities
      since.entities;
}

-- and so it is where some go
pub since_filtered : {old : GivenKinds} {eids : ℕ} (test : Entity → Bool)
    (entities : List Entity) → Since old eids entities → Since old eids (filter test entities)
since_filtered test entities since = grind (arith, nat_tests, all_filtered)

-- and where one comes
pub since_more : {old : GivenKinds} {eids : ℕ} (kind : EntityKind) (spot : Spot)
    (entities : List Entity) → Since old eids entities → Since old (eids + 1)
    (entities ++ record { eid = pos (eids + 1); kind = kind; spot = spot } ∷ [])
since_more kind spot entities since = grind (arith, nat_tests, ints, all_joined)
