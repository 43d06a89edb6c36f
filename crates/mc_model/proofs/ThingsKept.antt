-- Changes of things keep what packets rest on.
use Rattle.std.proofs.Common.{◌≡◌, ℕ, ◌+◌, List, [], ◌∷◌, map, refl, arith}
use Rattle.std.proofs.lemmas.Bool.Decides.{nat_tests}
use Rattle.std.specs.Prelude.{Bool, true, false, cond}
use lib.IntN.{pos}
use Rattle.mc_slots.specs.declared.pile.Pile.{Pile}
use Rattle.mc_entities.specs.declared.entity.Entity.{Entity}
use Rattle.mc_entities.specs.declared.entity.EntityKind.{EntityKind}
use Rattle.mc_entities.specs.Numbers.{changed}
use Rattle.mc_entities.specs.Kinds.{is_dropped}
use Rattle.mc_entities.specs.Folk.{dropped_in, eid_of}
use Rattle.mc_model.specs.declared.seen.SeenKind.{SeenKind}
use Rattle.mc_model.specs.declared.seen.SeenKind.TheVariants as seen_kinds
use Rattle.mc_model.specs.Things.{holding}
use Rattle.mc_model.specs.Fitting.{kind_seen}
use Rattle.mc_model.proofs.Lasting.{IsSteady}
use Rattle.mc_model.proofs.LastingKept.{holding_steady, steady_at}

-- ---- how many dropped items there are

abbrev pub one_if : Bool → ℕ
one_if b = cond b 1 0

pub dropped_more : (e : Entity) (es : List Entity) →
    dropped_in (e ∷ es) ≡ one_if (is_dropped e.kind) + dropped_in es
dropped_more e es = grind (arith, nat_tests)

-- whether clients see a dropped item
abbrev is_seen_dropped : SeenKind → Bool
is_seen_dropped seen_kinds.Dropped = true
is_seen_dropped other = false

-- a dropped item is what they see as one
seen_dropped : (kind : EntityKind) → is_dropped kind ≡ is_seen_dropped (kind_seen kind)
seen_dropped kind = grind (arith, nat_tests)

-- as many where no change makes another kind of an entity
dropped_mapped : (f : Entity → Entity) → IsSteady f → (es : List Entity) →
    dropped_in (map f es) ≡ dropped_in es
dropped_mapped f steady [] = refl
dropped_mapped f steady (e ∷ es) = grind (arith, nat_tests, dropped_mapped f steady es)

-- as many lie where one holds another pile
pub dropped_held : (eid : ℕ) (pile : Pile) (es : List Entity) →
    dropped_in (changed eid_of (pos eid) (holding pile) es) ≡ dropped_in es
dropped_held eid pile es = dropped_mapped _ (steady_at eid (holding pile) (holding_steady pile)) es
