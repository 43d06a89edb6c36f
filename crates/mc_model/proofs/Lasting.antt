-- Kinds of entities, which are theirs for good: a kind goes with each number that was given.
use Rattle.std.proofs.Common.{◌≡◌, ℕ, ◌≤◌}
use Rattle.std.specs.Prelude.{◌⊎◌, ◌<ℤ◌, List}
use Rattle.std.specs.List.{AllByRecursion}
use lib.IntN.{pos}
use Rattle.mc_entities.specs.declared.entity.Entity.{Entity}
use Rattle.mc_model.specs.Fitting.{GivenKinds, kind_seen}

-- one of a number that was given later, or else of its kind
abbrev pub IsSince : GivenKinds → Entity → Type 0
IsSince old e = (pos old.given <ℤ e.eid) ⊎ (kind_seen e.kind ≡ old.kind_at e.eid)

-- entities of which each is one of these, and no fewer numbers given than then
pub record Since (old : GivenKinds) (now_given : ℕ) (all : List Entity) : Type 0 where
  pub eids : old.given ≤ now_given
  pub entities : AllByRecursion (IsSince old) all

-- a change that leaves each entity its number and its kind
pub record IsSteady (f : Entity → Entity) : Type 0 where
  pub eid : (e : Entity) → (f e).eid ≡ e.eid
  pub kind : (e : Entity) → kind_seen (f e).kind ≡ kind_seen e.kind
