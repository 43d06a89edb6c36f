-- How many entities there are: no more than dropped items, players and the mobs with which a world
-- can begin. So no sight has more of them than one Destroy holds.
use Rattle.std.proofs.Common.{◌≡◌, ℕ, ◌+◌, ◌≤◌, Bool, true, false, List, [], ◌∷◌, ◌++◌}
use Rattle.std.proofs.Common.{length, map, zero, suc, Some, refl, sym, subst, ap, ◌∙◌, arith}
use Rattle.std.proofs.lemmas.List.{drop_all, length-append, length-map}
use Rattle.std.specs.Prelude.{not, if◌then◌else◌}
use Rattle.std.specs.List.{filter}
use Rattle.std.specs.Ordering.{int_eq}
use Rattle.std.specs.FinMap.{contains_key, entries, keys, len}
use lib.IntN.{ℤ, pos}
use Rattle.mc_entities.specs.declared.entity.Entity.{Entity}
use Rattle.mc_entities.specs.declared.entity.EntityKind.{EntityKind}
use Rattle.mc_entities.specs.declared.entity.EntityKind.TheVariants as kinds
use Rattle.mc_entities.specs.Kinds.{is_dropped}
use Rattle.mc_entities.specs.Numbers.{changed, numbered, without}
use Rattle.mc_entities.specs.Folk.{dropped_in, eid_of}
use Rattle.mc_packets.specs.declared.down.Down.{Down}
use Rattle.mc_packets.specs.declared.down.Down.TheVariants.{Destroy}
use Rattle.mc_model.specs.declared.mobs.TheConstants.{MOBS_MAX}
use Rattle.mc_model.specs.declared.seen.TheConstants.{DESTROYED_MAX}
use Rattle.mc_model.specs.Delta.{destroys_point, parts_of}
use Rattle.mc_model.specs.Game.{Game, pack_of}
use Rattle.mc_model.specs.Good.{is_body}
use Rattle.mc_model.specs.Sight.{Seen, Sight}
use Rattle.mc_model.specs.Things.{holding, in_hand, standing}
use Rattle.mc_model.proofs.AllFacts.{few_filtered}
use Rattle.mc_model.proofs.Lasting.{IsSteady}
use Rattle.mc_model.proofs.LastingKept.{holding_steady, standing_steady, steady_at}
use Rattle.mc_model.proofs.ThingsKept.{dropped_more, one_if}
use Rattle.mc_laws.proofs.FitsSight.{SightFits}
use Rattle.mc_laws.proofs.Deeds.Made.{AreDeeds, Deed, rehands, repacks, restocks, says, sets}
use Rattle.mc_laws.proofs.Deeds.Made.{stands, throws, touches}
use Rattle.mc_laws.proofs.Fits.Told.{dropped_come, dropped_mapped}

-- ---- entities that come, change and go

-- of two lists of entities the second has no more that are no dropped items
abbrev pub AreNoMore : List Entity → List Entity → Type 0
AreNoMore es fs = length fs + dropped_in es ≤ length es + dropped_in fs

pub mapped_counts : (f : Entity → Entity) → IsSteady f → (es : List Entity) →
    AreNoMore es (map f es)
mapped_counts f steady es =
    let size = length-map {B = Entity} es f in
    let lying = dropped_mapped f steady es in
    omega (arith, size, lying)

pub changed_counts : (eid : ℕ) (f : Entity → Entity) → IsSteady f → (es : List Entity) →
    AreNoMore es (changed eid_of (pos eid) f es)
changed_counts eid f steady es = mapped_counts _ (steady_at eid f steady) es

-- where a dropped item comes
come_counts : (es : List Entity) (e : Entity) → is_dropped e.kind ≡ true →
    AreNoMore es (es ++ e ∷ [])
come_counts es e is =
    let more = dropped_come es e in
    let one = ap one_if is in
    let size = length-append es (e ∷ []) in
    omega (arith, more, one, size)

-- where some go
pub without_counts : (n : ℤ) (es : List Entity) → AreNoMore es (without eid_of n es)
without_counts n [] = omega arith
without_counts n (e ∷ es) = step (int_eq e.eid n) (is_dropped e.kind) refl (without_counts n es)
  where
    step : (b d : Bool) → is_dropped e.kind ≡ d → AreNoMore es (without eid_of n es) →
        AreNoMore (e ∷ es) (if not b then e ∷ without eid_of n es else without eid_of n es)
    step true true is later = (let more = dropped_more e es in
        let one = ap one_if is in omega (arith, later, more, one))
    step true false is later = (let more = dropped_more e es in
        let one = ap one_if is in omega (arith, later, more, one))
    step false d is later = (let more = dropped_more e es in
        let still = dropped_more e (without eid_of n es) in omega (arith, later, more, still))

body_lies_not : (kind : EntityKind) → is_body kind ≡ true → is_dropped kind ≡ false
body_lies_not (kinds.Player uuid held) is = refl
body_lies_not (kinds.Dropped item born) is = absurd cc
body_lies_not kinds.Mob is = refl

-- where a player's goes, there is one less
pub body_gone : (n : ℤ) (es : List Entity) (x : Entity) → numbered eid_of n es ≡ Some x →
    is_body x.kind ≡ true →
    length (without eid_of n es) + 1 + dropped_in es
    ≤ length es + dropped_in (without eid_of n es)
body_gone n [] x found is = absurd cc
body_gone n (e ∷ es) x found is =
    step (int_eq e.eid n) found (λ later. body_gone n es x later is)
  where
    step : (b : Bool) → (if b then Some e else numbered eid_of n es) ≡ Some x →
        (numbered eid_of n es ≡ Some x → length (without eid_of n es) + 1 + dropped_in es
        ≤ length es + dropped_in (without eid_of n es)) →
        length (if not b then e ∷ without eid_of n es else without eid_of n es) + 1
        + dropped_in (e ∷ es) ≤ length (e ∷ es)
        + dropped_in (if not b then e ∷ without eid_of n es else without eid_of n es)
    step true found later =
        let same : e ≡ x = cc in
        let none = ap one_if (body_lies_not e.kind (ap (λ (y : Entity). is_body y.kind) same ∙ is))
        in
        let rest = without_counts n es in
        let more = dropped_more e es in
        omega (arith, none, rest, more)
    step false found later =
        let rest = later found in
        let more = dropped_more e es in
        let still = dropped_more e (without eid_of n es) in
        omega (arith, rest, more, still)

-- ---- games

-- there are no more entities than dropped items, players and the mobs with which a world can begin
abbrev pub IsCounted : Game → Type 0
IsCounted g = length g.entities ≤ dropped_in g.entities + len g.players + MOBS_MAX

module _ (G T H : Type 0) (k : ℕ) where
  deed_counts : (g v : Game) → Deed G T H k g v → AreNoMore g.entities v.entities
  deed_counts g v (touches f of_players fits rest are) =
      subst (AreNoMore g.entities) (sym rest.entities) (omega arith)
  deed_counts g v (repacks j p pack there is same) =
      subst (λ (u : Game). AreNoMore g.entities u.entities) (sym same)
      (changed_counts p.eid (holding (in_hand pack p.hand)) (holding_steady _) g.entities)
  deed_counts g v (rehands p hand there small same) =
      subst (λ (u : Game). AreNoMore g.entities u.entities) (sym same)
      (changed_counts p.eid (holding (in_hand (pack_of g p) hand)) (holding_steady _) g.entities)
  deed_counts g v (stands p spot there fits same) =
      subst (λ (u : Game). AreNoMore g.entities u.entities) (sym same)
      (changed_counts p.eid (standing spot) (standing_steady spot) g.entities)
  deed_counts g v (throws item spot can same) =
      subst (λ (u : Game). AreNoMore g.entities u.entities) (sym same)
      (come_counts g.entities (record {
        eid = pos (g.eids + 1);
        kind = kinds.Dropped item g.age;
        spot = spot;
      }) refl)
  deed_counts g v (sets cell state inside is same) = rw same (omega arith)
  deed_counts g v (restocks cell piles there are same) = rw same (omega arith)
  deed_counts g v (says line fits same) = rw same (omega arith)

  pub deeds_count : (g : Game) (us : List Game) (v : Game) → AreDeeds G T H k g us v →
      AreNoMore g.entities v.entities
  deeds_count g [] v are = subst (λ (u : Game). AreNoMore g.entities u.entities) (sym are)
      (omega arith)
  deeds_count g (u ∷ us) v are =
      let first = deed_counts g u are.0 in
      let later = deeds_count u us v are.1 in
      omega (arith, first, later)

-- ---- sights

-- a list that is not longer is parted in one
one_part : (n most : ℕ) (eids : List ℤ) → length eids ≤ most →
    length (parts_of n most eids) ≤ 1
one_part zero most eids few = omega arith
one_part (suc n) most [] few = omega arith
one_part (suc n) most (eid ∷ eids) few =
    let none = ap (parts_of n most) (drop_all most (eid ∷ eids) few) in
    let rest : parts_of n most [] ≡ [] = no_parts n in
    rw (none, rest) (omega arith)
  where
    no_parts : (m : ℕ) → parts_of m most [] ≡ []
    no_parts zero = refl
    no_parts (suc m) = refl

-- so who was shown a sight is sent one Destroy at most
pub one_destroy : (p q : Sight) → SightFits p → length (destroys_point p q) ≤ 1
one_destroy p q fits =
    let gone : List ℤ = filter (λ (eid : ℤ). not (contains_key q.entities eid)) (keys p.entities) in
    let fewer = few_filtered (λ (eid : ℤ). not (contains_key q.entities eid)) (keys p.entities) in
    let all = length-map {B = ℤ} (entries p.entities) (λ (e : ℤ × Seen). e.0) in
    let crowd = fits.crowd in
    let one = one_part (length gone) DESTROYED_MAX gone (omega (arith, fewer, all, crowd)) in
    omega (arith, one, length-map {B = Down} (parts_of (length gone) DESTROYED_MAX gone) Destroy)
