-- What was encoded of entities stays their frames as more is encoded, and is found.
use Rattle.std.proofs.Common.{◌≡◌, ℕ, Bool, true, false, cond, List, Option, Some, None}
use Rattle.std.proofs.Common.{refl, sym, subst, ap, ◌∙◌, arith}
use Rattle.std.specs.Ordering.{int_cmp, eq_by_cmp}
use Rattle.std.proofs.lemmas.Cmp.{int_cmp_total}
use Rattle.std.specs.FinMap.{FinMap, empty, get, get-empty, get-insert, insert}
use Rattle.std.specs.FinMap.{int_cmp-IsAntisymmetric}
use Rattle.std.proofs.lemmas.Bool.Decides.{nat_tests}
use lib.IntN.{ℤ}
use Rattle.mc_fields.specs.declared.position.Spot.{Spot}
use Rattle.mc_entities.specs.declared.entity.Entity.{Entity}
use Rattle.mc_view.specs.Forms.{form_of}
use Rattle.mc_model.proofs.FitsText.{both_true}
use Rattle.mc_told.specs.declared.moved.Moved.{Moved}
use Rattle.mc_told.specs.declared.row.Row.{Row}
use Rattle.mc_told.specs.declared.spawned.Spawned.{Spawned}
use Rattle.mc_told.specs.EntityFrames.{AreEncoded, EntitiesValue, found_move, found_spawn}
use Rattle.mc_told.specs.EntityFrames.{frames_of_move, frames_of_row, is_move, is_same_row}
use Rattle.mc_told.specs.EntityFrames.{is_same_spot, is_still, move_bytes, move_of, no_entities}
use Rattle.mc_told.specs.EntityFrames.{spawn_bytes, spawn_of, with_move}
use Rattle.mc_told.specs.EntityFrames.{with_spawn}
use Rattle.mc_bytes.proofs.Trees.{equal}
use Rattle.mc_told.proofs.SameRows.{same_row, same_spot}

-- ---- what holds of each that is kept by a number

abbrev HoldOf : {V : Type 0} → (ℤ → V → Type 0) → FinMap int_cmp V → Type 0
HoldOf {V} P m = (q : ℤ) (v : V) → get m q ≡ Some v → P q v

none_hold : {V : Type 0} (P : ℤ → V → Type 0) → HoldOf P empty
none_hold P = λ q v e. let none : None ≡ Some v = sym (get-empty int_cmp q) ∙ e in absurd cc

-- one more
put_holds : {V : Type 0} (P : ℤ → V → Type 0) (m : FinMap int_cmp V) (k : ℤ) (v : V) →
    HoldOf P m → P k v → HoldOf P (insert m k v)
put_holds {V} P m k v all is = λ q w e. at q w (eq_by_cmp int_cmp q k) refl
    (sym (get-insert int_cmp_total m k v q) ∙ e)
  where
    at : (q : ℤ) (w : V) (t : Bool) → eq_by_cmp int_cmp q k ≡ t →
        cond t (Some v) (get m q) ≡ Some w → P q w
    at q w true t e =
        let same : v ≡ w = cc in
        subst (λ (n : ℤ). P n w) (sym (int_cmp-IsAntisymmetric q k (equal _ t)))
        (subst (P k) same is)
    at q w false t e = all q w e

-- ---- what was encoded

-- nothing was encoded yet
pub none_encoded : AreEncoded no_entities
none_encoded = record {
  moves = none_hold (λ eid (moved : Moved). moved.frames ≡ move_bytes eid moved.from moved.to);
  spawns = none_hold (λ eid (spawned : Spawned). spawned.frames ≡ spawn_bytes spawned.row);
}

-- an entity's move is added, if it moved
pub move_added : (old : EntitiesValue) (from : Spot) (e : Entity) → AreEncoded old →
    AreEncoded (with_move old from e)
move_added old from e frames = elim (is_still (form_of from e.spot)) as (λ b. AreEncoded
    (cond b old (record old { moves = insert old.moves e.eid (move_of from e) }))) [
      | true ↦ frames
      | false ↦ record {
        moves = put_holds (λ eid (moved : Moved).
            moved.frames ≡ move_bytes eid moved.from moved.to) old.moves e.eid (move_of from e)
            frames.moves refl;
        spawns = frames.spawns;
      }
    ]

-- one that is elsewhere has one more
pub move_more : (old : EntitiesValue) (from : Spot) (e : Entity) →
    is_still (form_of from e.spot) ≡ false →
    ◌≡◌ {A = EntitiesValue} (record old { moves = insert old.moves e.eid (move_of from e) })
    (with_move old from e)
move_more old from e goes = grind (arith, nat_tests)

-- what shows one is added
pub spawn_added : (old : EntitiesValue) (e : Entity) → AreEncoded old →
    AreEncoded (with_spawn old e)
spawn_added old e frames = record {
  moves = frames.moves;
  spawns = put_holds (λ eid (spawned : Spawned). spawned.frames ≡ spawn_bytes spawned.row)
      old.spawns e.eid (spawn_of e) frames.spawns refl;
}

-- ---- what is found

-- frames that are found of a move are its frames
pub move_found : (encoded : EntitiesValue) (eid : ℤ) (from to : Spot) (bytes : List ℕ) →
    AreEncoded encoded → Some bytes ≡ found_move encoded eid from to →
    bytes ≡ move_bytes eid from to
move_found encoded eid from to bytes frames is = at (get encoded.moves eid) refl is
  where
    at : (o : Option Moved) → get encoded.moves eid ≡ o → Some bytes ≡ frames_of_move from to o →
        bytes ≡ move_bytes eid from to
    at None there e = absurd cc
    at (Some moved) there e = elim (is_move from to moved) as (λ b. is_move from to moved ≡ b →
        Some bytes ≡ cond b (Some moved.frames) None → bytes ≡ move_bytes eid from to) [
          | true ↦ λ t f.
              let spots = both_true (is_same_spot moved.from from) (is_same_spot moved.to to) t in
              let own : bytes ≡ moved.frames = cc in
              own ∙ frames.moves eid moved there
              ∙ (λ i. move_bytes eid (same_spot moved.from from spots.0 i)
              (same_spot moved.to to spots.1 i))
          | false ↦ λ t f. absurd cc
        ] refl e

-- and those of what shows an entity show it
pub spawn_found : (encoded : EntitiesValue) (row : Row) (bytes : List ℕ) →
    AreEncoded encoded → Some bytes ≡ found_spawn encoded row → bytes ≡ spawn_bytes row
spawn_found encoded row bytes frames is = at (get encoded.spawns row.eid) refl is
  where
    at : (o : Option Spawned) → get encoded.spawns row.eid ≡ o →
        Some bytes ≡ frames_of_row row o → bytes ≡ spawn_bytes row
    at None there e = absurd cc
    at (Some spawned) there e = elim (is_same_row spawned.row row) as (λ b.
        is_same_row spawned.row row ≡ b → Some bytes ≡ cond b (Some spawned.frames) None →
        bytes ≡ spawn_bytes row) [
          | true ↦ λ t f.
              let own : bytes ≡ spawned.frames = cc in
              own ∙ frames.spawns row.eid spawned there
              ∙ ap spawn_bytes (same_row spawned.row row t)
          | false ↦ λ t f. absurd cc
        ] refl e
