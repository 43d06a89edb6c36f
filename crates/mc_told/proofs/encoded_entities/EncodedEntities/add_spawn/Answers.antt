use Rattle.std.proofs.Common.{◌≡◌, ℕ, List, rules, FitsSigned, sym, ap, subst, ◌∙◌}
use Rattle.std.specs.Int.{w32}
use Rattle.std.specs.Ordering.{int_cmp}
use Rattle.std.specs.FinMap.{FinMap, from_sorted, insert}
use Rattle.std.proofs.lemmas.Int.{to_z-of_z}
use Rattle.mc_told.specs.declared.row.Row.{Row}
use Rattle.mc_told.specs.declared.spawned.Spawned.{Spawned}
use Rattle.mc_told.specs.EntityFrames.{AreEncoded, EntitiesValue, spawn_bytes, spawn_of}
use Rattle.mc_told.proofs.EntityFrames.{spawn_added}
use Rattle.mc_told.proofs.encoded_entities.EncodedEntities.add_spawn.Goals as goal

pub returns-clause-ok : goal.returns-clause-ok
returns-clause-ok c =
    let e = c.args.entity.now in
    let es = c.self.inside.spawns.items in
    let fits : FitsSigned w32 e.eid = search rules in
    let same = to_z-of_z w32 e.eid fits in
    let row = c.entity_row-row.result in
    let spawned : Spawned = record { row = row; frames = c.in_ok-spawn_piece.field-0 } in
    let is : spawned ≡ spawn_of e =
    ap (λ (frames : List ℕ). record { row = row; frames = frames }) c.in_ok-spawn_piece.ensures
    ∙ ap (λ (r : Row). record { row = r; frames = spawn_bytes r }) c.entity_row-row.ensures.row in
    let put : from_sorted {R = int_cmp} c.put_row.new.rows.items
    ≡ insert (from_sorted es) e.eid (spawn_of e) =
    c.in_ok-put_row.ensures.ok ∙ (λ i. insert (from_sorted es) (same i) (is i)) in
    ap (λ (m : FinMap int_cmp Spawned). record {
      moves = c.self.inside.moves;
      spawns = m;
    }) put
    ∙ ap (λ (v : EntitiesValue). record v { spawns = insert v.spawns e.eid (spawn_of e) })
    c.self.view_is

pub returns-clause-frames : goal.returns-clause-frames
returns-clause-frames c = λ frames. subst AreEncoded (sym (returns-clause-ok c))
    (spawn_added c.args.self.now c.args.entity.now frames)
