use Rattle.std.proofs.Common.{◌≡◌, ℕ, List, false, rules, FitsSigned, sym, ap, subst, ◌∙◌}
use Rattle.std.specs.Int.{w32}
use Rattle.std.specs.Ordering.{int_cmp}
use Rattle.std.specs.FinMap.{FinMap, from_sorted, insert}
use Rattle.std.proofs.lemmas.Int.{to_z-of_z}
use lib.IntN.{ℤ}
use Rattle.mc_view.specs.Forms.{form_of}
use Rattle.mc_told.specs.declared.moved.Moved.{Moved}
use Rattle.mc_told.specs.EntityFrames.{AreEncoded, EntitiesValue, is_still, move_bytes, move_of}
use Rattle.mc_told.proofs.EntityFrames.{move_added, move_more}
use Rattle.mc_told.proofs.encoded_entities.EncodedEntities.add_move.Goals as goal

pub returns-clause-ok : goal.returns-clause-ok
returns-clause-ok c =
    let e = c.args.entity.now in
    let from = c.args.from.now in
    let moves = c.self.inside.moves in
    let fits : FitsSigned w32 e.eid = search rules in
    let same = to_z-of_z w32 e.eid fits in
    let goes : is_still (form_of from e.spot) ≡ false = search rules in
    let moved : Moved = record { from = from; to = e.spot; frames = c.in_ok-moves_piece.field-0 } in
    let is : moved ≡ move_of from e =
    ap (λ (frames : List ℕ). record { from = from; to = e.spot; frames = frames })
    (c.in_ok-moves_piece.ensures ∙ ap (λ (k : ℤ). move_bytes k from e.spot) same) in
    let put : c.put.new.self ≡ insert moves e.eid (move_of from e) =
    c.in_ok-put.ensures.ok ∙ (λ i. insert moves (same i) (is i)) in
    ap (λ (m : FinMap int_cmp Moved). record {
      moves = m;
      spawns = from_sorted c.self.inside.spawns.items;
    }) put
    ∙ ap (λ (v : EntitiesValue). record v { moves = insert v.moves e.eid (move_of from e) })
    c.self.view_is
    ∙ move_more c.args.self.now from e goes

pub returns-clause-frames : goal.returns-clause-frames
returns-clause-frames c = λ frames. subst AreEncoded (sym (returns-clause-ok c))
    (move_added c.args.self.now c.args.from.now c.args.entity.now frames)
