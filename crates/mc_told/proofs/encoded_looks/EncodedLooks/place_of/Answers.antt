use Rattle.std.proofs.Common.{◌≡◌, ◌+◌, Bool, true, ◌∙◌, cond, ap, sym, subst, w32}
use Rattle.std.proofs.lemmas.Int.{to_z-of_z}
use Rattle.std.specs.Ordering.{int_cmp}
use Rattle.std.specs.Prelude.{Some, None}
use Rattle.std.specs.FinMap.{FinMap, entries, get}
use lib.IntN.{ℤ}
use Rattle.mc_told.specs.declared.moved.Moved.{Moved}
use Rattle.mc_told.specs.EntityFrames.{frames_of_move, is_move}
use Rattle.mc_told.specs.KeptRows.{IsAt}
use Rattle.mc_told.specs.Runs.{IsMoveAt, LooksValue, frames_between}
use Rattle.mc_told.proofs.encoded_looks.EncodedLooks.place_of.Goals as goal

pub returns-then-is : goal.returns-then-is
returns-then-is c =
    let from = c.args.from.now in
    let to = c.args.to.now in
    let eid = c.args.eid in
    let at = c.in-Ok.at in
    let moved = c.at.result.now in
    let are = c.moves-moves.ensures in
    let stands : IsAt (entries c.moves-moves.result.now) eid at =
    subst (λ (k : ℤ). IsAt (entries c.moves-moves.result.now) k at)
    (to_z-of_z w32 eid c.ranges.eid) c.in-Ok.ensures.found in
    let there : Some moved ≡ get c.self.inside.encoded.now.moves eid =
    c.at.ensures.found eid stands ∙ ap (λ (m : FinMap int_cmp Moved). get m eid) are in
    let same : is_move from to moved ≡ true = sym c.is.ensures ∙ c.if-is.true in
    let own : IsMoveAt c.self.inside.encoded.now eid from to at = record {
      within = (subst (λ (m : FinMap int_cmp Moved). IsAt (entries m) eid at) are stands).within;
      is = ap Some (ap (λ (m : FinMap int_cmp Moved). frames_between m at (at + 1)) (sym are)
          ∙ c.at.ensures.frames)
          ∙ ap (λ (b : Bool). cond b (Some moved.frames) None) (sym same)
          ∙ ap (frames_of_move from to) there;
    } in
    subst (λ (looks : LooksValue). IsMoveAt looks.encoded eid from to at) c.self.view_is own
