use Rattle.std.proofs.Common.{rules, ◌≡◌, ◌<◌, ◌∙◌, List, length, get_or, subst, ap}
use Rattle.std.specs.FinMap.{FinMap, get}
use Rattle.std.specs.Ordering.{int_cmp}
use lib.IntN.{ℤ}
use Rattle.mc_told.specs.KeptRows.{IsAt}
use Rattle.mc_told.specs.declared.moved.Moved.{Moved}
use Rattle.mc_told.proofs.KeptRows.{got_at}
use Rattle.mc_told.proofs.Runs.{rows_are, run_one}
use Rattle.mc_told.proofs.encoded_moves.EncodedMoves.at.Goals as goal

pub index-requires : goal.index-requires
index-requires c =
    let lt : c.args.place < length c.self.inside.rows.items =
    subst (λ (es : List (ℤ × Moved)). c.args.place < length es)
    (rows_are c.self.inside.rows.items c.args.self.now c.self.invariant.0 c.self.view_is) c.requires
    in
    search rules

pub returns-clause-frames : goal.returns-clause-frames
returns-clause-frames c =
    let rows = c.self.inside.rows.items in
    let place = c.args.place in
    let row = c.index.result.now in
    let read : row ≡ get_or rows place row = search rules in
    let same = rows_are rows c.args.self.now c.self.invariant.0 c.self.view_is in
    run_one rows c.args.self.now place row same
    (subst (λ (es : List (ℤ × Moved)). place < length es) same c.requires) read

pub returns-clause-found : goal.returns-clause-found
returns-clause-found c = λ eid is.
    let rows = c.self.inside.rows.items in
    let place = c.args.place in
    let row = c.index.result.now in
    let read : row ≡ get_or rows place row = search rules in
    let same = rows_are rows c.args.self.now c.self.invariant.0 c.self.view_is in
    got_at rows eid place row c.self.invariant.0
    (subst (λ (es : List (ℤ × Moved)). IsAt es eid place) same is) read
    ∙ ap (λ (moves : FinMap int_cmp Moved). get moves eid) c.self.view_is
