use Rattle.std.proofs.Common.{rules, ◌≡◌, ◌++◌, ◌<◌, ◌≤◌, List, drop, take, length, get_or, subst}
use Rattle.std.proofs.Common.{ℕ, arith, ap, ◌∙◌, sym}
use Rattle.std.proofs.lemmas.Result.{on_ok_weaker}
use Rattle.std.specs.FinMap.{entries}
use lib.IntN.{ℤ}
use Rattle.mc_told.specs.declared.moved.Moved.{Moved}
use Rattle.mc_told.specs.Runs.{frames_in}
use Rattle.mc_told.proofs.Runs.{joined_run, rows_are, starts_rise}
use Rattle.mc_told.proofs.encoded_moves.EncodedMoves.put_between.Goals as goal

pub split_at-requires-then-behind-len : goal.split_at-requires-then-behind-len
split_at-requires-then-behind-len c =
    let inside = c.self.inside in
    let starts = inside.starts.items in
    let first = c.args.first in
    let behind = c.args.behind in
    let lt : behind < length starts = search rules in
    let rise = starts_rise inside.rows.items inside.joined.items starts first behind
    c.index-then-behind-len.result.now c.index.result.now c.self.invariant.1 c.requires.rising lt in
    let long : length c.split_at.result.0.now ≡ c.index.result.now = search rules in
    omega (arith, c.index-then-behind-len.ensures, c.index.ensures, long, rise)

pub returns-then-behind-len : goal.returns-then-behind-len
returns-then-behind-len c =
    let inside = c.self.inside in
    let starts = inside.starts.items in
    let first = c.args.first in
    let behind = c.args.behind in
    let lt : behind < length starts = search rules in
    let same = rows_are inside.rows.items c.args.self.now c.self.invariant.0 c.self.view_is in
    let part : c.split_at-then-behind-len.result.1.now ≡ drop (get_or starts first _)
    (take (get_or starts behind _) inside.joined.items) = search rules in
    c.in_ok-extend_from_slice.ensures.items
    ∙ ap (λ (bytes : List ℕ). c.args.out.now.items ++ bytes) (part
    ∙ joined_run inside.rows.items inside.joined.items starts first behind
    c.index-then-behind-len.result.now c.index.result.now c.self.invariant.1 c.requires.rising lt
    ∙ ap (λ (es : List (ℤ × Moved)). frames_in (drop first (take behind es))) (sym same))

pub split_at-requires-2 : goal.split_at-requires-2
split_at-requires-2 c =
    let same = rows_are c.self.inside.rows.items c.args.self.now c.self.invariant.0 c.self.view_is in
    subst (λ (n : ℕ). c.args.behind ≤ n) (ap (λ (es : List (ℤ × Moved)). length es) same
    ∙ ap (λ (es : List (ℤ × Moved)). length es) (sym c.as_slice-2.ensures.value)) c.requires.within

pub returns : goal.returns
returns c =
    let out = c.args.out.now.items in
    let same = rows_are c.self.inside.rows.items c.args.self.now c.self.invariant.0 c.self.view_is in
    let part : c.split_at-3.result.1.now
    ≡ drop c.args.first (take c.args.behind (entries c.args.self.now)) =
    c.split_at-3.ensures.back ∙ ap (drop c.args.first) (c.split_at-2.ensures.front
    ∙ ap (take c.args.behind) (c.as_slice-2.ensures.value ∙ sym same)) in
    on_ok_weaker c.put_frames.result
    (λ (put : c.put_frames.new.out.items ≡ out ++ frames_in c.split_at-3.result.1.now). put
    ∙ ap (λ (es : List (ℤ × Moved)). out ++ frames_in es) part) c.put_frames.ensures
