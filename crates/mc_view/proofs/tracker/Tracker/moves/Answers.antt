use Rattle.std.proofs.lemmas.Int.{to_z-of_z}
use lib.IntN.{ℤ}
use Rattle.std.proofs.Common.{rules, ◌≡◌, subst, set, get_or, List, FitsSigned, w32}
use Rattle.std.specs.FinMap as map
use Rattle.mc_view.specs.declared.tracker.Entry.{Entry}
use Rattle.mc_view.specs.Forms.{moves_of}
use Rattle.mc_view.specs.KeptTold.{IsAt, told_of}
use Rattle.mc_view.proofs.TrackerFacts.{of_told, rises_over, told_over}
use Rattle.mc_view.proofs.tracker.Tracker.moves.Goals as goal

pub invariant_of-self : goal.invariant_of-self
invariant_of-self c =
    let fits : FitsSigned w32 c.args.eid = search rules in
    let eid = to_z-of_z w32 c.args.eid fits in
    let es = c.self.inside.entries.items in
    let at = c.place_in-at.result in
    let was = c.index_mut.result.now in
    let is =
    subst (λ (es : List Entry). IsAt es c.args.eid at) c.as_slice.ensures.value
    (subst (λ (k : ℤ). IsAt c.as_slice.result.now k at) eid c.place_in-at.ensures) in
    let read : was ≡ get_or es at was = search rules in
    rises_over es c.args.eid at was c.self.invariant is read c.args.spot c.index_mut.result.now.pile

pub returns-clause-keeps : goal.returns-clause-keeps
returns-clause-keeps c =
    let fits : FitsSigned w32 c.args.eid = search rules in
    let eid = to_z-of_z w32 c.args.eid fits in
    let es = c.self.inside.entries.items in
    let at = c.place_in-at.result in
    let was = c.index_mut.result.now in
    let is =
    subst (λ (es : List Entry). IsAt es c.args.eid at) c.as_slice.ensures.value
    (subst (λ (k : ℤ). IsAt c.as_slice.result.now k at) eid c.place_in-at.ensures) in
    let read : was ≡ get_or es at was = search rules in
    let new : Entry =
    record { eid = was.eid; spot = c.args.spot; pile = c.index_mut.result.now.pile } in
    rw (← c.self.view_is) (of_told es c.args.eid at was c.self.invariant is read
    (λ told. told_of (set es at new) ≡ map.insert (told_of es) c.args.eid (c.args.spot, told.1))
    (told_over es c.args.eid at was c.self.invariant is read c.args.spot
    c.index_mut.result.now.pile))

pub returns-clause-moves : goal.returns-clause-moves
returns-clause-moves c =
    let fits : FitsSigned w32 c.args.eid = search rules in
    let eid = to_z-of_z w32 c.args.eid fits in
    let es = c.self.inside.entries.items in
    let at = c.place_in-at.result in
    let was = c.index.result.now in
    let is =
    subst (λ (es : List Entry). IsAt es c.args.eid at) c.as_slice.ensures.value
    (subst (λ (k : ℤ). IsAt c.as_slice.result.now k at) eid c.place_in-at.ensures) in
    let read : was ≡ get_or es at was = search rules in
    rw (← c.self.view_is) (of_told es c.args.eid at was c.self.invariant is read
    (λ told. c.form-moves.result ≡ moves_of told.0 c.args.spot) c.form-moves.ensures)
