use Rattle.std.proofs.Common.{refl, sym, subst}
use Rattle.std.proofs.lemmas.Result.{on_ok_weaker}
use Rattle.std.specs.List.{AllByRecursion, filter}
use Rattle.mc_land.specs.Places.{IsPlace}
use Rattle.mc_flush.proofs.Changes.{loaded_places}
use Rattle.mc_flush.specs.Seeing.{loaded}
use Rattle.mc_view.specs.Sets.{all_of, is_within}
use Rattle.mc_showing.proofs.LookFacts.{view_begun, view_prepared, view_within}
use Rattle.mc_showing.proofs.ReadyFacts.{frames_more, prepares_itself}
use Rattle.mc_showing.proofs.prepare.prepare_view.Goals as goal

pub prepare_columns-requires : goal.prepare_columns-requires
prepare_columns-requires g c = subst (AllByRecursion IsPlace) (sym c.entered.ensures)
    (loaded_places c.args.mark.now c.args.view.now c.args.view.now.in_range)

pub returns-clause-frames : goal.returns-clause-frames
returns-clause-frames g c = λ list are.
    frames_more c.prepare_columns.new.game c.prepare_columns.new.game c.land.result.now list
    c.prepare_columns.new.encoded c.prepare_changes.new.encoded c.land.ensures
    (prepares_itself c.prepare_columns.new.game c.prepare_columns.new.game refl)
    (c.prepare_changes.ensures.frames list) (c.prepare_columns.ensures.frames list are)

pub returns-clause-prepared : goal.returns-clause-prepared
returns-clause-prepared g c =
    on_ok_weaker c.prepare_changes.result
    (view_prepared c.args.game.now c.prepare_columns.new.game c.land.result.now c.entered.result
    (loaded c.args.mark.now c.args.view.now)
    (filter (is_within c.args.mark.now.view) (all_of c.args.view.now)) c.land.ensures
    c.prepare_columns.ensures.same c.entered.ensures c.args.encoded.now
    c.prepare_columns.new.encoded c.prepare_changes.new.encoded
    c.in_ok-prepare_columns.ensures.loaded) c.prepare_changes.ensures.changed

pub returns-clause-bounded : goal.returns-clause-bounded
returns-clause-bounded g c =
    view_within c.args.game.now c.prepare_columns.new.game c.land.result.now c.entered.result
    (loaded c.args.mark.now c.args.view.now)
    (filter (is_within c.args.mark.now.view) (all_of c.args.view.now)) c.land.ensures
    c.prepare_columns.ensures.same c.entered.ensures c.args.steps.now
    c.prepare_columns.new.steps c.prepare_changes.new.steps c.prepare_columns.ensures.bounded
    c.prepare_changes.ensures.bounded

pub returns-in_err-prepare_columns-clause-bounded :
    goal.returns-in_err-prepare_columns-clause-bounded
returns-in_err-prepare_columns-clause-bounded g c =
    view_begun c.entered.result (loaded c.args.mark.now c.args.view.now) c.args.steps.now
    c.prepare_columns.new.steps _ c.entered.ensures c.prepare_columns.ensures.bounded
