use Rattle.std.proofs.Common.{◌≤◌, ◌+◌, ◌++◌, ℕ, Option, ap, sym, subst, ◌∙◌}
use Rattle.std.specs.List.{AllByRecursion}
use Rattle.mc_frame.specs.Kept.{joined}
use Rattle.mc_view.specs.declared.view_set.ViewSet.{ViewSet}
use Rattle.mc_sending.specs.Sending.{play_bytes}
use Rattle.mc_loads.specs.Columns.{IsReady, entered_of, packets_between}
use Rattle.mc_loads.specs.ColumnFrames.{AreColumnFrames, looks}
use Rattle.mc_flush.proofs.client_view.ClientView.push_columns.Goals as goal

pub push_columns-requires : goal.push_columns-requires
push_columns-requires g c =
    let v = c.args.self.now in
    let frames : AreColumnFrames v.land.now
    (record { loads = c.args.encoded.now.loads; changes = c.args.encoded.now.changes }) =
    record { loads = c.requires.frames.loads; changes = c.requires.frames.changes } in
    record {
      ready = subst (λ (was : Option ViewSet). AllByRecursion (IsReady v.land.now)
          (entered_of was v.view)) (sym c.shown.ensures) c.requires.ready;
      frames = subst (AreColumnFrames v.land.now) (sym c.columns.ensures) frames;
    }

pub returns-clause-sent : goal.returns-clause-sent
returns-clause-sent g c =
    let v = c.args.self.now in
    c.in_ok-push_columns.ensures.sent
    ∙ ap (λ (was : Option ViewSet). joined c.args.out.now.items
    ++ play_bytes (packets_between v.land.now was v.view)) c.shown.ensures

pub returns-clause-cost : goal.returns-clause-cost
returns-clause-cost g c =
    let v = c.args.self.now in
    c.in_ok-push_columns.ensures.cost
    ∙ (λ i. c.args.steps.now + looks (c.columns.ensures i) v.land.now (c.shown.ensures i) v.view)

pub returns-in_err-push_columns-clause-bounded : goal.returns-in_err-push_columns-clause-bounded
returns-in_err-push_columns-clause-bounded g c =
    let v = c.args.self.now in
    subst (λ (n : ℕ). c.push_columns.new.steps ≤ c.args.steps.now + n)
    (λ i. looks (c.columns.ensures i) v.land.now (c.shown.ensures i) v.view)
    c.push_columns.ensures.bounded
