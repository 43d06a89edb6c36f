use Rattle.std.proofs.Common.{◌∙◌}
use Rattle.mc_measure.specs.LoadText.{after_load, before_load}
use Rattle.mc_measure.proofs.Counts.{load_counted}
use Rattle.mc_measure.proofs.Keeps.{census_is, keeps_all, settings_are}
use Rattle.mc_measure.proofs.measured.measure.Goals as goal

pub returns-clause-census : goal.returns-clause-census
returns-clause-census c =
    let n = c.args.clients in
    let h = c.in_ok-played.ensures.played (before_load n) c.in_ok-server.ensures.stands in
    census_is n c.args.ticks c.census-census.result
    (c.census-census.ensures.is (after_load n c.args.ticks) h.stands)

pub returns-clause-bytes : goal.returns-clause-bytes
returns-clause-bytes c =
    let n = c.args.clients in
    let h = c.in_ok-played.ensures.played (before_load n) c.in_ok-server.ensures.stands in
    let keeps = keeps_all n c.args.ticks (settings_are n c.requires.some c.requires.few) h.bytes
    h.clear in
    h.counted ∙ load_counted n c.args.ticks keeps.whole

pub returns-clause-keeps : goal.returns-clause-keeps
returns-clause-keeps c =
    let n = c.args.clients in
    let h = c.in_ok-played.ensures.played (before_load n) c.in_ok-server.ensures.stands in
    keeps_all n c.args.ticks (settings_are n c.requires.some c.requires.few) h.bytes h.clear
