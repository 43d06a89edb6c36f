use Rattle.std.proofs.Common.{◌≤◌, ◌+◌, sym, ap, subst, ◌∙◌}
use Rattle.std.specs.List.{AllByRecursion}
use Rattle.std.specs.FinMap.{entries, len}
use Rattle.mc_flush.specs.Encoding.{AreFrames, EncodedValue, with_lines}
use Rattle.mc_flush.specs.Lists.{ListValue}
use Rattle.mc_flush.specs.Seeing.{IsNamed}
use Rattle.mc_model.specs.Game.{Game}
use Rattle.mc_play.specs.Kept.{land_of}
use Rattle.mc_events.specs.Looks.{AreMarked, tick_looks}
use Rattle.mc_events.specs.contracts.server.Server.{the_view}
use Rattle.mc_events.specs.Served.{ServerValue, age_of}
use Rattle.mc_events.proofs.TickLooks.{columns_within, marked_itself, round_done}
use Rattle.mc_events.proofs.server.Server.show_clients.Goals as goal

pub show_all-requires-clause-scene : goal.show_all-requires-clause-scene
show_all-requires-clause-scene g c =
    let same = c.prepare_all.ensures.same in
    let back = sym c.self.view_is in
    let is = sym c.list.ensures.is in
    let frames = subst (λ (v : ServerValue). AreFrames (land_of v.game) v.list c.args.encoded.now)
    back c.requires.frames in
    let young = subst (λ (v : ServerValue). age_of v ≤ 1000000000) back c.requires.young in
    record {
      few = subst (λ (l : ListValue). len l.present ≤ 50) is c.list.ensures.few;
      few_before = subst (λ (l : ListValue). len l.last ≤ 50) is c.list.ensures.few_before;
      named = subst (λ (l : ListValue). AllByRecursion IsNamed (entries l.present)) is
          c.list.ensures.named;
      frames = subst (λ (l : ListValue). AreFrames (land_of c.prepare_all.new.game) l
          c.add_lines.new.self) is
          (c.add_lines.ensures.frames (land_of c.prepare_all.new.game) c.self.inside.list
          (c.add_entities.ensures.frames (land_of c.prepare_all.new.game) c.self.inside.list
          (c.prepare_all.ensures.frames c.self.inside.list frames)));
      young = subst (λ (g : Game). g.age ≤ 1000000000) (sym same.game) young;
    }

pub returns-clause-looks : goal.returns-clause-looks
returns-clause-looks g c =
    let old = the_view c.self.inside in
    subst (λ (v : ServerValue). c.show_all.new.steps ≤ c.args.steps.now
    + tick_looks v.game.settled v.game.game v.connections) c.self.view_is
    (round_done old.game c.prepare_all.new.game old.connections c.as_slice.result.now
    c.args.encoded.now c.prepare_all.new.encoded c.add_lines.new.self
    c.folk.result.now.state c.lines.result.now c.args.steps.now c.prepare_all.new.steps c.show_all.new.steps
    c.prepare_all.ensures.same (c.as_slice.ensures.value ∙ c.self.invariant.are)
    c.in_ok-prepare_all.ensures.prepared (c.in_ok-add_lines.ensures.ok
    ∙ ap (λ (e : EncodedValue). with_lines e c.lines.result.now) c.in_ok-add_entities.ensures.ok)
    c.prepare_all.ensures.bounded c.show_all.ensures.bounded)

pub returns-in_err-prepare_all-clause-looks : goal.returns-in_err-prepare_all-clause-looks
returns-in_err-prepare_all-clause-looks g c =
    let old = the_view c.self.inside in
    subst (λ (v : ServerValue). c.prepare_all.new.steps ≤ c.args.steps.now
    + tick_looks v.game.settled v.game.game v.connections) c.self.view_is
    (columns_within old.game.settled old.game.game old.connections c.args.steps.now
    c.prepare_all.new.steps c.prepare_all.ensures.bounded)

pub returns-in_err-add_entities-clause-looks : goal.returns-in_err-add_entities-clause-looks
returns-in_err-add_entities-clause-looks g c =
    let old = the_view c.self.inside in
    subst (λ (v : ServerValue). c.prepare_all.new.steps ≤ c.args.steps.now
    + tick_looks v.game.settled v.game.game v.connections) c.self.view_is
    (columns_within old.game.settled old.game.game old.connections c.args.steps.now
    c.prepare_all.new.steps c.prepare_all.ensures.bounded)

pub returns-in_err-add_lines-clause-looks : goal.returns-in_err-add_lines-clause-looks
returns-in_err-add_lines-clause-looks g c =
    let old = the_view c.self.inside in
    subst (λ (v : ServerValue). c.prepare_all.new.steps ≤ c.args.steps.now
    + tick_looks v.game.settled v.game.game v.connections) c.self.view_is
    (columns_within old.game.settled old.game.game old.connections c.args.steps.now
    c.prepare_all.new.steps c.prepare_all.ensures.bounded)

pub returns-clause-only : goal.returns-clause-only
returns-clause-only g c =
    subst (λ (v : ServerValue). AreMarked v.connections c.show_all.new.connections)
    c.self.view_is c.show_all.ensures.only

pub returns-in_err-prepare_all-clause-only : goal.returns-in_err-prepare_all-clause-only
returns-in_err-prepare_all-clause-only g c =
    subst (λ (v : ServerValue). AreMarked v.connections c.self.inside.connections)
    c.self.view_is (marked_itself c.self.inside.connections)

pub returns-in_err-add_entities-clause-only : goal.returns-in_err-add_entities-clause-only
returns-in_err-add_entities-clause-only g c =
    subst (λ (v : ServerValue). AreMarked v.connections c.self.inside.connections)
    c.self.view_is (marked_itself c.self.inside.connections)

pub returns-in_err-add_lines-clause-only : goal.returns-in_err-add_lines-clause-only
returns-in_err-add_lines-clause-only g c =
    subst (λ (v : ServerValue). AreMarked v.connections c.self.inside.connections)
    c.self.view_is (marked_itself c.self.inside.connections)
