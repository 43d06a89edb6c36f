use Rattle.std.proofs.Common.{refl, sym, ◌∙◌}
use Rattle.mc_links.specs.contracts.connection.Connection.{the_view}
use Rattle.mc_links.proofs.Replying.{replied}
use Rattle.mc_links.proofs.connection.Connection.reply_kept.Goals as goal

pub pass-requires-clause-within : goal.pass-requires-clause-within
pass-requires-clause-within c = (rw c.in-Frame.is at c.peek.ensures).within

pub pass-requires-clause-fine : goal.pass-requires-clause-fine
pass-requires-clause-fine c = (rw c.in-Frame.is at c.peek.ensures).fine

pub returns-clause-replied : goal.returns-clause-replied
returns-clause-replied c =
    replied (the_view c.self.inside) c.args.self.now c.self.inside.cause c.self.inside.session
    c.args.most c.args.online c.in-Frame.frame.now c.in-Some.reply.now c.push_slice.new.self
    c.pass.new.self _ c.has_room.result c.self.view_is refl
    (sym c.stage.ensures ∙ c.in-Status.is)
    (rw c.in-Some.is at c.kept_reply.ensures.step) refl c.has_room.ensures
    c.if-not-has_room.false c.in_ok-push_slice.ensures
    (c.pass.ensures.takes c.in-Frame.frame.now (rw c.in-Frame.is at c.peek.ensures).spelled)
