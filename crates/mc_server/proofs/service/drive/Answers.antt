use Rattle.std.proofs.Common.{refl}
use Rattle.std.proofs.lemmas.Result.{err_from_is_err_and}
use Rattle.mc_model.specs.World.{new_world}
use Rattle.mc_server.proofs.Driven.{drove_deaf, drove_listened, drove_unready}
use Rattle.mc_server.proofs.NewServers.{drove_new}
use Rattle.mc_server.proofs.service.drive.Goals as goal

pub returns-in_default-clause-drove : goal.returns-in_default-clause-drove
returns-in_default-clause-drove g c = λ start are st.
    drove_new c.args.budget _ _ start c.args.server.now.inner _ are
    (drove_deaf c.args.budget _ _ (new_world start) c.args.server.now.inner st.stands
    c.requires.young c.in_default.ensures.tells)

pub returns-in_err-buffer-clause-drove : goal.returns-in_err-buffer-clause-drove
returns-in_err-buffer-clause-drove g c = λ start are st.
    let p = err_from_is_err_and c.from_residual.result c.from_residual.ensures.1 in
    rw (p.1, p.2) (drove_new c.args.budget _ _ start c.args.server.now.inner _ are
    (drove_unready c.args.budget _ _ (new_world start) c.args.server.now.inner c.requires.ticks.0
    c.requires.events c.in-Ok.ensures.tells))

pub returns-clause-drove : goal.returns-clause-drove
returns-clause-drove g c = λ start are st.
    drove_new c.args.budget _ _ start c.serve.new.server.inner _ are
    (drove_listened c.args.budget.port c.args.budget _ _ _ (new_world start)
    c.serve.new.server.inner _ c.in-Ok.ensures.tells
    (c.serve.ensures.drove (new_world start) st refl))
