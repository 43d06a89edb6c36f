use Rattle.std.proofs.Common.{map, ◌∙◌, sym, ap}
use Rattle.std.proofs.lemmas.List.{take-map, length-map}
use Rattle.mc_server.proofs.Plans.{new_stands}
use Rattle.mc_server.proofs.server.Server.new.Goals as goal

pub returns-clause-stands : goal.returns-clause-stands
returns-clause-stands g c =
    new_stands c.args.settings (map (λ mind. g.M.Mind.plan mind) c.args.minds.items) _ _
    c.in_ok-inner.inner
    (ap (map (λ mind. g.M.Mind.plan mind)) c.truncate.ensures.items ∙ sym (take-map _ 64 _))
    (length-map _ _ ∙ sym c.truncate.new.self.ok.0 ∙ sym c.len.ensures) c.in_ok-inner.ensures

pub returns-clause-age : goal.returns-clause-age
returns-clause-age g c = ap (λ game. game.age) (c.in_ok-inner.ensures
    (map (λ mind. g.M.Mind.plan mind) c.truncate.new.self.items)
    (length-map _ _ ∙ sym c.truncate.new.self.ok.0 ∙ sym c.len.ensures)).game
