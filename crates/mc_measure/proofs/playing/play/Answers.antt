use Rattle.std.proofs.lemmas.Result.{IfOk-weaker}
use Rattle.mc_model.specs.Step.{step}
use Rattle.mc_events.specs.Inputs.{event_of}
use Rattle.mc_measure.proofs.Played.{played_one}
use Rattle.mc_measure.proofs.playing.play.Goals as goal

pub returns-clause-played : goal.returns-clause-played
returns-clause-played g c w bytes st =
    let now = c.in_ok-event.ensures.follows w st in
    IfOk-weaker c.settle.result _ _
    (λ count s. played_one c.args.input w c.settle.new.server _ count bytes s.0 now.plans s.1 s.2)
    (c.settle.ensures.settled (step w (event_of c.args.input)).world now.stands)
