use Rattle.mc_play.specs.Kept.{land_of}
use Rattle.mc_showing.proofs.LookFacts.{load_as, load_within}
use Rattle.mc_showing.proofs.ReadyFacts.{frames_more, now_ready, prepares_one}
use Rattle.mc_showing.proofs.prepare.prepare_place.Goals as goal

pub add_load-requires : goal.add_load-requires
add_load-requires g c = rw c.land.ensures
    (now_ready (land_of c.args.game.now) (land_of c.ready.new.self) c.args.place.now
    c.in_ok-ready.ensures.land c.requires)

pub returns-in_err-add_load-clause-same : goal.returns-in_err-add_load-clause-same
returns-in_err-add_load-clause-same g c =
    prepares_one c.args.game.now c.ready.new.self c.args.place.now c.in_ok-ready.ensures.land
    c.in_ok-ready.ensures.game c.in_ok-ready.ensures.settled

pub returns-in_err-add_load-clause-frames : goal.returns-in_err-add_load-clause-frames
returns-in_err-add_load-clause-frames g c = λ list are.
    frames_more c.args.game.now c.ready.new.self c.land.result.now list c.args.encoded.now
    c.add_load.new.self c.land.ensures
    (prepares_one c.args.game.now c.ready.new.self c.args.place.now c.in_ok-ready.ensures.land
    c.in_ok-ready.ensures.game c.in_ok-ready.ensures.settled)
    (c.add_load.ensures.frames list) are

pub returns-in_err-add_load-clause-bounded : goal.returns-in_err-add_load-clause-bounded
returns-in_err-add_load-clause-bounded g c =
    load_within c.args.steps.now c.add_load.new.steps c.args.encoded.now c.args.place.now
    c.add_load.ensures.bounded

pub returns-clause-ready : goal.returns-clause-ready
returns-clause-ready g c =
    now_ready (land_of c.args.game.now) (land_of c.ready.new.self) c.args.place.now
    c.in_ok-ready.ensures.land c.requires

pub returns-clause-same : goal.returns-clause-same
returns-clause-same g c =
    prepares_one c.args.game.now c.ready.new.self c.args.place.now c.in_ok-ready.ensures.land
    c.in_ok-ready.ensures.game c.in_ok-ready.ensures.settled

pub returns-clause-frames : goal.returns-clause-frames
returns-clause-frames g c = λ list are.
    frames_more c.args.game.now c.ready.new.self c.land.result.now list c.args.encoded.now
    c.add_load.new.self c.land.ensures
    (prepares_one c.args.game.now c.ready.new.self c.args.place.now c.in_ok-ready.ensures.land
    c.in_ok-ready.ensures.game c.in_ok-ready.ensures.settled)
    (c.add_load.ensures.frames list) are

pub returns-clause-loaded : goal.returns-clause-loaded
returns-clause-loaded g c =
    load_as c.args.game.now c.ready.new.self c.land.result.now c.args.encoded.now
    c.add_load.new.self c.args.place.now c.land.ensures
    (prepares_one c.args.game.now c.ready.new.self c.args.place.now c.in_ok-ready.ensures.land
    c.in_ok-ready.ensures.game c.in_ok-ready.ensures.settled) c.in_ok-add_load.ensures.ok

pub returns-clause-bounded : goal.returns-clause-bounded
returns-clause-bounded g c =
    load_within c.args.steps.now c.add_load.new.steps c.args.encoded.now c.args.place.now
    c.add_load.ensures.bounded
