use Rattle.std.proofs.Common.{rules, ◌≡◌, ◌<◌, Bool, false, [], length, subst, ap, ◌∙◌, arith}
use Rattle.std.proofs.lemmas.List.{length-drop}
use Rattle.mc_frame.specs.Held.{Splitting}
use Rattle.mc_capture.specs.Hearings.{from_front, goes_on, heard_from}
use Rattle.mc_show.specs.Following.{Brings}
use Rattle.mc_show.proofs.Ways.{over_brings, piece_brings, silent_brings}
use Rattle.mc_show.proofs.following.take_piece.Goals as goal

pub loop-rest-init : goal.loop-rest-init
loop-rest-init c = record { brings = λ next world b. b; waiting = c.requires }

pub take_frames-requires : goal.take_frames-requires
take_frames-requires c =
    ap (λ (s : Splitting). s.fault) c.in_ok-count.ensures.fed.held
    ∙ c.loop-rest.invariant.waiting.fine

pub loop-rest-preserved : goal.loop-rest-preserved
loop-rest-preserved c =
    let e = c.in_ok-goes.ensures in
    let fed = c.feed.new.self in
    let P : Bool → Type 0 = λ goes. Brings c.args.way (from_front c.loop-rest.states) fed.held
    (goes_on goes c.take_frames.new.states c.take_frames.new.splitter.held) c.loop-rest.world
    c.take_frames.new.world in
    let one = subst P c.if-not-goes.false e.brings in
    rw c.split_at.ensures.back (record {
      brings = λ next world b. c.loop-rest.invariant.brings next world
          (piece_brings c.args.way c.loop-rest.states c.loop-rest.splitter.held fed.held
          c.loop-rest.rest.now c.in_ok-count.count
          (heard_from c.take_frames.new.states c.take_frames.new.splitter.held) next
          c.loop-rest.world c.take_frames.new.world world c.loop-rest.invariant.waiting.part
          (ap (λ (s : Splitting). s.held) c.in_ok-count.ensures.fed.held) one b);
      waiting = e.waiting c.if-not-goes.false;
    })

pub loop-rest-smaller : goal.loop-rest-smaller
loop-rest-smaller c =
    let some : 0 < length c.loop-rest.rest.now = search rules in
    let more = c.in_ok-count.ensures.some c.loop-rest.invariant.waiting.part
    c.loop-rest.invariant.waiting.fine some in
    rw c.split_at.ensures.back
    (omega (arith, some, more, length-drop c.in_ok-count.count c.loop-rest.rest.now))

pub returns-then-not-goes-clause-brings : goal.returns-then-not-goes-clause-brings
returns-then-not-goes-clause-brings c =
    let fed = c.feed.new.self in
    let P : Bool → Type 0 = λ goes. Brings c.args.way (from_front c.loop-rest.states) fed.held
    (goes_on goes c.take_frames.new.states c.take_frames.new.splitter.held) c.loop-rest.world
    c.take_frames.new.world in
    let one = subst P c.if-not-goes.true c.in_ok-goes.ensures.brings in
    let last = goes_on false c.take_frames.new.states [] in
    c.loop-rest.invariant.brings last c.take_frames.new.world
    (piece_brings c.args.way c.loop-rest.states c.loop-rest.splitter.held fed.held
    c.loop-rest.rest.now c.in_ok-count.count last last c.loop-rest.world c.take_frames.new.world
    c.take_frames.new.world c.loop-rest.invariant.waiting.part
    (ap (λ (s : Splitting). s.held) c.in_ok-count.ensures.fed.held) one
    (silent_brings c.args.way c.take_frames.new.states _ c.take_frames.new.world))

pub returns-clause-brings : goal.returns-clause-brings
returns-clause-brings c =
    let none : length c.loop-rest.rest.now ≡ 0 = search rules in
    let now = heard_from c.loop-rest.states c.loop-rest.splitter.held in
    c.loop-rest.invariant.brings now c.loop-rest.world
    (over_brings c.args.way now c.loop-rest.rest.now c.loop-rest.world none)
