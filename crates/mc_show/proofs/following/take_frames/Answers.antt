use Rattle.std.proofs.Common.{Bool, false, [], subst}
use Rattle.mc_capture.specs.Hearings.{from_front, goes_on, heard_from}
use Rattle.mc_capture.proofs.Bytes.{frame_shorter}
use Rattle.mc_show.specs.Following.{FrameBrings}
use Rattle.mc_show.proofs.Ways.{fault_brings, frame_brings, part_brings, silent_brings}
use Rattle.mc_show.proofs.following.take_frames.Goals as goal

pub taking-init : goal.taking-init
taking-init c = record { brings = λ next world b. b; fine = c.requires }

pub taking-preserved : goal.taking-preserved
taking-preserved c =
    let P : Bool → Type 0 = λ goes. FrameBrings c.args.way c.taking.states c.in-Frame.frame.now
    (goes_on goes c.take_frame.new.states []) c.taking.world c.take_frame.new.world in
    let one = subst P c.if-not-goes.false c.in_ok-goes-in-Frame.ensures in
    rw c.pass.ensures.is (record {
      brings = λ next world b. c.taking.invariant.brings next world
          (frame_brings c.args.way c.taking.states c.in-Frame.frame.now c.taking.splitter.held
          c.in-Frame.len (from_front c.take_frame.new.states) next c.taking.world
          c.take_frame.new.world world c.in-Frame.ensures.spelled one b);
      fine = c.taking.invariant.fine;
    })

pub taking-smaller : goal.taking-smaller
taking-smaller c = rw c.pass.ensures.is (frame_shorter c.in-Frame.frame.now
    c.taking.splitter.held c.in-Frame.len c.in-Frame.ensures.spelled)

pub returns-then-not-goes-clause-brings : goal.returns-then-not-goes-clause-brings
returns-then-not-goes-clause-brings c =
    let P : Bool → Type 0 = λ goes. FrameBrings c.args.way c.taking.states c.in-Frame.frame.now
    (goes_on goes c.take_frame.new.states []) c.taking.world c.take_frame.new.world in
    let one = subst P c.if-not-goes.true c.in_ok-goes-in-Frame.ensures in
    let last = goes_on false c.take_frame.new.states [] in
    c.taking.invariant.brings last c.take_frame.new.world
    (frame_brings c.args.way c.taking.states c.in-Frame.frame.now c.taking.splitter.held
    c.in-Frame.len last last c.taking.world c.take_frame.new.world c.take_frame.new.world
    c.in-Frame.ensures.spelled one
    (silent_brings c.args.way c.take_frame.new.states _ c.take_frame.new.world))

pub returns-in-More-clause-brings : goal.returns-in-More-clause-brings
returns-in-More-clause-brings c =
    c.taking.invariant.brings (heard_from c.taking.states c.taking.splitter.held) c.taking.world
    (part_brings c.args.way c.taking.states c.taking.splitter.held c.taking.world
    c.in-More.ensures.0)

pub returns-in-Bad-clause-brings : goal.returns-in-Bad-clause-brings
returns-in-Bad-clause-brings c =
    c.taking.invariant.brings (goes_on false c.taking.states []) c.taking.world
    (fault_brings c.args.way c.taking.states _ c.taking.splitter.held _ c.taking.world
    c.in-Bad.ensures)
