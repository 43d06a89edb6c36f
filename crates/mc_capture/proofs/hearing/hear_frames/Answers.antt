use Rattle.std.proofs.Common.{rules, ◌≡◌, Bool, false, [], refl, ap, ◌∙◌}
use Rattle.std.proofs.lemmas.Result.{err_from_is_err_and}
use Rattle.mc_wire.proofs.Counts.{StandsOrRises-trans}
use Rattle.mc_capture.specs.Hearings.{from_front, goes_on, heard_from}
use Rattle.mc_capture.specs.Talks.{on_frame}
use Rattle.mc_capture.proofs.Bytes.{fault_heard, frame_first, frame_last, frame_shorter, part_heard}
use Rattle.mc_capture.proofs.Underway.{showing_breaks, showing_done, showing_ends, showing_first}
use Rattle.mc_capture.proofs.Underway.{showing_next}
use Rattle.mc_capture.proofs.hearing.hear_frames.Goals as goal

pub taking-init : goal.taking-init
taking-init g c = record {
  shows = showing_first _ _ _;
  fine = c.requires;
  counts = search rules;
}

pub taking-preserved : goal.taking-preserved
taking-preserved g c =
    let e = c.in_ok-goes-in-Frame.ensures in
    let next : (on_frame c.args.k c.args.way c.taking.states c.in-Frame.frame.now).1
    ≡ from_front c.hear_frame.new.states =
    e.next ∙ ap (λ (b : Bool). goes_on b c.hear_frame.new.states []) c.if-not-goes.false in
    let first = frame_first c.args.k c.args.way c.taking.states c.in-Frame.frame.now
    c.taking.splitter.held c.in-Frame.len (from_front c.hear_frame.new.states)
    c.in-Frame.ensures.spelled next in
    rw c.pass.ensures.is (record {
      shows = showing_next _ _ _ _ _ _ _ _ _ _ c.taking.invariant.shows e.gathers first;
      fine = c.taking.invariant.fine;
      counts = StandsOrRises-trans _ _ _ c.taking.invariant.counts c.hear_frame.ensures.counts;
    })

pub taking-smaller : goal.taking-smaller
taking-smaller g c = rw c.pass.ensures.is (frame_shorter c.in-Frame.frame.now
    c.taking.splitter.held c.in-Frame.len c.in-Frame.ensures.spelled)

pub returns-in_err-goes-in-Frame-clause-part : goal.returns-in_err-goes-in-Frame-clause-part
returns-in_err-goes-in-Frame-clause-part g c =
    let p = err_from_is_err_and c.from_residual.result c.from_residual.ensures.1 in
    let frame = on_frame c.args.k c.args.way c.taking.states c.in-Frame.frame.now in
    let first = frame_first c.args.k c.args.way c.taking.states c.in-Frame.frame.now
    c.taking.splitter.held c.in-Frame.len frame.1 c.in-Frame.ensures.spelled refl in
    rw p.1 (showing_breaks _ _ _ _ _ _ _ _ _ c.taking.invariant.shows
    c.in_err-goes-in-Frame.ensures.part first)

pub returns-then-not-goes-clause-gathers : goal.returns-then-not-goes-clause-gathers
returns-then-not-goes-clause-gathers g c =
    let e = c.in_ok-goes-in-Frame.ensures in
    let now = goes_on false c.hear_frame.new.states [] in
    let last = frame_last c.args.k c.args.way c.taking.states c.hear_frame.new.states
    c.in-Frame.frame.now c.taking.splitter.held c.in-Frame.len c.in-Frame.ensures.spelled
    (e.next ∙ ap (λ (b : Bool). goes_on b c.hear_frame.new.states []) c.if-not-goes.true) in
    showing_done _ _ _ _ _ ([], now) now
    (showing_next _ _ _ _ _ _ _ _ _ ([], now) c.taking.invariant.shows e.gathers last) refl

pub returns-then-not-goes-clause-next : goal.returns-then-not-goes-clause-next
returns-then-not-goes-clause-next g c =
    let e = c.in_ok-goes-in-Frame.ensures in
    let now = goes_on false c.hear_frame.new.states [] in
    let last = frame_last c.args.k c.args.way c.taking.states c.hear_frame.new.states
    c.in-Frame.frame.now c.taking.splitter.held c.in-Frame.len c.in-Frame.ensures.spelled
    (e.next ∙ ap (λ (b : Bool). goes_on b c.hear_frame.new.states []) c.if-not-goes.true) in
    showing_ends _ _ _ _ _ ([], now) now
    (showing_next _ _ _ _ _ _ _ _ _ ([], now) c.taking.invariant.shows e.gathers last) refl

pub returns-in-More-clause-gathers : goal.returns-in-More-clause-gathers
returns-in-More-clause-gathers g c =
    showing_done _ _ _ _ _ _ (heard_from c.taking.states c.taking.splitter.held)
    c.taking.invariant.shows (part_heard c.args.k c.args.way c.taking.states
    c.taking.splitter.held c.in-More.ensures.0)

pub returns-in-More-clause-next : goal.returns-in-More-clause-next
returns-in-More-clause-next g c =
    showing_ends _ _ _ _ _ _ (heard_from c.taking.states c.taking.splitter.held)
    c.taking.invariant.shows (part_heard c.args.k c.args.way c.taking.states
    c.taking.splitter.held c.in-More.ensures.0)

pub returns-in_err-put_fault-in-Bad-clause-part : goal.returns-in_err-put_fault-in-Bad-clause-part
returns-in_err-put_fault-in-Bad-clause-part g c =
    let p = err_from_is_err_and c.from_residual-in_err-put_fault-in-Bad.result
    c.from_residual-in_err-put_fault-in-Bad.ensures.1 in
    let now = goes_on false c.taking.states [] in
    rw p.1 (showing_breaks _ _ _ _ _ _ _ _ ([], now) c.taking.invariant.shows
    c.in_err-put_fault-in-Bad.ensures.part
    (fault_heard c.args.k c.args.way c.taking.states _ _ _ c.in-Bad.ensures))

pub returns-in-Bad-clause-gathers : goal.returns-in-Bad-clause-gathers
returns-in-Bad-clause-gathers g c =
    let now = goes_on false c.taking.states [] in
    showing_done _ _ _ _ _ ([], now) now
    (showing_next _ _ _ _ _ _ _ _ _ ([], now) c.taking.invariant.shows
    c.in_ok-put_fault-in-Bad.ensures.gathers
    (fault_heard c.args.k c.args.way c.taking.states _ _ _ c.in-Bad.ensures)) refl

pub returns-in-Bad-clause-next : goal.returns-in-Bad-clause-next
returns-in-Bad-clause-next g c =
    let now = goes_on false c.taking.states [] in
    showing_ends _ _ _ _ _ ([], now) now
    (showing_next _ _ _ _ _ _ _ _ _ ([], now) c.taking.invariant.shows
    c.in_ok-put_fault-in-Bad.ensures.gathers
    (fault_heard c.args.k c.args.way c.taking.states _ _ _ c.in-Bad.ensures)) refl
