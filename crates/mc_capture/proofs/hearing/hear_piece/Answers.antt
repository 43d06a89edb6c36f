use Rattle.std.proofs.Common.{rules, ◌≡◌, ◌<◌, Bool, false, [], length, refl, ap, ◌∙◌, arith}
use Rattle.std.proofs.lemmas.List.{length-drop}
use Rattle.std.proofs.lemmas.Result.{err_from_is_err_and}
use Rattle.mc_frame.specs.Held.{Splitting}
use Rattle.mc_wire.proofs.Counts.{StandsOrRises-trans}
use Rattle.mc_capture.specs.Hearings.{from_front, goes_on, heard_from}
use Rattle.mc_capture.specs.Talks.{on_bytes}
use Rattle.mc_capture.proofs.Bytes.{heard_over, piece_first, piece_last}
use Rattle.mc_capture.proofs.Underway.{showing_breaks, showing_done, showing_ends, showing_first}
use Rattle.mc_capture.proofs.Underway.{showing_next, showing_stops}
use Rattle.mc_capture.proofs.hearing.hear_piece.Goals as goal

pub loop-rest-init : goal.loop-rest-init
loop-rest-init g c = record {
  shows = showing_first _ _ _;
  waiting = c.requires;
  counts = search rules;
}

pub hear_frames-requires : goal.hear_frames-requires
hear_frames-requires g c =
    ap (λ (s : Splitting). s.fault) c.in_ok-count.ensures.fed.held
    ∙ c.loop-rest.invariant.waiting.fine

pub loop-rest-preserved : goal.loop-rest-preserved
loop-rest-preserved g c =
    let e = c.in_ok-goes.ensures in
    let fed = c.feed.new.self in
    let next : (on_bytes c.args.k c.args.way (from_front c.loop-rest.states) fed.held).1
    ≡ heard_from c.hear_frames.new.states c.hear_frames.new.splitter.held =
    e.next ∙ ap (λ (b : Bool). goes_on b c.hear_frames.new.states c.hear_frames.new.splitter.held)
    c.if-not-goes.false in
    let first = piece_first c.args.k c.args.way c.loop-rest.states c.loop-rest.splitter.held
    fed.held c.loop-rest.rest.now c.in_ok-count.count
    (heard_from c.hear_frames.new.states c.hear_frames.new.splitter.held)
    c.loop-rest.invariant.waiting.part
    (ap (λ (s : Splitting). s.held) c.in_ok-count.ensures.fed.held) next in
    rw c.split_at.ensures.back (record {
      shows = showing_next _ _ _ _ _ _ _ _ _ _ c.loop-rest.invariant.shows e.gathers first;
      waiting = e.waiting c.if-not-goes.false;
      counts = StandsOrRises-trans _ _ _ c.loop-rest.invariant.counts c.hear_frames.ensures.counts;
    })

pub loop-rest-smaller : goal.loop-rest-smaller
loop-rest-smaller g c =
    let some : 0 < length c.loop-rest.rest.now = search rules in
    let more = c.in_ok-count.ensures.some c.loop-rest.invariant.waiting.part
    c.loop-rest.invariant.waiting.fine some in
    rw c.split_at.ensures.back
    (omega (arith, some, more, length-drop c.in_ok-count.count c.loop-rest.rest.now))

pub returns-in_err-count-clause-part : goal.returns-in_err-count-clause-part
returns-in_err-count-clause-part g c =
    let p = err_from_is_err_and c.from_residual.result c.from_residual.ensures.1 in
    rw p.1 (showing_stops _ _ _ _ _ _ c.loop-rest.invariant.shows)

pub returns-in_err-goes-clause-part : goal.returns-in_err-goes-clause-part
returns-in_err-goes-clause-part g c =
    let p = err_from_is_err_and c.from_residual-in_err-goes.result
    c.from_residual-in_err-goes.ensures.1 in
    let fed = c.feed.new.self in
    let heard = on_bytes c.args.k c.args.way (from_front c.loop-rest.states) fed.held in
    let first = piece_first c.args.k c.args.way c.loop-rest.states c.loop-rest.splitter.held
    fed.held c.loop-rest.rest.now c.in_ok-count.count heard.1
    c.loop-rest.invariant.waiting.part
    (ap (λ (s : Splitting). s.held) c.in_ok-count.ensures.fed.held) refl in
    rw p.1 (showing_breaks _ _ _ _ _ _ _ _ _ c.loop-rest.invariant.shows
    c.in_err-goes.ensures.part first)

pub returns-then-not-goes-clause-gathers : goal.returns-then-not-goes-clause-gathers
returns-then-not-goes-clause-gathers g c =
    let e = c.in_ok-goes.ensures in
    let fed = c.feed.new.self in
    let now = goes_on false c.hear_frames.new.states [] in
    let last = piece_last c.args.k c.args.way c.loop-rest.states c.hear_frames.new.states
    c.loop-rest.splitter.held fed.held c.loop-rest.rest.now c.in_ok-count.count
    c.loop-rest.invariant.waiting.part
    (ap (λ (s : Splitting). s.held) c.in_ok-count.ensures.fed.held)
    (e.next ∙ ap (λ (b : Bool). goes_on b c.hear_frames.new.states c.hear_frames.new.splitter.held)
    c.if-not-goes.true) in
    showing_done _ _ _ _ _ ([], now) now
    (showing_next _ _ _ _ _ _ _ _ _ ([], now) c.loop-rest.invariant.shows e.gathers last) refl

pub returns-then-not-goes-clause-next : goal.returns-then-not-goes-clause-next
returns-then-not-goes-clause-next g c =
    let e = c.in_ok-goes.ensures in
    let fed = c.feed.new.self in
    let now = goes_on false c.hear_frames.new.states [] in
    let last = piece_last c.args.k c.args.way c.loop-rest.states c.hear_frames.new.states
    c.loop-rest.splitter.held fed.held c.loop-rest.rest.now c.in_ok-count.count
    c.loop-rest.invariant.waiting.part
    (ap (λ (s : Splitting). s.held) c.in_ok-count.ensures.fed.held)
    (e.next ∙ ap (λ (b : Bool). goes_on b c.hear_frames.new.states c.hear_frames.new.splitter.held)
    c.if-not-goes.true) in
    showing_ends _ _ _ _ _ ([], now) now
    (showing_next _ _ _ _ _ _ _ _ _ ([], now) c.loop-rest.invariant.shows e.gathers last) refl

pub returns-clause-gathers : goal.returns-clause-gathers
returns-clause-gathers g c =
    let none : length c.loop-rest.rest.now ≡ 0 = search rules in
    showing_done _ _ _ _ _ _ (heard_from c.loop-rest.states c.loop-rest.splitter.held)
    c.loop-rest.invariant.shows
    (heard_over c.args.k c.args.way (heard_from c.loop-rest.states c.loop-rest.splitter.held)
    c.loop-rest.rest.now none)

pub returns-clause-next : goal.returns-clause-next
returns-clause-next g c =
    let none : length c.loop-rest.rest.now ≡ 0 = search rules in
    showing_ends _ _ _ _ _ _ (heard_from c.loop-rest.states c.loop-rest.splitter.held)
    c.loop-rest.invariant.shows
    (heard_over c.args.k c.args.way (heard_from c.loop-rest.states c.loop-rest.splitter.held)
    c.loop-rest.rest.now none)
