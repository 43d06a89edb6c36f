use Rattle.std.proofs.Common.{rules, ◌≡◌, length}
use Rattle.std.proofs.lemmas.Result.{err_from_is_err_and}
use Rattle.hex.specs.Hex.{encode_lower}
use Rattle.mc_wire.proofs.Counts.{StandsOrRises-trans}
use Rattle.mc_capture.proofs.Hex.{encode_cut, encode_over}
use Rattle.mc_capture.proofs.Underway.{showing_breaks, showing_done, showing_next}
use Rattle.mc_capture.proofs.pieces.put_hex.Goals as goal

pub returns-in_err-put_hex_piece-clause-part : goal.returns-in_err-put_hex_piece-clause-part
returns-in_err-put_hex_piece-clause-part g c =
    let p = err_from_is_err_and c.from_residual.result c.from_residual.ensures.1 in
    rw p.1 (showing_breaks {B = Unit {0}} _ _ _ _ _ _ (encode_lower c.args.bytes.now, tt)
    (encode_lower c.loop-rest.rest.now, tt) (encode_lower c.split_at.result.1.now, tt)
    c.loop-rest.invariant.shows c.in_err-put_hex_piece.ensures.part
    (encode_cut _ c.loop-rest.rest.now c.split_at.result.0.now c.split_at.result.1.now
    c.split_at.ensures.front c.split_at.ensures.back))

pub loop-rest-preserved : goal.loop-rest-preserved
loop-rest-preserved g c = record {
  shows = showing_next {B = Unit {0}} _ _ _ _ _ _ _ (encode_lower c.args.bytes.now, tt)
      (encode_lower c.loop-rest.rest.now, tt) (encode_lower c.split_at.result.1.now, tt)
      c.loop-rest.invariant.shows c.in_ok-put_hex_piece.ensures.gathers
      (encode_cut _ c.loop-rest.rest.now c.split_at.result.0.now c.split_at.result.1.now
      c.split_at.ensures.front c.split_at.ensures.back);
  counts = StandsOrRises-trans _ _ _ c.loop-rest.invariant.counts c.put_hex_piece.ensures.counts;
}

pub returns-clause-gathers : goal.returns-clause-gathers
returns-clause-gathers g c =
    let none : length c.loop-rest.rest.now ≡ 0 = search rules in
    showing_done {B = Unit {0}} _ _ _ _ (encode_lower c.args.bytes.now, tt)
    (encode_lower c.loop-rest.rest.now, tt) tt c.loop-rest.invariant.shows
    (encode_over c.loop-rest.rest.now none)
