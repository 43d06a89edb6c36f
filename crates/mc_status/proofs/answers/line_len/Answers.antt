use Rattle.std.proofs.Common.{rules, arith, ◌≡◌, Ok, Err}
use Rattle.mc_frame.specs.Frame.{frame_read}
use Rattle.mc_frame.proofs.Fronts.{read_front}
use Rattle.mc_status.proofs.Lines.{front_len, front_read, front_some}
use Rattle.mc_status.proofs.answers.line_len.Goals as goal

pub overflow_sub-result : goal.overflow_sub-result
overflow_sub-result c = (read_front c.args.bytes.now c.in-Ok._payload.now c.rest.result.now
    (λ i. (c.type_inv.bytes i).fits) (search rules)).0

pub returns-in-Ok : goal.returns-in-Ok
returns-in-Ok c =
    let bytes = c.args.bytes.now in
    let rest = c.rest.result.now in
    let read : frame_read bytes ≡ Ok (c.in-Ok._payload.now, rest) = search rules in
    record {
      within = omega arith;
      some = λ long. front_some bytes c.in-Ok._payload.now rest
          (λ i. (c.type_inv.bytes i).fits) read;
      frame = λ p more small parts.
          front_len bytes c.in-Ok._payload.now rest p more small parts read;
    }

pub returns-in-Err : goal.returns-in-Err
returns-in-Err c =
    let read : frame_read c.args.bytes.now ≡ Err c.in-Err._stop = search rules in
    record {
      within = omega arith;
      some = λ long. long;
      frame = λ p more small parts.
          absurd (front_read c.args.bytes.now more p c.in-Err._stop small parts read);
    }
