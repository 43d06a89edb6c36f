use Rattle.std.proofs.Common.{rules, subst, Some}
use Rattle.mc_capture.specs.Headings.{FindsFront}
use Rattle.mc_capture.proofs.Faults.{cut_bytes}
use Rattle.mc_capture.proofs.reader.read_record.Goals as goal

pub returns-then-as_slice-heading-clause-err : goal.returns-then-as_slice-heading-clause-err
returns-then-as_slice-heading-clause-err g c =
    let old = g.I.Source.left c.args.input.now in
    let between = g.I.Source.left c.read_heading.new.input in
    let new = g.I.Source.left c.read_bytes.new.input in
    let h = c.in-Some.heading in
    let front : FindsFront (Some h) old between =
    subst (λ found. FindsFront found old between) c.in-Some.is c.in_ok-heading.ensures.ok in
    cut_bytes h.kind h.connection h.size c.args.at c.in_ok-bytes.bytes old between new front.1
    c.in_ok-bytes.ensures.given.1 front.0.kind front.0.size (search rules) (search rules)
    c.ranges.at.fits
