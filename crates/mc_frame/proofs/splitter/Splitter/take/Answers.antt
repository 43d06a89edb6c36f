use Rattle.std.proofs.Common.{Ok, None, Some, ap}
use Rattle.mc_frame.specs.declared.fault.Take.TheVariants.{Frame, Bad}
use Rattle.mc_frame.proofs.Fronts.{no_frame_where, no_end_where, same_payload, one_fault}
use Rattle.mc_frame.proofs.Fronts.{more_or_fault}
use Rattle.mc_frame.proofs.splitter.Splitter.take.Goals as goal

-- ---- a frame, with memory or without

pub returns-in_err-frame-in-Frame-clause-more : goal.returns-in_err-frame-in-Frame-clause-more
returns-in_err-frame-in-Frame-clause-more c part =
    absurd (no_end_where c.args.self.now.before c.args.self.now.held c.in-Frame.payload.now
    c.in-Frame.len None (rw c.in-Frame.is at c.peek.ensures).spelled part)

pub returns-in_err-frame-in-Frame-clause-bad : goal.returns-in_err-frame-in-Frame-clause-bad
returns-in_err-frame-in-Frame-clause-bad c fault ends =
    absurd (no_end_where c.args.self.now.before c.args.self.now.held c.in-Frame.payload.now
    c.in-Frame.len (Some fault) (rw c.in-Frame.is at c.peek.ensures).spelled ends)

pub returns-in_ok-frame-in-Frame-clause-frame : goal.returns-in_ok-frame-in-Frame-clause-frame
returns-in_ok-frame-in-Frame-clause-frame c payload front rest s is =
    rw c.in_ok-frame-in-Frame.ensures (ap (λ f. Frame f) (same_payload c.args.self.now.held
    c.in-Frame.payload.now c.in-Frame.len payload front rest
    (rw c.in-Frame.is at c.peek.ensures).spelled s is))

pub returns-in_ok-frame-in-Frame-clause-more : goal.returns-in_ok-frame-in-Frame-clause-more
returns-in_ok-frame-in-Frame-clause-more c part =
    absurd (no_end_where c.args.self.now.before c.args.self.now.held c.in-Frame.payload.now
    c.in-Frame.len None (rw c.in-Frame.is at c.peek.ensures).spelled part)

pub returns-in_ok-frame-in-Frame-clause-bad : goal.returns-in_ok-frame-in-Frame-clause-bad
returns-in_ok-frame-in-Frame-clause-bad c fault ends =
    absurd (no_end_where c.args.self.now.before c.args.self.now.held c.in-Frame.payload.now
    c.in-Frame.len (Some fault) (rw c.in-Frame.is at c.peek.ensures).spelled ends)

-- ---- a part of a frame

pub returns-in-More-clause-frame : goal.returns-in-More-clause-frame
returns-in-More-clause-frame c payload front rest s is =
    absurd (no_frame_where c.args.self.now.before c.args.self.now.held payload front rest None
    (rw c.in-More.is at c.peek.ensures).0 s is)

pub returns-in-More-clause-bad : goal.returns-in-More-clause-bad
returns-in-More-clause-bad c fault ends =
    absurd (more_or_fault c.args.self.now.before c.args.self.now.held fault
    (rw c.in-More.is at c.peek.ensures).0 ends)

-- ---- a fault

pub returns-in-Bad-clause-frame : goal.returns-in-Bad-clause-frame
returns-in-Bad-clause-frame c payload front rest s is =
    absurd (no_frame_where c.args.self.now.before c.args.self.now.held payload front rest
    (Some c.in-Bad.fault) (rw c.in-Bad.is at c.peek.ensures) s is)

pub returns-in-Bad-clause-more : goal.returns-in-Bad-clause-more
returns-in-Bad-clause-more c part =
    absurd (more_or_fault c.args.self.now.before c.args.self.now.held c.in-Bad.fault part
    (rw c.in-Bad.is at c.peek.ensures))

pub returns-in-Bad-clause-bad : goal.returns-in-Bad-clause-bad
returns-in-Bad-clause-bad c fault ends =
    ap (λ f. Ok (Bad f)) (one_fault c.args.self.now.before c.args.self.now.held c.in-Bad.fault
    fault (rw c.in-Bad.is at c.peek.ensures) ends)
