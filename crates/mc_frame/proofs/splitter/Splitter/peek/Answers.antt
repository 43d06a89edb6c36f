use Rattle.std.proofs.Common.{Some}
use Rattle.mc_frame.proofs.Fronts.{met_ends, shown_ends, shown_frame, shown_part}
use Rattle.mc_frame.proofs.splitter.Splitter.peek.Goals as goal

pub returns-in-Some : goal.returns-in-Some
returns-in-Some c = met_ends c.args.self.now _ _ _ c.in-Some.fault c.self.view_is
    c.self.invariant.met c.in-Some.is

pub returns-in-Ok : goal.returns-in-Ok
returns-in-Ok c = shown_frame c.args.self.now c.self.inside.buffer.items c.deref.result.now
    c.split_at.result.1.now c.self.inside.start c.self.inside.before c.self.inside.fault
    c.in-Ok.payload.now c.in-Ok.len (record {
      view = c.self.view_is;
      borrowed = c.deref.ensures.value;
      split = c.split_at.ensures.back;
    }) c.in_default.is c.in-Ok.ensures.within c.in-Ok.ensures.found

pub returns-in-Err-None : goal.returns-in-Err-None
returns-in-Err-None c = shown_part c.args.self.now c.self.inside.buffer.items
    c.deref.result.now c.split_at.result.1.now c.self.inside.start c.self.inside.before
    c.self.inside.fault (record {
      view = c.self.view_is;
      borrowed = c.deref.ensures.value;
      split = c.split_at.ensures.back;
    }) c.in_default.is (rw c.in-Err-None.field-0-is at c.in-Err-None.ensures.ends)

pub returns-in-Err-Some : goal.returns-in-Err-Some
returns-in-Err-Some c = shown_ends c.args.self.now c.self.inside.buffer.items
    c.deref.result.now c.split_at.result.1.now c.self.inside.start c.self.inside.before
    c.self.inside.fault (Some c.in-Err-Some.fault) (record {
      view = c.self.view_is;
      borrowed = c.deref.ensures.value;
      split = c.split_at.ensures.back;
    }) (rw c.in-Err-Some.field-0-is at c.in-Err-Some.ensures.ends)
