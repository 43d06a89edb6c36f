use Rattle.std.proofs.Common.{refl, sym, inr, ◌∙◌, rules}
use Rattle.mc_top.specs.ReplayPromise.{start_of}
use Rattle.mc_top.specs.ServePromise.{summary_line}
use Rattle.mc_top.proofs.Serves.{has_served, served_all, lost_by, spent_by, rose_by}
use Rattle.mc_top.proofs.serve.serve_summed.Goals as goal

pub returns-in-Err-clause-net_fault : goal.returns-in-Err-clause-net_fault
returns-in-Err-clause-net_fault g c is =
    let by = sym c.ended_by.ensures ∙ is in (
      rose_by _ _ _ c.in-Err.fault c.pace.ensures.falls.faults c.in-Err.ensures.unheard
          c.in-Err.ensures.failed by,
      lost_by _ c.args.options _ _ c.in-Err.fault (has_served _ c.args.options _ _ _
          c.pace.ensures.tells c.budget_of.result c.budget_of.ensures c.drive.new.server.inner _
          (c.in-Err.ensures.drove (start_of _ c.args.options.world) c.requires.world
          c.in-Ok.ensures.stands)) by,
      refl,
    )

pub returns-in-Err-clause-budget : goal.returns-in-Err-clause-budget
returns-in-Err-clause-budget g c n is =
    let by = sym c.ended_by.ensures ∙ is in (
      spent_by _ c.args.options _ _ c.in-Err.fault n (has_served _ c.args.options _ _ _
          c.pace.ensures.tells c.budget_of.result c.budget_of.ensures c.drive.new.server.inner _
          (c.in-Err.ensures.drove (start_of _ c.args.options.world) c.requires.world
          c.in-Ok.ensures.stands)) by,
      refl,
    )

pub returns-in-Ok-put_summary-clause-done : goal.returns-in-Ok-put_summary-clause-done
returns-in-Ok-put_summary-clause-done g c is = record {
  line = summary_line c.age-age.result c.tally_of.result;
  all = served_all _ c.args.options _ _ _ c.pace.ensures.tells c.budget_of.result
      c.budget_of.ensures c.drive.new.server.inner c.in-Ok-drive.end c.age-age.result
      c.tally_of.result
      (c.in-Ok-drive.ensures.drove (start_of _ c.args.options.world) c.requires.world
      c.in-Ok.ensures.stands) c.age-age.ensures.is c.tally_of.ensures;
  wrote = c.in-Ok-put_summary.ensures.wrote;
}

pub returns-in-Err-Failed-clause-write_fault : goal.returns-in-Err-Failed-clause-write_fault
returns-in-Err-Failed-clause-write_fault g c is =
    let part = c.in-Err-Failed.ensures.part (search rules) in (
      part.0,
      record {
        line = summary_line c.age-age.result c.tally_of.result;
        all = served_all _ c.args.options _ _ _ c.pace.ensures.tells c.budget_of.result
            c.budget_of.ensures c.drive.new.server.inner c.in-Ok-drive.end c.age-age.result
            c.tally_of.result
            (c.in-Ok-drive.ensures.drove (start_of _ c.args.options.world) c.requires.world
            c.in-Ok.ensures.stands)
            c.age-age.ensures.is c.tally_of.ensures;
        len = part.1;
        wrote = part.2;
      },
    )

pub returns-in-Err-clause-no_memory : goal.returns-in-Err-clause-no_memory
returns-in-Err-clause-no_memory g c is = (
  inr (
    _,
    has_served _ c.args.options _ _ _ c.pace.ensures.tells c.budget_of.result
        c.budget_of.ensures c.drive.new.server.inner _
        (c.in-Err.ensures.drove (start_of _ c.args.options.world) c.requires.world
        c.in-Ok.ensures.stands),
  ),
  refl,
)

pub returns-in-Err-NoMemory-clause-no_memory : goal.returns-in-Err-NoMemory-clause-no_memory
returns-in-Err-NoMemory-clause-no_memory g c is = (
  inr (
    _,
    has_served _ c.args.options _ _ _ c.pace.ensures.tells c.budget_of.result
        c.budget_of.ensures c.drive.new.server.inner _
        (c.in-Ok-drive.ensures.drove (start_of _ c.args.options.world) c.requires.world
        c.in-Ok.ensures.stands),
  ),
  c.in-Err-NoMemory.ensures.none (search rules),
)
