use Rattle.std.proofs.Common.{subst, sym}
use Rattle.mc_frame.specs.Held.{Splitting}
use Rattle.mc_frame.specs.Splitting.{TakesFrame}
use Rattle.mc_frame.proofs.Fronts.{pass_is, pass_takes}
use Rattle.mc_frame.proofs.splitter.Splitter.pass.Goals as goal

pub returns-clause-is : goal.returns-clause-is
returns-clause-is c = pass_is c.args.self.now c.self.inside.buffer.items c.self.inside.start
    c.args.len c.self.inside.before c.saturating_add-self-inside.result c.self.inside.fault
    c.self.view_is c.saturating_add-self-inside.ensures

pub returns-clause-takes : goal.returns-clause-takes
returns-clause-takes c payload s =
    subst (λ (t : Splitting). TakesFrame c.args.self.now payload t) (sym (returns-clause-is c))
    (pass_takes c.args.self.now payload c.args.len c.requires.within s)
