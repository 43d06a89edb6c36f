use Rattle.mc_land.proofs.TouchedFacts.{kept_own, same_ready}
use Rattle.mc_land.proofs.ready.Ready.new.Goals as goal

pub invariant_of-result : goal.invariant_of-result
invariant_of-result c = kept_own c.args.place c.args.terrain c.args.column _ c.requires.inside
    c.requires.own c.new.ensures.items

pub returns : goal.returns
returns c = same_ready c.args.place c.args.terrain c.args.column _ c.new.ensures.items
