use Rattle.mc_land.proofs.ShedFacts.{pointed_at}
use Rattle.mc_land.proofs.land.shedding.repoint.Goals as goal

pub returns-then-i-as_slice-clause-moved : goal.returns-then-i-as_slice-clause-moved
returns-then-i-as_slice-clause-moved c = λ d q lt. pointed_at c.args.columns.now.items
    c.args.index.now.entries c.point_at.new.index.entries c.place.result.now c.index.result.now
    c.args.i c.index.ensures c.place.ensures c.point_at.ensures d q lt
