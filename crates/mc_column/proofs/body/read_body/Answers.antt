use Rattle.mc_column.proofs.BodyFacts.{given_found, given_only, given_short, given_long}
use Rattle.mc_column.proofs.body.read_body.Goals as goal

pub returns-clause-found : goal.returns-clause-found
returns-clause-found c = given_found _ c.args.mask c.args.sky c.args.ground_up c.args.bytes.now
    (λ i. (c.type_inv.bytes i).fits) c.read_exactly.ensures.reads

pub returns-clause-only : goal.returns-clause-only
returns-clause-only c = given_only _ c.args.mask c.args.sky c.args.ground_up c.args.bytes.now
    c.read_exactly.ensures.reads

pub returns-clause-short : goal.returns-clause-short
returns-clause-short c = given_short _ c.args.mask c.args.sky c.args.ground_up c.args.bytes.now
    c.read_exactly.ensures.reads c.read_exactly.ensures.memory

pub returns-clause-long : goal.returns-clause-long
returns-clause-long c = given_long _ c.args.mask c.args.sky c.args.ground_up c.args.bytes.now
    c.read_exactly.ensures.reads c.read_exactly.ensures.memory
