use Rattle.mc_flush.proofs.Lookups.{kept_so}
use Rattle.mc_flush.proofs.names.keep_other.Goals as goal

pub returns-in_ok-insert-clause-found : goal.returns-in_ok-insert-clause-found
returns-in_ok-insert-clause-found c q =
    kept_so c.args.others.now.entries c.args.found.now.entries c.insert.new.self.entries
    c.args.uuid.now q c.args.name.now c.in_ok-copy.field-0 c.is_named.result
    c.is_named.ensures c.if-not-is_named.true c.in_ok-copy.ensures (c.in_ok-insert.ensures.updates.0
    q)
