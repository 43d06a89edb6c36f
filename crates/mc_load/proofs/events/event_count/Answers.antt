use Rattle.std.proofs.Common.{sym}
use Rattle.mc_load.proofs.Counted.{events_counted}
use Rattle.mc_load.proofs.events.event_count.Goals as goal

pub returns : goal.returns
returns c = sym (events_counted c.args.clients c.args.ticks)
