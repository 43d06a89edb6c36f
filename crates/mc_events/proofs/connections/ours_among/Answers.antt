use Rattle.std.proofs.Common.{◌∙◌, rules, tests}
use Rattle.std.proofs.lemmas.Iterator.Consumers.{YieldsList-from_filter, YieldsList-from_rest}
use Rattle.std.proofs.lemmas.Iterator.Consumers.{count_from_yields_List}
use Rattle.std.specs.BTreeMap.{values}
use Rattle.mc_links.specs.Kept.{is_ours}
use Rattle.mc_links.specs.Kept.{ConnectionValue}
use Rattle.mc_events.proofs.connections.ours_among.Goals as goal

pub returns : goal.returns
returns c = count_from_yields_List _ _ c.count.ensures.ran (YieldsList-from_filter _
    (λ (d : ConnectionValue). is_ours d.link.cause)
    (YieldsList-from_rest (values c.args.connections.now)
    (c.filter.ensures.source ∙ c.values.ensures.rest))
    c.filter.ensures.closure (λ x r q k. search (rules, tests)))
