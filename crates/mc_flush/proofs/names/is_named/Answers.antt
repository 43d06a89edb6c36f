use Rattle.std.proofs.Common.{◌≡◌, Some, None, ◌∙◌}
use Rattle.mc_model.specs.Delta.{is_named}
use Rattle.mc_flush.proofs.Lookups.{named_so}
use Rattle.mc_flush.proofs.names.is_named.Goals as goal

pub returns-in-Some : goal.returns-in-Some
returns-in-Some c =
    let same : c.eq.result ≡ is_named (Some c.in-Some.other.now) c.args.name.now = rw (
      ←
          c.as_str.ensures.value,
      ← c.as_str-in-Some.ensures.value,
    ) c.eq.ensures in
    same ∙ named_so c.args.uuid.now c.args.players.now.entries (Some c.in-Some.other.now)
    c.args.name.now c.in-Some.ensures.value

pub returns-in-None : goal.returns-in-None
returns-in-None c = named_so c.args.uuid.now c.args.players.now.entries None c.args.name.now
    c.in-None.ensures.value
