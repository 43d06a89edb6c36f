-- What a roster keeps: few players, of short names.
use Rattle.std.specs.Prelude.{◌≤◌}
use Rattle.std.specs.List.{AllByRecursion}
use Rattle.std.specs.FinMap.{entries, len}
use Rattle.mc_flush.specs.Lists.{ListValue}
use Rattle.mc_flush.specs.Seeing.{IsNamed}

pub record IsRoster (list : ListValue) : Type 0 where
  pub few : len list.present ≤ 50
  pub few_before : len list.last ≤ 50
  pub named : AllByRecursion IsNamed (entries list.present)
