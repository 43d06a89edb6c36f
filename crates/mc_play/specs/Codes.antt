-- How chests are stored where a model has them in a field.
use Rattle.std.specs.Prelude.{List}
use Rattle.std.specs.Coded.{Coded, coded_list}
use Rattle.std.specs.FinMap.{FinMap, code}
use Rattle.mc_land.specs.LandCode.{coded_key}
use Rattle.mc_land.specs.Places.{key_cmp}
use Rattle.mc_slots.specs.declared.pile.Pile.{Pile}
use Rattle.mc_slots.specs.PileCode.{coded_pile}

abbrev pub coded_chests : Coded (FinMap key_cmp (List Pile))
coded_chests = code coded_key (coded_list coded_pile)
