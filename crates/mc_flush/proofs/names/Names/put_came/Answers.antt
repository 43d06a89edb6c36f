use Rattle.std.proofs.Common.{◌≤◌, length, refl, arith}
use Rattle.std.proofs.lemmas.List.{length-map}
use Rattle.mc_model.specs.Delta.{joiner}
use Rattle.mc_flush.proofs.Carries.{about_clear}
use Rattle.mc_flush.proofs.names.Names.put_came.Goals as goal

pub put_joiners-requires : goal.put_joiners-requires
put_joiners-requires c =
    let few : length c.in_ok-players.players ≤ 50 = rw (
      c.in_ok-players.ensures.value,
      length-map
          c.args.self.now.found.entries joiner,
    ) c.requires.few in
    about_clear 0 c.in_ok-players.players refl (omega arith) few c.in_ok-players.ensures.carried
