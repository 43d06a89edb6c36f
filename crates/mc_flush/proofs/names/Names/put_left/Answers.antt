use Rattle.std.proofs.Common.{◌≤◌, length, refl, arith}
use Rattle.std.proofs.lemmas.List.{length-map}
use Rattle.mc_model.specs.Delta.{leaver}
use Rattle.mc_flush.proofs.Carries.{about_clear}
use Rattle.mc_flush.proofs.names.Names.put_left.Goals as goal

pub put_leavers-requires : goal.put_leavers-requires
put_leavers-requires c =
    let few : length c.in_ok-players.players ≤ 50 = rw (
      c.in_ok-players.ensures.value,
      length-map
          c.args.self.now.found.entries leaver,
    ) c.requires in
    about_clear 4 c.in_ok-players.players refl (omega arith) few c.in_ok-players.ensures.carried
