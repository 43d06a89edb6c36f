use Rattle.mc_windows.proofs.FirstPack.{kit_is_pack}
use Rattle.mc_windows.proofs.pack.kit.Goals as goal

pub invariant_of-result : goal.invariant_of-result
invariant_of-result c =
    rw (
      c.some_of.ensures,
      c.some_of-2.ensures,
      c.some_of-3.ensures,
      c.some_of-4.ensures,
    ) kit_is_pack
