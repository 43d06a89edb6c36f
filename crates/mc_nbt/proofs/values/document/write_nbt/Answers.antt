use Rattle.std.proofs.Common.{◌≡◌, List, ℕ, ◌++◌, Ok, refl, subst}
use Rattle.mc_nbt.specs.Nbt.{Named, IsNbt, nbt_spelling}
use Rattle.mc_nbt.specs.NbtReading.{nbt_at}
use Rattle.mc_nbt.specs.NbtAgainLaws.{nbt_only}
use Rattle.mc_nbt.proofs.values.document.write_nbt.Goals as goal

read_again : (value : Named) → IsNbt value → (rest : List ℕ) → nbt_at (nbt_spelling value ++ rest) ≡
    Ok (value, rest)
read_again value fits rest = nbt_only value (nbt_spelling value) rest tt (record {
  is_nbt = fits;
  bytes_are = refl;
})

pub returns-then-is_err-clause-again : goal.returns-then-is_err-clause-again
returns-then-is_err-clause-again c =
    read_again c.args.value.now (subst IsNbt c.value.view_is c.value.invariant)

pub returns-clause-again : goal.returns-clause-again
returns-clause-again c = read_again c.args.value.now (subst IsNbt c.value.view_is c.value.invariant)
