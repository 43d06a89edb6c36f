use Rattle.std.proofs.Common.{subst, arith, List, ℕ}
use Rattle.mc_bytes.specs.Reading.{IsBytes}
use Rattle.mc_nbt.specs.NbtTakesLaws.{nbt_found}
use Rattle.mc_nbt.specs.Nbt.{named}
use Rattle.mc_nbt.proofs.values.document.Nbt.read.Goals as goal

pub invariant_of-read : goal.invariant_of-read
invariant_of-read c =
    let bytes : IsBytes c.rest-bytes.result.now = λ i. omega (arith, c.type_inv.bytes i) in
    (nbt_found c.args.input.now (
      named c.in_ok-name.name c.in_ok-name.entries,
      c.read_parts.new.input,
    ) (subst (λ (bs : List ℕ). IsBytes bs) c.rest-bytes.ensures bytes)
    c.in_ok-name.ensures.gives).spelled.is_nbt
