use Rattle.std.proofs.Common.{◌≡◌, ◌++◌, length, take, drop}
use Rattle.std.specs.Int.{w32}
use Rattle.mc_bytes.specs.NumberBytes.{number_spelling}
use Rattle.mc_nbt.specs.Nbt.{ints_spelling}
use Rattle.mc_nbt.proofs.values.writing.write_int_array.Given as goal

abbrev pub invariant-loop-number : goal.invariant-loop-number
invariant-loop-number l =
    (l.out.items ++ ints_spelling (drop l.number-index l.numbers) ≡ l.fn.out.items ++
    (number_spelling w32 (length l.numbers) ++ ints_spelling l.numbers))
    × (take (length l.fn.out.items) l.out.items ≡ l.fn.out.items)
