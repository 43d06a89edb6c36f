use Rattle.std.proofs.Common.{rules, pos, get_or, ◌≡◌, ◌++◌}
use Rattle.std.specs.Prelude.{FitsSigned}
use Rattle.std.specs.Int.{w32}
use Rattle.std.proofs.lemmas.Int.{to_z-of_z}
use Rattle.mc_nbt.specs.Nbt.{signed_spelling}
use Rattle.mc_bytes.proofs.Kept.{kept_more}
use Rattle.mc_nbt.proofs.Written.{next_written, ints_spelling-drop}
use Rattle.mc_nbt.proofs.values.writing.write_int_array.Goals as goal

pub loop-number-preserved : goal.loop-number-preserved
loop-number-preserved c =
    let z = get_or c.args.numbers.now c.loop-number.number-index (pos 0) in
    let fits : FitsSigned w32 (get_or c.args.numbers.now c.loop-number.number-index (pos 0)) =
    search rules in
    let e : c.write_i32.new.out.items ≡ c.loop-number.out.items ++ signed_spelling w32 z =
    rw (to_z-of_z w32 z fits) at c.in_ok-write_i32.ensures.ok in
    let f = ints_spelling-drop c.args.numbers.now c.loop-number.number-index (pos 0)
    c.loop-number-test.true in (
      next_written c.loop-number.out.items c.write_i32.new.out.items _ _ _ _ e f
          c.loop-number.invariant.0,
      rw e (kept_more c.args.out.now.items c.loop-number.out.items
          (signed_spelling w32 z) c.loop-number.invariant.1),
    )
