use Rattle.std.proofs.Common.{◌≡◌, ℕ, ◌+◌, ◌≤◌, List, ◌++◌, length, take, drop, sym, ap, arith}
use Rattle.std.proofs.lemmas.List.{take_at, drop-drop, take-append-drop, length-take-le}
use Rattle.mc_wire.proofs.steady_source.SteadySourceSource.read.Goals as goal

-- what was copied, and then what is left, is what was left
copied_then_left : (old copied behind bytes : List ℕ) (n place : ℕ)
    → n ≤ length old
    → copied ≡ take n old
    → drop place bytes ≡ old
    → old ≡ take n (copied ++ behind) ++ drop (place + n) bytes
copied_then_left old copied behind bytes n place within copied_is old_is =
    let long : length copied ≡ n = rw copied_is (length-take-le n old within) in
    rw (take_at copied behind n long, copied_is, ← drop-drop n place bytes, old_is)
    (sym (take-append-drop n old))

pub returns-clause-given : goal.returns-clause-given
returns-clause-given c =
    let left : length c.left-left.result.now ≡ length c.args.self.now =
    ap length c.left-left.ensures in
    let within : c.min-count.result ≤ length c.args.self.now = omega arith in
    let copied : c.copy_from_slice.new.self ≡ take c.min-count.result c.args.self.now =
    rw (← c.left-left.ensures) c.copy_from_slice.ensures.after in
    copied_then_left _ _ _ _ _ _ within copied c.self.view_is
