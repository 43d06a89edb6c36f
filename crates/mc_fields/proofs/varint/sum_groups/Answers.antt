use Rattle.std.proofs.Common.{rules, ◌≡◌, ◌<◌, ◌≤◌, length, get_or, arith, add-one, refl}
use Rattle.std.proofs.Math.Nat.{pow-suc}
use Rattle.mc_fields.proofs.Groups.{raised-cut, raised-last, raised-next, raised-end}
use Rattle.mc_fields.proofs.varint.sum_groups.Goals as goal

pub returns-in_default-clause-gives : goal.returns-in_default-clause-gives
returns-in_default-clause-gives c =
    let past : length c.args.bytes.now ≤ c.loop-i.i = search rules in
    raised-cut _ _ c.args.room c.loop-i.i c.args.bytes.now _ c.loop-i-test.true past
    c.loop-i.invariant.sum

pub returns-then-byte-lt128-clause-gives : goal.returns-then-byte-lt128-clause-gives
returns-then-byte-lt128-clause-gives c =
    let there : c.loop-i.i < length c.args.bytes.now = search rules in
    let is : c.in-Some.byte.now ≡ get_or c.args.bytes.now c.loop-i.i 0 = search rules in
    raised-last _ _ c.args.room c.loop-i.i c.in-Some.byte.now _ c.args.bytes.now _
    c.loop-i-test.true there is c.from.ensures c.if-byte-lt128.true c.loop-i.invariant.sum

pub loop-i-preserved : goal.loop-i-preserved
loop-i-preserved c =
    let there : c.loop-i.i < length c.args.bytes.now = search rules in
    let is : c.in-Some.byte.now ≡ get_or c.args.bytes.now c.loop-i.i 0 = search rules in
    record {
      weight = rw (add-one, pow-suc, ← c.loop-i.invariant.weight) refl;
      below = grind arith;
      within = omega arith;
      sum = raised-next _ _ c.args.room c.loop-i.i c.in-Some.byte.now _ c.args.bytes.now _
          c.loop-i-test.true there is c.from.ensures c.if-byte-lt128.false c.loop-i.invariant.sum;
    }

pub returns-clause-gives : goal.returns-clause-gives
returns-clause-gives c = raised-end _ _ c.args.room c.loop-i.i c.args.bytes.now _ (omega arith)
    c.loop-i.invariant.sum
