use Rattle.std.proofs.Common.{rules, ◌≡◌, ◌<◌, length, ap}
use Rattle.mc_words.specs.Script.{bytes_event}
use Rattle.mc_words.proofs.Scripts.{no_digits, came_not, came_is}
use Rattle.mc_words.proofs.script_line.came.Goals as goal

pub returns-then-is_empty : goal.returns-then-is_empty
returns-then-is_empty c =
    let none : length c.args.digits.now ≡ 0 = search rules in
    ap (bytes_event c.args.connection) (no_digits c.args.digits.now none)

pub returns-then-not-branch : goal.returns-then-not-branch
returns-then-not-branch c =
    let some : 0 < length c.args.digits.now = search rules in
    came_not c.args.connection c.args.digits.now c.new-bytes.result.items c.put_decoded.new.bytes.items
    c.in_ok-put_decoded.field-0 some c.if-not-branch.true c.in_ok-put_decoded.ensures

pub returns : goal.returns
returns c =
    let some : 0 < length c.args.digits.now = search rules in
    rw c.from_vec.ensures (came_is c.args.connection c.args.digits.now c.new-bytes.result.items
    c.put_decoded.new.bytes.items c.in_ok-put_decoded.field-0 some c.new-bytes.ensures.items
    c.if-not-branch.false c.in_ok-put_decoded.ensures)
