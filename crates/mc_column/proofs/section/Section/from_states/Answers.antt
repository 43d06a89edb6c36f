use Rattle.std.proofs.Common.{◌≡◌, ℕ, ◌*◌, rules, length, ap, arith, ◌∙◌}
use Rattle.mc_column.specs.Sizes.{section_cells}
use Rattle.mc_column.proofs.Pairs.{length-wire, paired-wire}
use Rattle.mc_column.proofs.SparseFacts.{kept_wire, all_written}
use Rattle.mc_column.proofs.section.Section.from_states.Goals as goal

pub invariant_of-result : goal.invariant_of-result
invariant_of-result c =
    let len : length c.put_states.new.bytes ≡ 2 * section_cells = ap length c.put_states.ensures ∙
    length-wire _ ∙ ap (λ (k : ℕ). 2 * k) c.requires.sized in
    rw (
      all_written c.put_states.new.bytes c.in_ok-bytes.bytes.items c.in_ok-bytes.bytes.len
          (omega (
            arith,
            len,
            ap length c.in_ok-bytes.ensures,
            c.in_ok-bytes.bytes.ok,
            c.deref_mut.ensures.len,
          )),
      c.put_states.ensures,
    ) (kept_wire c.args.states.now c.args.filled
    c.requires.sized (λ i. search rules) c.requires.counted)

pub returns : goal.returns
returns c =
    let len : length c.put_states.new.bytes ≡ 2 * section_cells = ap length c.put_states.ensures ∙
    length-wire _ ∙ ap (λ (k : ℕ). 2 * k) c.requires.sized in
    rw (
      all_written c.put_states.new.bytes c.in_ok-bytes.bytes.items c.in_ok-bytes.bytes.len
          (omega (
            arith,
            len,
            ap length c.in_ok-bytes.ensures,
            c.in_ok-bytes.bytes.ok,
            c.deref_mut.ensures.len,
          )),
      c.put_states.ensures,
    ) (paired-wire c.args.states.now)
