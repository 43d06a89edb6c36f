use Rattle.std.proofs.Common.{◌≡◌, ◌+◌, ◌^◌, ◌<◌, ◌++◌, List, ℕ, length, ap, ◌∙◌, arith}
use Rattle.std.specs.Int.{w32}
use Rattle.std.proofs.lemmas.Int.{to_z_pos}
use lib.IntN.{ℤ, pos}
use Rattle.mc_fields.specs.Varint.{varint_spelling}
use Rattle.mc_loads.proofs.Loads.{IsBegun, begun_small, load_put, load_small}
use Rattle.mc_loads.proofs.columns.put_column.Goals as goal

pub load_head-requires : goal.load_head-requires
load_head-requires c = omega (
  arith,
  load_small c.args.place.now c.args.column.now c.requires
      c.sent_mask-mask.ensures.sizes,
  c.sent_size-size.ensures,
)

pub overflow_add-len : goal.overflow_add-len
overflow_add-len c =
    let begun : IsBegun c.args.place.now c.args.column.now c.sent_mask-mask.result
    c.sent_size-size.result c.in_ok-head.head.items =
    record {
      mask_is = c.sent_mask-mask.ensures.mask;
      size_is = c.sent_size-size.ensures;
      head_is =
          c.in_ok-head.ensures;
    } in
    let small = begun_small c.args.place.now c.args.column.now c.sent_mask-mask.result
    c.sent_size-size.result c.in_ok-head.head.items c.requires c.sent_mask-mask.ensures.sizes
    begun in
    omega (arith, small, c.len.ensures, c.in_ok-head.head.ok)

pub overflow_cast-len : goal.overflow_cast-len
overflow_cast-len c =
    let begun : IsBegun c.args.place.now c.args.column.now c.sent_mask-mask.result
    c.sent_size-size.result c.in_ok-head.head.items =
    record {
      mask_is = c.sent_mask-mask.ensures.mask;
      size_is = c.sent_size-size.ensures;
      head_is =
          c.in_ok-head.ensures;
    } in
    let small = begun_small c.args.place.now c.args.column.now c.sent_mask-mask.result
    c.sent_size-size.result c.in_ok-head.head.items c.requires c.sent_mask-mask.ensures.sizes
    begun in
    record { sfits = omega (arith, small, c.len.ensures, c.in_ok-head.head.ok) }

pub returns : goal.returns
returns c =
    let begun : IsBegun c.args.place.now c.args.column.now c.sent_mask-mask.result
    c.sent_size-size.result c.in_ok-head.head.items =
    record {
      mask_is = c.sent_mask-mask.ensures.mask;
      size_is = c.sent_size-size.ensures;
      head_is =
          c.in_ok-head.ensures;
    } in
    let counted : c.len.result ≡ length c.in_ok-head.head.items = omega (
      arith,
      c.len.ensures,
      c.in_ok-head.head.ok,
    ) in
    let small = begun_small c.args.place.now c.args.column.now c.sent_mask-mask.result
    c.sent_size-size.result c.in_ok-head.head.items c.requires c.sent_mask-mask.ensures.sizes
    begun in
    let small31 : c.len.result + c.sent_size-size.result < 2 ^ 31 = omega (arith, small, counted) in
    let first : c.write_varint.new.out.items ≡ c.args.out.now.items ++ varint_spelling (pos (length
    c.in_ok-head.head.items + c.sent_size-size.result)) = c.in_ok-write_varint.ensures.ok
    ∙ ap (λ (z : ℤ). c.args.out.now.items ++ varint_spelling z) (to_z_pos w32 (c.len.result +
    c.sent_size-size.result) small31 ∙ ap (λ (n : ℕ). pos (n + c.sent_size-size.result))
    counted) in
    load_put _ _ _ _ _ _ _ _ _ begun first
    (c.in_ok-write_octets.ensures.ok ∙ ap (λ (t : List ℕ). c.write_varint.new.out.items ++ t)
    c.deref.ensures.value) c.in_ok-write_body.ensures.ok
