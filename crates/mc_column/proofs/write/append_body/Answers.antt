use Rattle.std.proofs.Common.{◌≡◌, ℕ, ◌*◌, List, ◌++◌, ap, ◌∙◌, arith, append_assoc, replicate}
use Rattle.mc_column.specs.Sizes.{light_bytes}
use Rattle.mc_column.specs.Cells.{wire}
use Rattle.mc_column.specs.Body.{named_count, column_body}
use Rattle.mc_column.specs.KeptColumn.{kept_column}
use Rattle.mc_column.specs.Sent.{body_bytes}
use Rattle.mc_column.proofs.SentFacts.{kept_states}
use Rattle.mc_column.proofs.write.append_body.Goals as goal

-- one part after another
together : (old w z s b o1 o2 o3 o4 : List ℕ) → o1 ≡ old ++ w → o2 ≡ o1 ++ z → o3 ≡ o2 ++ s →
    o4 ≡ o3 ++ b → o4 ≡ old ++ (w ++ (z ++ (s ++ b)))
together old w z s b o1 o2 o3 o4 e1 e2 e3 e4 = rw (e4, e3, e2, e1) (simp append_assoc)

pub append_zeros-requires : goal.append_zeros-requires
append_zeros-requires c = omega (
  arith,
  c.append_blocks.ensures.len,
  c.append_blocks.ensures.room,
  c.requires.room,
  c.light_size-light.ensures,
)

pub append_sky-requires-clause-room : goal.append_sky-requires-clause-room
append_sky-requires-clause-room c = omega (
  arith,
  c.append_blocks.ensures.len,
  c.append_blocks.ensures.room,
  c.append_zeros.ensures.len,
  c.append_zeros.ensures.room,
  c.requires.room,
  c.light_size-light.ensures,
)

pub append-requires : goal.append-requires
append-requires c = omega (
  arith,
  c.append_blocks.ensures.len,
  c.append_blocks.ensures.room,
  c.append_zeros.ensures.len,
  c.append_zeros.ensures.room,
  c.append_sky.ensures.len,
  c.append_sky.ensures.room,
  c.requires.room,
  c.requires.kept.biomes_are,
  c.light_size-light.ensures,
)

pub returns : goal.returns
unfolding body_bytes
returns c =
    let blocks : c.append_blocks.new.out.items ≡ c.args.out.now.items ++
    wire (column_body (kept_column c.args.sections.now.items c.args.biomes.now)
    c.args.mask).states = c.append_blocks.ensures.items ∙
    ap (λ (t : List ℕ). c.args.out.now.items ++ wire t) (kept_states _ _ c.args.mask
    c.requires.kept) in
    let dark : c.append_zeros.new.out.items ≡ c.append_blocks.new.out.items ++
    replicate (named_count c.args.mask * light_bytes) 0 =
    rw c.light_size-light.ensures at c.append_zeros.ensures.items in
    together _ _ _ _ _ _ _ _ _ blocks dark c.append_sky.ensures.items c.append.ensures.items
