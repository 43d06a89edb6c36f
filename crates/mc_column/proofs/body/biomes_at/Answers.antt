use Rattle.std.proofs.Common.{arith}
use Rattle.mc_column.proofs.BodyFacts.{biomes_with_sky, biomes_without}
use Rattle.mc_column.proofs.body.biomes_at.Goals as goal

pub returns-then-sky : goal.returns-then-sky
returns-then-sky c = record {
  value = rw (c.named_count-count.ensures.value, c.if-sky.true) (biomes_with_sky _);
  most = omega (arith, c.named_count-count.ensures.most);
}

pub returns-else-sky : goal.returns-else-sky
returns-else-sky c = record {
  value = rw (c.named_count-count.ensures.value, c.if-sky.false) (biomes_without _);
  most = omega (arith, c.named_count-count.ensures.most);
}
