-- Mobs stand where they begin, one more at a time.
use Rattle.std.proofs.Common.{◌≡◌, ℕ, ◌+◌, [], sym, ap, ◌∙◌, arith}
use Rattle.std.proofs.lemmas.List.FromFn.{map-range_with_len_more}
use Rattle.mc_land.specs.declared.terrain.Terrain.{Terrain}
use Rattle.mc_entities.specs.declared.entity.EntityKind.TheVariants as kinds
use Rattle.mc_entities.specs.Folk.{FolkState, spawned}
use Rattle.mc_model.specs.Mobs.{mob_at, mob_spot}
use Rattle.mc_play.specs.Kept.{mobs_begun}

pub mobs_next : (terrain : Terrain) (i : ℕ) (old new : FolkState) → old ≡ mobs_begun terrain i →
    new ≡ spawned kinds.Mob (mob_spot terrain i) old → new ≡ mobs_begun terrain (i + 1)
mobs_next terrain i old new was is = is ∙ ap (spawned kinds.Mob (mob_spot terrain i)) was
    ∙ (λ k. record {
      entities = sym (map-range_with_len_more (mob_at terrain) 0 i i (omega arith)) k;
      told = [];
      given = i + 1;
    })
