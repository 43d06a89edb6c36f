use Rattle.std.proofs.Common.{◌≡◌, ℕ, ◌*◌, ◌<◌, Bool, true, false, cond, List, length, refl, sym}
use Rattle.std.proofs.Common.{◌∙◌}
use Rattle.mc_column.specs.Sizes.{section_count, section_cells, squares}
use Rattle.mc_column.specs.Cells.{paired}
use Rattle.mc_column.specs.Body.{BodyValue, put_section, named_count, block_light_at, biome_count}
use Rattle.mc_column.specs.KeptColumn.{nth_section}
use Rattle.mc_column.proofs.Pairs.{length-paired}
use Rattle.mc_column.proofs.BodyFacts.{blocks_even}
use Rattle.mc_column.proofs.PutFacts.{kept_put, kept_put_keeps, laid}
use Rattle.mc_column.proofs.column.Column.put.Goals as goal

-- what was laid is what the body has
each_of : (sections new : List (List ℕ)) (body : BodyValue) (mask : ℕ) (ground_up : Bool)
    (blocks : List ℕ) → body.mask ≡ mask → body.ground_up ≡ ground_up → paired blocks ≡
    body.states → ((k : ℕ) → k < section_count → nth_section new k ≡
    put_section mask ground_up (paired blocks) k (nth_section sections k)) → (k : ℕ) →
    k < section_count → nth_section new k ≡ put_section body.mask body.ground_up body.states k
    (nth_section sections k)
each_of sections new body mask ground_up blocks m g s each k lt = rw (m, g, ← s) (each k lt)

states_sized : (blocks : List ℕ) (named mask : ℕ) → named ≡ mask → length blocks ≡
    block_light_at named → length (paired blocks) ≡ named_count mask * section_cells
states_sized blocks named mask e len = length-paired blocks (named_count mask * section_cells)
    (len ∙ rw e (blocks_even mask))

biomes_sized : (new given old : List ℕ) (ground_up : Bool) → new ≡ cond ground_up given old →
    length given ≡ biome_count ground_up → length old ≡ squares → length new ≡ squares
biomes_sized new given old true is len kept = rw is len
biomes_sized new given old false is len kept = rw is kept

pub put_biomes-requires : goal.put_biomes-requires
put_biomes-requires c ground = c.biomes.ensures.len ∙ rw (c.requires.for_ground, ground)
    (sym c.self.invariant.biomes_are)

pub invariant_of-self : goal.invariant_of-self
invariant_of-self c =
    let each = laid c.args.mask c.args.ground_up (paired c.blocks-2.result.now) _ _ _
    c.in_ok-made.ensures.each c.lay_all.ensures.each in
    kept_put_keeps _ _ _ _ c.args.mask c.args.ground_up (paired c.blocks-2.result.now)
    c.self.invariant c.lay_all.ensures.len each (states_sized _ _ _ c.requires.for_mask
    c.blocks-2.ensures.len) (biomes_sized _ _ _ c.args.ground_up c.put_biomes.ensures
    (c.biomes.ensures.len ∙ rw c.requires.for_ground refl) c.self.invariant.biomes_are)

pub returns-clause-ok : goal.returns-clause-ok
returns-clause-ok c =
    let each = laid c.args.mask c.args.ground_up (paired c.blocks-2.result.now) _ _ _
    c.in_ok-made.ensures.each c.lay_all.ensures.each in
    rw (← c.self.view_is) (kept_put _ _ _ _ c.args.body.now c.self.invariant
    (each_of _ _ c.args.body.now _ _ _ c.requires.for_mask c.requires.for_ground
    c.blocks-2.ensures.states each) (c.put_biomes.ensures ∙ rw (
      c.requires.for_ground,
      c.biomes.ensures.value,
    ) refl))
