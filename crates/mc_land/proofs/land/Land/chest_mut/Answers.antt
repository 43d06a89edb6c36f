use Rattle.std.proofs.Common.{◌∙◌, sym, refl, rules}
use Rattle.mc_land.specs.Land.{block, is_chest}
use Rattle.mc_land.specs.Chests.{chest_in}
use Rattle.mc_land.proofs.ChestFacts.{chest_there, chest_in_is, chest_put_is, lends_alike}
use Rattle.mc_land.proofs.ChestFacts.{none_there_mut}
use Rattle.mc_land.proofs.land.Land.chest_mut.Goals as goal

pub returns : goal.returns
returns c =
    let piles = c.chest_at_mut.ensures.piles ∙
    sym (chest_in_is c.args.self.now c.args.cell.x c.args.cell.y c.args.cell.z c.key_of.result
    (search rules) (search rules) c.key_of.ensures.at) in (
      lends_alike c.chest_at_mut.result _ _ _ _ (λ some w. chest_put_is c.args.self.now
          c.args.cell.x c.args.cell.y c.args.cell.z c.key_of.result w (search rules) (search rules)
          c.key_of.ensures.at) (λ none. refl),
      record {
        lends = tt;
        none = none_there_mut c.chest_at_mut.result (chest_in c.args.self.now c.args.cell.x
            c.args.cell.y c.args.cell.z)
            (is_chest (block c.args.self.now c.args.cell.x c.args.cell.y c.args.cell.z)) piles
            (chest_there c.args.self.now c.args.cell.x c.args.cell.y c.args.cell.z c.key_of.result
            (search rules) (search rules) c.key_of.ensures.at c.chest_at_mut.ensures.there);
        piles = piles;
      },
    )
