use Rattle.std.proofs.Common.{◌∙◌, sym, rules}
use Rattle.mc_land.specs.Land.{block, is_chest}
use Rattle.mc_land.specs.Chests.{chest_in}
use Rattle.mc_land.proofs.ChestFacts.{chest_there, chest_in_is, none_there}
use Rattle.mc_land.proofs.land.Land.chest.Goals as goal

pub returns-clause-none : goal.returns-clause-none
returns-clause-none c =
    none_there c.chest_at.result (chest_in c.args.self.now c.args.cell.x c.args.cell.y
    c.args.cell.z) (is_chest (block c.args.self.now c.args.cell.x c.args.cell.y c.args.cell.z))
    (c.chest_at.ensures.piles ∙ sym (chest_in_is c.args.self.now c.args.cell.x c.args.cell.y
    c.args.cell.z c.key_of.result (search rules) (search rules) c.key_of.ensures.at))
    (chest_there c.args.self.now c.args.cell.x c.args.cell.y c.args.cell.z c.key_of.result
    (search rules) (search rules) c.key_of.ensures.at c.chest_at.ensures.there)
