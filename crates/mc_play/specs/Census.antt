-- How much there is in a game: the cells that were changed, and all items, whatever their sorts.
-- Rules of this project.
use Rattle.std.specs.Prelude.{ℕ, ◌+◌, List}
use Rattle.std.specs.List.{sum_by}
use Rattle.std.specs.FinMap.{FinMap, entries, len}
use Rattle.mc_slots.specs.declared.pile.Pile.{Pile}
use Rattle.mc_slots.specs.declared.pile.Pile.TheVariants.{Full}
use Rattle.mc_slots.specs.Pile.{count_of}
use Rattle.mc_land.specs.Places.{Key, key_cmp}
use Rattle.mc_windows.specs.Pack.{PackValue}
use Rattle.mc_entities.specs.declared.entity.Entity.{Entity}
use Rattle.mc_entities.specs.declared.entity.EntityKind.{EntityKind}
use Rattle.mc_entities.specs.declared.entity.EntityKind.TheVariants as kinds
use Rattle.mc_model.specs.Maps.{name_cmp}
use Rattle.mc_model.specs.Game.{Game}
use Rattle.mc_play.specs.declared.census.Census.{Census}

-- ---- items, by what is counted of a pile

abbrev pub pack_items : (Pile → ℕ) → PackValue → ℕ
pack_items count pack = sum_by count pack.slots + count pack.cursor

-- what an entity is that lies there
abbrev pub kind_items : (Pile → ℕ) → EntityKind → ℕ
kind_items count (kinds.Dropped item born) = count (Full item)
kind_items count other = 0

abbrev pub packs_items : (Pile → ℕ) → FinMap name_cmp PackValue → ℕ
packs_items count packs = sum_by (λ (e : List ℕ × PackValue). pack_items count e.1) (entries packs)

abbrev pub chests_items : (Pile → ℕ) → FinMap key_cmp (List Pile) → ℕ
chests_items count chests = sum_by (λ (e : Key × List Pile). sum_by count e.1) (entries chests)

abbrev pub entities_items : (Pile → ℕ) → List Entity → ℕ
entities_items count entities = sum_by (λ (e : Entity). kind_items count e.kind) entities

-- what is carried, on cursors, kept for who is not in play, put into chests, and dropped
abbrev pub game_items : (Pile → ℕ) → Game → ℕ
game_items count g =
    packs_items count g.packs + chests_items count g.chests + entities_items count g.entities

-- ---- the census

abbrev pub census_of : Game → Census
census_of g = record { edits = len g.edits; stock = game_items count_of g }
