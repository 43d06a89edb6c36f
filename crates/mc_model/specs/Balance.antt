-- That no item is lost or made: items come by the kit and by digging, and go by placing. Rules of
-- this project.
use Rattle.std.specs.Prelude.{◌≡◌, ◌≤◌, ℕ, ◌+◌, ◌*◌, ◌==◌, List, if◌then◌else◌}
use Rattle.std.specs.List.{sum_by}
use Rattle.std.specs.FinMap.{FinMap, entries, len}
use lib.IntN.{pos}
use Rattle.mc_slots.specs.declared.pile.Pile.{Pile}
use Rattle.mc_slots.specs.declared.pile.Pile.TheVariants.{Full}
use Rattle.mc_slots.specs.Pile.{Sort, held}
use Rattle.mc_land.specs.declared.terrain.Terrain.{Terrain}
use Rattle.mc_land.specs.Places.{Key, key_cmp}
use Rattle.mc_land.specs.Land.{terrain_at}
use Rattle.mc_windows.specs.Pack.{PackValue, kit_pack}
use Rattle.mc_windows.specs.Stock.{in_pack, in_piles}
use Rattle.mc_entities.specs.declared.entity.Entity.{Entity}
use Rattle.mc_entities.specs.declared.entity.EntityKind.{EntityKind}
use Rattle.mc_entities.specs.declared.entity.EntityKind.TheVariants as kinds
use Rattle.mc_model.specs.Maps.{name_cmp}
use Rattle.mc_model.specs.Game.{Game}

-- ---- what there is of a sort

-- what lies there
abbrev pub lying : Sort → EntityKind → ℕ
lying sort (kinds.Dropped item born) = held sort (Full item)
lying sort other = 0

abbrev pub in_entities : Sort → List Entity → ℕ
in_entities sort entities = sum_by (λ (e : Entity). lying sort e.kind) entities

-- ---- cells that were changed

abbrev pub one_of : ℕ → ℕ → ℕ
one_of state other = if other == state then 1 else 0

-- how many of them have a state now, and how many had it before anybody came
abbrev pub now_edited : ℕ → FinMap key_cmp ℕ → ℕ
now_edited state edits = sum_by (λ (e : Key × ℕ). one_of state e.1) (entries edits)

abbrev pub once_edited : ℕ → Terrain → FinMap key_cmp ℕ → ℕ
once_edited state terrain edits =
    sum_by (λ (e : Key × ℕ). one_of state (terrain_at terrain e.0)) (entries edits)

-- ---- the balance

-- the sort of what a state is dug as
abbrev pub sort_of : ℕ → ℕ → Sort
sort_of id damage = record { id = pos id; damage = pos damage }

abbrev pub in_packs : Sort → FinMap name_cmp PackValue → ℕ
in_packs sort packs = sum_by (λ (e : List ℕ × PackValue). in_pack sort e.1) (entries packs)

abbrev pub in_chests : Sort → FinMap key_cmp (List Pile) → ℕ
in_chests sort chests = sum_by (λ (e : Key × List Pile). in_piles sort e.1) (entries chests)

-- what is carried, kept, put into chests and dropped
abbrev pub stock : Sort → Game → ℕ
stock sort g =
    in_packs sort g.packs + in_chests sort g.chests + in_entities sort g.entities

-- For each sort: what there is and what was placed is what the kits of all names had and what was
-- dug.
abbrev pub Balance : Game → Type 0
Balance g = (id damage : ℕ) → 1 ≤ id → id ≤ 255 → damage ≤ 15 →
    stock (sort_of id damage) g + now_edited (16 * id + damage) g.edits
    ≡ in_pack (sort_of id damage) kit_pack * len g.packs
    + once_edited (16 * id + damage) g.settings.terrain g.edits
