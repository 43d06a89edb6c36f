-- What a land keeps for speed alone. No public contract speaks of this.
use Rattle.std.specs.Prelude.{◌≡◌, ◌==◌, ◌≤◌, Bool, false, not, List, Option, Some, None, length}
use Rattle.std.specs.Ordering.{eq_by_cmp}
use Rattle.std.specs.List.{list_any}
use Rattle.std.specs.FinMap.{find}
use Rattle.mc_land.specs.declared.land.upkeep.Upkeep.{Upkeep}
use Rattle.mc_land.specs.Places.{Place, place_cmp}
use Rattle.mc_land.specs.KeptLand.{placed}
use Rattle.mc_land.specs.Ready.{ReadyValue, settled_ready, touched_cells}
use Rattle.mc_land.specs.ReadyCode.{changed_at}
use Rattle.mc_land.specs.ShedCode.{AreKept}

-- a place is one of some
abbrev pub has : Place → List Place → Bool
has place places = list_any (eq_by_cmp place_cmp place) places

-- there is a column, and a cell of it is dirty
abbrev pub is_touched : Option ReadyValue → Bool
is_touched None = false
is_touched (Some ready) =
    not (length (touched_cells ready.settled.states ready.present.states) == 0)

-- a column in which no cell is dirty is as it was settled
abbrev pub IsWhole : ReadyValue → Type 0
IsWhole ready = is_touched (Some ready) ≡ false → settled_ready ready ≡ ready

-- the columns in which a cell is dirty are known, and the others are as they were settled
pub record AreKnown (columns : List ReadyValue) (touched : List Place) : Type 0 where
  pub are : (q : Place) → has q touched ≡ is_touched (find place_cmp q (placed columns))
  pub whole : (q : Place) (ready : ReadyValue) → find place_cmp q (placed columns) ≡ Some ready →
      IsWhole ready

-- so many columns, from the first on, stay by the views of the last shedding
pub record IsUpkeep (columns : List ReadyValue) (upkeep : Upkeep) : Type 0 where
  pub known : AreKnown columns upkeep.touched.keys
  pub within : upkeep.staying ≤ length columns
  pub stay : AreKept upkeep.seen.items columns upkeep.staying

-- of all ready columns the one of a place, settled
abbrev pub settled_at : Place → ReadyValue → ReadyValue
settled_at place ready = changed_at place settled_ready ready
