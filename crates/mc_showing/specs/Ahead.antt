-- What is encoded ahead of the flushes of a tick, once for all clients. Rules of this project.
use Rattle.std.specs.Prelude.{ℕ, List, Option, Some, None}
use Rattle.std.specs.FinMap.{FinMap}
use Rattle.std.specs.List.{fold}
use Rattle.mc_land.specs.Places.{Place, key_cmp}
use Rattle.mc_land.specs.Land.{LandValue}
use Rattle.mc_view.specs.declared.view_set.ViewSet.{ViewSet}
use Rattle.mc_loads.specs.Columns.{staying}
use Rattle.mc_flush.specs.Encoding.{EncodedValue, nothing_encoded, with_changes}
use Rattle.mc_flush.specs.Encoding.{with_load, with_players}
use Rattle.mc_flush.specs.Lists.{ListValue}
use Rattle.mc_flush.specs.Seeing.{MarkValue}
use Rattle.mc_model.specs.declared.player.Player.{Player}
use Rattle.mc_model.specs.Game.{Game}
use Rattle.mc_showing.specs.Around.{kept_columns, new_columns}
use Rattle.mc_showing.specs.Looking.{cells_of}

-- who left and who came
abbrev pub begun : ListValue → EncodedValue
begun list = with_players nothing_encoded list

-- the loads of columns, one after another
abbrev pub with_loads : LandValue → EncodedValue → List Place → EncodedValue
with_loads land encoded places = fold (λ (e : EncodedValue) place. with_load e land place) encoded
    places

-- the changed cells of columns, one after another
abbrev pub with_all_changes : LandValue → EncodedValue → List Place → EncodedValue
with_all_changes land encoded places = fold
    (λ (e : EncodedValue) place. with_changes e land place) encoded places

-- those of the columns that are in view and were shown
abbrev pub with_stayed_changes : LandValue → Option ViewSet → ViewSet → EncodedValue → List Place →
    EncodedValue
with_stayed_changes land was view encoded places =
    with_all_changes land encoded (staying was view places)

-- for a player, if there is one: the load of each column that comes, and the changed cells of each
-- that stays
abbrev pub prepared : FinMap key_cmp ℕ → Game → MarkValue → Option Player → EncodedValue →
    EncodedValue
prepared settled g mark None encoded = encoded
prepared settled g mark (Some p) encoded = with_all_changes (cells_of settled g)
    (with_loads (cells_of settled g) encoded (new_columns g p mark)) (kept_columns g p mark)
