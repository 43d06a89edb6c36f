-- What one client is shown of columns, and the packets of what differs from what it was shown.
use Rattle.std.specs.Prelude.{◌≡◌, ◌&&◌, ℕ, Bool, true, List, [], ◌++◌, map, Option, Some, None}
use Rattle.std.specs.List.{filter, flat_map}
use Rattle.std.specs.FinMap.{FinMap}
use Rattle.std.specs.FinSet as set
use Rattle.mc_column.specs.Cells.{ColumnValue}
use Rattle.mc_land.specs.declared.terrain.Terrain.{Terrain}
use Rattle.mc_land.specs.declared.ready.Touched.{Touched}
use Rattle.mc_land.specs.Places.{Place, IsPlace, key_cmp}
use Rattle.mc_land.specs.Land.{LandValue, states_of, biomes_of, dirty_in}
use Rattle.mc_packets.specs.declared.down.Down.{Down}
use Rattle.mc_view.specs.declared.view_set.ViewSet.{ViewSet}
use Rattle.mc_view.specs.Sets.{all_of, has, is_within, lacking}
use Rattle.mc_model.specs.Delta.{cell_packets, load, unload}

-- a column of a terrain with these edits, under its place
abbrev pub placed_with : Terrain → FinMap key_cmp ℕ → Place → Place × ColumnValue
placed_with terrain edits place =
    (place, record { states = states_of terrain edits place; biomes = biomes_of terrain place })

-- a column as it is now
abbrev pub placed_column : LandValue → Place → Place × ColumnValue
placed_column land place = placed_with land.terrain land.edits place

-- the columns of one view that another lacks, where there may be none
abbrev pub left_of : Option ViewSet → ViewSet → List Place
left_of None view = []
left_of (Some old) view = lacking old view

abbrev pub entered_of : Option ViewSet → ViewSet → List Place
entered_of None view = all_of view
entered_of (Some old) view = lacking view old

-- those of a view that were shown
abbrev pub stayed_of : Option ViewSet → ViewSet → List Place
stayed_of was view = filter (is_within was) (all_of view)

-- a column that is in view and was shown, and those of some columns that are such
abbrev pub stays : Option ViewSet → ViewSet → Place → Bool
stays was view place = has view place && is_within was place

abbrev pub staying : Option ViewSet → ViewSet → List Place → List Place
staying was view places = filter (stays was view) places

abbrev pub unload_packets : List Place → List Down
unload_packets places = map unload places

abbrev pub load_packets : LandValue → List Place → List Down
load_packets land places = map load (map (placed_column land) places)

-- the cells of a column that changed since the last settling, as they are now
abbrev pub place_packets : LandValue → Place → List Down
place_packets land place =
    cell_packets place (states_of land.terrain land.edits place)
    (map (λ (t : Touched). t.index) (dirty_in land place))

abbrev pub changed_packets : LandValue → List Place → List Down
changed_packets land places = flat_map (place_packets land) places

-- what differs between the columns of two views, where there may be no first
abbrev pub packets_between : LandValue → Option ViewSet → ViewSet → List Down
packets_between land was view =
    unload_packets (left_of was view)
    ++ (load_packets land (entered_of was view) ++ changed_packets land (stayed_of was view))

-- a column that may be looked at
pub record IsReady (land : LandValue) (place : Place) : Type 0 where
  pub near : IsPlace place
  pub ready : set.contains land.ready place ≡ true
