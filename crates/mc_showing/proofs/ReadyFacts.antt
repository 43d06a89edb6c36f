-- Columns that are made ready stay so, and what was encoded of a game stays so with them.
use Rattle.std.proofs.Common.{◌≡◌, ℕ, Bool, true, false, List, [], ◌∷◌, map, refl, sym, subst, ap}
use Rattle.std.proofs.Common.{◌∙◌}
use Rattle.std.specs.Prelude.{◌||◌, Option, Some}
use Rattle.std.specs.List.{AllByRecursion}
use Rattle.std.specs.FinMap.{get}
use Rattle.std.specs.FinSet as set
use Rattle.std.specs.Ordering.{eq_by_cmp}
use Rattle.mc_land.specs.Land.{LandValue, states_of, with_ready}
use Rattle.mc_land.specs.Places.{IsPlace, Place, place_cmp}
use Rattle.mc_land.specs.Ready.{touched_cells}
use Rattle.mc_land.specs.declared.ready.Touched.{Touched}
use Rattle.mc_land.proofs.Orders.{places_total}
use Rattle.mc_model.specs.Delta.{cell_packets, load}
use Rattle.mc_model.specs.Packets.{frame_of, of_play}
use Rattle.mc_model.proofs.Orders.{is_ready}
use Rattle.mc_sending.specs.Sending.{play_bytes}
use Rattle.mc_loads.specs.ColumnFrames.{change_bytes, load_bytes}
use Rattle.mc_loads.specs.Columns.{IsReady, placed_with}
use Rattle.mc_flush.specs.Encoding.{AreFrames, EncodedValue}
use Rattle.mc_flush.specs.Lists.{ListValue}
use Rattle.mc_flush.specs.Seeing.{MarkValue}
use Rattle.mc_model.specs.declared.player.Player.{Player}
use Rattle.mc_model.specs.Game.{Game}
use Rattle.mc_play.specs.Kept.{GameValue, land_of}
use Rattle.mc_showing.specs.Around.{new_columns}
use Rattle.mc_showing.specs.Preparing.{IsReadyFor, Prepares}

-- ---- one column

kept : (a b : Bool) → b ≡ true → (a || b) ≡ true
kept true b t = refl
kept false b t = t

ready_grown : (land : LandValue) (place other : Place) → IsReady land other →
    IsReady (with_ready land place) other
ready_grown land place other there = record {
  near = there.near;
  ready = set.contains-insert places_total land.ready place other ∙
      kept (eq_by_cmp place_cmp other place) (set.contains land.ready other) there.ready;
}

pub now_ready : (old new : LandValue) (place : Place) → new ≡ with_ready old place →
    IsPlace place → IsReady new place
now_ready old new place is near = rw is (record { near = near; ready = is_ready old.ready place })

-- ---- what a game keeps

pub prepares_itself : (old new : GameValue) → new ≡ old → Prepares old new
prepares_itself old new same = rw same (record {
  game = refl;
  settled = refl;
  grown = λ place there. there;
})

pub prepares_one : (old new : GameValue) (place : Place) →
    land_of new ≡ with_ready (land_of old) place → new.game ≡ old.game →
    new.settled ≡ old.settled → Prepares old new
prepares_one old new place land game settled = record {
  game = game;
  settled = settled;
  grown = λ other there. rw land (ready_grown (land_of old) place other there);
}

pub prepares_onward : (a b c : GameValue) → Prepares a b → Prepares b c → Prepares a c
prepares_onward a b c first second = record {
  game = second.game ∙ first.game;
  settled = second.settled ∙ first.settled;
  grown = λ place there. second.grown place (first.grown place there);
}

-- ---- what was encoded

load_same : (old new : GameValue) (place : Place) → Prepares old new →
    load_bytes (land_of old) place ≡ load_bytes (land_of new) place
load_same old new place same = sym (λ i. frame_of (of_play (load
    (placed_with (same.game i).settings.terrain (same.game i).edits place))))

change_same : (old new : GameValue) (place : Place) → Prepares old new →
    change_bytes (land_of old) place ≡ change_bytes (land_of new) place
change_same old new place same = sym (λ i. play_bytes (cell_packets place
    (states_of (same.game i).settings.terrain (same.game i).edits place)
    (map (λ (t : Touched). t.index) (touched_cells
    (states_of (same.game i).settings.terrain (same.settled i) place)
    (states_of (same.game i).settings.terrain (same.game i).edits place)))))

pub frames_same : (old new : GameValue) (list : ListValue) (encoded : EncodedValue) →
    Prepares old new → AreFrames (land_of old) list encoded → AreFrames (land_of new) list encoded
frames_same old new list encoded same are = record {
  players = are.players;
  loads = λ place bytes there. are.loads place bytes there ∙ load_same old new place same;
  changes = λ place bytes there. are.changes place bytes there ∙ change_same old new place same;
  entities = are.entities;
  lines = are.lines;
}

-- what was added to them for a land that is the game's now
pub frames_more : (old new : GameValue) (land : LandValue) (list : ListValue)
    (before after : EncodedValue) → land ≡ land_of new → Prepares old new →
    (AreFrames land list before → AreFrames land list after) →
    AreFrames (land_of old) list before → AreFrames (land_of new) list after
frames_more old new land list before after is same more are =
    subst (λ (l : LandValue). AreFrames l list after) is
    (more (subst (λ (l : LandValue). AreFrames l list before) (sym is)
    (frames_same old new list before same are)))

-- ---- columns one after another

-- all columns of a list are ready in each game that has those of another game and the rest of the
-- list
abbrev pub IsReadying : GameValue → List Place → List Place → Type 0
IsReadying v rest places = (other : GameValue) → Prepares v other →
    AllByRecursion (IsReady (land_of other)) rest → AllByRecursion (IsReady (land_of other)) places

pub readying_next : (old new : GameValue) (x : Place) (left rest places : List Place) →
    left ≡ x ∷ rest → Prepares old new → IsReady (land_of new) x → IsReadying old left places →
    IsReadying new rest places
readying_next old new x left rest places next grown ready is other more all =
    is other (prepares_onward old new other grown more)
    (subst (AllByRecursion (IsReady (land_of other))) (sym next) (more.grown x ready, all))

pub readying_done : (v : GameValue) (rest places : List Place) → rest ≡ [] →
    IsReadying v rest places → AllByRecursion (IsReady (land_of v)) places
readying_done v rest places none is = is v (prepares_itself v v refl)
    (subst (AllByRecursion (IsReady (land_of v))) (sym none) tt)

-- ---- clients

all_grown : (old new : GameValue) (places : List Place) → Prepares old new →
    AllByRecursion (IsReady (land_of old)) places → AllByRecursion (IsReady (land_of new)) places
all_grown old new [] same all = tt
all_grown old new (place ∷ places) same all =
    (same.grown place all.0, all_grown old new places same all.1)

-- what is ready for a client stays so
pub ready_stays : (old new : GameValue) (connection : ℕ) (mark : MarkValue) → Prepares old new →
    IsReadyFor old connection mark → IsReadyFor new connection mark
ready_stays old new connection mark same ready p here =
    subst (λ (g : Game). get g.players connection ≡ Some p →
    AllByRecursion (IsReady (land_of new)) (new_columns g p mark)) (sym same.game)
    (λ there. all_grown old new (new_columns old.game p mark) same (ready p there)) here

one_player : (p q : Player) (o : Option Player) → o ≡ Some p → o ≡ Some q → p ≡ q
one_player p q o a b = let same : Some p ≡ Some q = sym a ∙ b in cc

-- and it is ready for one whose columns are ready
pub ready_for : (old new : GameValue) (connection : ℕ) (p : Player) (mark : MarkValue)
    (places : List Place) → get old.game.players connection ≡ Some p →
    places ≡ new_columns old.game p mark → Prepares old new →
    AllByRecursion (IsReady (land_of new)) places → IsReadyFor new connection mark
ready_for old new connection p mark places here are same all q there =
    let found : get old.game.players connection ≡ Some q =
    ap (λ (g : Game). get g.players connection) (sym same.game) ∙ there in
    let is : p ≡ q = one_player p q (get old.game.players connection) here found in
    subst (AllByRecursion (IsReady (land_of new)))
    (are ∙ ap (λ (g : Game). new_columns g p mark) (sym same.game)
    ∙ ap (λ (r : Player). new_columns new.game r mark) is) all
