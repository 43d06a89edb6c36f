-- What a client is shown of the parts of a scene is what the game shows its player.
use Rattle.std.proofs.Common.{◌≡◌, ℕ, zero, suc, ◌+◌, ◌*◌, List, [], ◌∷◌, ◌++◌, length, map}
use Rattle.std.proofs.Common.{Option, Some, None}
use Rattle.std.proofs.Common.{is_some, refl, sym}
use Rattle.std.proofs.Common.{subst, ap, ◌∙◌, append_assoc}
use Rattle.std.specs.Prelude.{drop, option_map, if◌then◌else◌}
use Rattle.std.specs.List.{AllByRecursion, filter, sum_by}
use Rattle.std.specs.Option.{option_copied}
use Rattle.std.specs.FinMap.{from_entries, get-empty}
use Rattle.std.specs.Ordering.{int_cmp}
use lib.IntN.{pos}
use Rattle.mc_column.specs.Sizes.{cells}
use Rattle.mc_land.specs.Places.{Place}
use Rattle.mc_packets.specs.declared.down.Down.{Down}
use Rattle.mc_entities.specs.declared.entity.Entity.{Entity}
use Rattle.mc_slots.specs.Pile.{slot_of}
use Rattle.mc_view.specs.Sets.{is_within}
use Rattle.mc_view.specs.Views.{column_of_spot, is_in_view, view_of}
use Rattle.mc_model.specs.Delta.{delta}
use Rattle.mc_model.specs.Sight.{Sight, nothing_seen, others, seen_of, window_seen}
use Rattle.mc_model.specs.Notes.{confirm_packet, is_sent, noted_packets, notes_of}
use Rattle.mc_model.specs.Opening.{opening_of}
use Rattle.mc_model.specs.Ticks.{beat_at, shown_age}
use Rattle.mc_model.specs.declared.player.Player.{Player}
use Rattle.mc_model.specs.Game.{Game, spot_of}
use Rattle.mc_model.specs.Showing.{due, last_shown, notes_due, sight_of}
use Rattle.mc_play.specs.Kept.{land_of}
use Rattle.mc_told.specs.Telling.{kept_of, told_slot}
use Rattle.mc_loads.specs.ColumnFrames.{changes_cost, unencoded}
use Rattle.mc_loads.specs.Columns.{IsReady, placed_with}
use Rattle.mc_sending.specs.Sending.{play_bytes}
use Rattle.mc_sending.proofs.Pieces.{play_bytes-append}
use Rattle.mc_flush.specs.declared.client_view.ClientView.{ClientView}
use Rattle.mc_flush.specs.Encoding.{AreFrames, columns_in, looks, looks_at}
use Rattle.mc_flush.specs.Encoding as mark_notes
use Rattle.mc_flush.specs.Lists.{ListValue}
use Rattle.mc_flush.specs.Seeing.{MarkValue, Parts, StandsFor, is_shown, loaded, noted_of}
use Rattle.mc_flush.specs.Seeing.{nothing_shown, present_parts, seen, settled_parts, spot_seen}
use Rattle.mc_flush.specs.LineFrames.{IsLine}
use Rattle.mc_showing.specs.declared.scene.Scene.{Scene}
use Rattle.mc_showing.specs.Around.{new_columns}
use Rattle.mc_showing.specs.Looking.{rest_looks}
use Rattle.mc_showing.specs.Shown.{IsListed, Shows, pairs_of}
use Rattle.mc_showing.specs.Scenes.{IsPart, IsScene}
use Rattle.mc_showing.proofs.ColumnFacts.{around_columns, loaded_are}

-- ---- marks

nothing_stands : (parts : Parts) → StandsFor nothing_shown parts nothing_seen
unfolding StandsFor
nothing_stands parts = record {
  beat = refl;
  age = refl;
  pairs = refl;
  columns = refl;
  entities = λ eid. ap (option_map kept_of) (get-empty int_cmp eid)
      ∙ sym (ap (option_map told_slot) (get-empty int_cmp eid));
  window = refl;
  pack = refl;
  cursor = refl;
}

-- a mark stands for what was shown at the last tick
shown_stands : (parts : Parts) (mark : MarkValue) (shown : Option Sight) → Shows parts mark shown →
    StandsFor mark parts (last_shown shown)
shown_stands parts mark None new = subst (λ (m : MarkValue). StandsFor m parts nothing_seen)
    (sym new) (nothing_stands parts)
shown_stands parts mark (Some s) shows = shows.1

-- and says whether something was
shown_is : (parts : Parts) (mark : MarkValue) (shown : Option Sight) → Shows parts mark shown →
    is_shown mark ≡ is_some shown
shown_is parts mark None new = ap is_shown new
shown_is parts mark (Some s) shows = shows.0

-- ---- lines

-- those behind so many can be sent where all can
pub later_lines : (since : ℕ) (lines : List (List ℕ)) → AllByRecursion IsLine lines →
    AllByRecursion IsLine (drop since lines)
later_lines zero lines all = all
later_lines (suc since) [] all = tt
later_lines (suc since) (line ∷ lines) all = later_lines since lines all.1

-- ---- a part of a scene

-- what is sent first, and all else behind it
sent_all : (start middle end : List ℕ) (first rest : List Down) →
    middle ≡ start ++ play_bytes first → end ≡ middle ++ play_bytes rest →
    end ≡ start ++ play_bytes (first ++ rest)
sent_all start middle end first rest before behind =
    behind ∙ ap (λ (bytes : List ℕ). bytes ++ play_bytes rest) before
    ∙ append_assoc start (play_bytes first) (play_bytes rest)
    ∙ ap (λ (bytes : List ℕ). start ++ bytes) (sym (play_bytes-append first rest))

module _ (scene : Scene) (p : Player) (part : ClientView) (is : IsScene scene)
    (has : IsPart scene.game.now scene.list.now p part) where
  abbrev game : Game
  game = scene.game.now.game

  abbrev HasPlayers : Type 0
  HasPlayers = IsListed scene.list.now game

  listed : HasPlayers → part.list.now.present ≡ pairs_of game
  listed players = ap (λ (list : ListValue). list.present) has.list ∙ players

  lines_are : part.lines.now ≡ drop p.since game.lines
  lines_are = has.lines

  -- what is seen of it, where this was shown before
  abbrev pub seen_after : Sight → Sight
  seen_after last = seen part.land.now part.list.now
      (others part.me part.folk.now.state.entities) part.pack.now (option_copied part.chest)
      part.view part.age
      (last.chat ++ part.lines.now)

  seen_is : HasPlayers → (last : Sight) → seen_after last ≡ sight_of game p last
  unfolding sight_of
  seen_is players last = λ i. record {
    beat = Some (pos (beat_at (has.age i)));
    age = Some (pos (shown_age (has.age i)));
    pairs = listed players i;
    columns = from_entries (map (placed_with (has.land i).terrain (has.land i).edits)
        (view_of (has.view.middle i) (has.view.d i)));
    entities = from_entries (map seen_of (filter (λ (e : Entity).
        is_in_view (has.view.middle i) (has.view.d i) (column_of_spot e.spot))
        (others (has.me i) (has.entities i))));
    window = window_seen (has.pack i) (has.chest i);
    pack = map slot_of (has.pack i).slots;
    cursor = slot_of (has.pack i).cursor;
    chat = last.chat ++ lines_are i;
  }

  -- what was noted
  abbrev pub noted_part : List Down
  noted_part = noted_of part.land.now part.view p.notes
      (spot_seen part.land.now part.folk.now.state.entities part.me) part.pack.now
      (option_copied part.chest)

  noted_is : noted_part ≡ notes_due game p
  noted_is = λ i.
      map confirm_packet p.notes.confirms
      ++ noted_packets (has.land i).terrain (has.land i).edits (λ (place : Place).
      is_in_view (has.view.middle i) (has.view.d i) place) p.notes.cells
      ++ notes_of p.notes (spot_seen (has.land i) (has.entities i) (has.me i)) (has.pack i)
      (has.chest i)

  -- ---- what a flush asks

  before_is : settled_parts part.land.now part.list.now
      ≡ settled_parts (land_of scene.game.now) scene.list.now
  before_is = λ i. record {
    players = (has.list i).last;
    terrain = (has.land i).terrain;
    edits = (has.land i).settled;
  }

  pub stands_before : (mark : MarkValue) (shown : Option Sight) →
      Shows (settled_parts (land_of scene.game.now) scene.list.now) mark shown →
      StandsFor mark (settled_parts part.land.now part.list.now) (last_shown shown)
  stands_before mark shown shows =
      subst (λ (parts : Parts). StandsFor mark parts (last_shown shown)) (sym before_is)
      (shown_stands (settled_parts (land_of scene.game.now) scene.list.now) mark shown shows)

  pub columns_ready : (mark : MarkValue) →
      AllByRecursion (IsReady (land_of scene.game.now)) (new_columns game p mark) →
      AllByRecursion (IsReady part.land.now) (loaded mark part.view)
  columns_ready mark ready = rw (has.land, loaded_are game p mark part.view has.view) ready

  pub frames_are : AreFrames part.land.now part.list.now scene.encoded.now
  frames_are = rw (has.land, has.list) is.frames

  -- ---- what a flush looks at

  -- the columns that stay, and the cells of them that changed
  pub looks_are : (mark : MarkValue) → looks scene.encoded.now part.land.now mark part.view
      + mark_notes.noted_looks part.view p.notes
      ≡ rest_looks scene.encoded.now scene.game.now.settled game mark (Some p)
  looks_are mark = λ i.
      cells * length (unencoded (columns_in scene.encoded.now)
      (loaded_are game p mark part.view has.view i))
      + changes_cost (columns_in scene.encoded.now) (has.land i)
      (filter (is_within mark.view) (around_columns game p part.view has.view i))
      + sum_by looks_at (filter (is_sent (λ (place : Place).
      is_in_view (has.view.middle i) (has.view.d i) place)) p.notes.cells)

  -- ---- what a flush says

  pub due_sent : HasPlayers → (mark : MarkValue) (shown : Option Sight)
      (start middle end : List ℕ) →
      Shows (settled_parts (land_of scene.game.now) scene.list.now) mark shown →
      middle ≡ start ++ play_bytes (if is_shown mark then [] else
      opening_of game.settings.terrain game.settings.players (pos p.eid) (spot_of game p)) →
      end ≡ middle ++ play_bytes
      (delta (last_shown shown) (seen_after (last_shown shown)) ++ noted_part) →
      end ≡ start ++ play_bytes (due game shown p)
  unfolding due
  due_sent players mark shown start middle end shows before behind =
      let first : List Down = if is_shown mark then [] else
      opening_of game.settings.terrain game.settings.players (pos p.eid) (spot_of game p) in
      let last : Sight = last_shown shown in
      let opened : is_shown mark ≡ is_some shown =
      shown_is (settled_parts (land_of scene.game.now) scene.list.now) mark shown shows in
      sent_all start middle end first (delta last (seen_after last) ++ noted_part) before behind
      ∙ ap (λ (ps : List Down). start ++ play_bytes ps)
      (sym (append_assoc first (delta last (seen_after last)) noted_part)
      ∙ (λ i. (if opened i then [] else
      opening_of game.settings.terrain game.settings.players (pos p.eid) (spot_of game p))
      ++ delta last (seen_is players last i) ++ noted_is i))

  pub shows_now : HasPlayers → (mark : MarkValue) (last : Sight) → mark.view ≡ Some part.view →
      StandsFor mark (present_parts part.land.now part.list.now) (seen_after last) →
      Shows (present_parts (land_of scene.game.now) scene.list.now) mark
      (Some (sight_of game p last))
  shows_now players mark last opened stands =
      let parts : present_parts part.land.now part.list.now
      ≡ present_parts (land_of scene.game.now) scene.list.now =
      (λ i. record {
        players = (has.list i).present;
        terrain = (has.land i).terrain;
        edits = (has.land i).edits;
      }) in (
        ap is_some opened,
        subst (λ (q : Sight). StandsFor mark
            (present_parts (land_of scene.game.now) scene.list.now) q) (seen_is players last)
            (subst (λ (ps : Parts). StandsFor mark ps (seen_after last)) parts stands),
      )
