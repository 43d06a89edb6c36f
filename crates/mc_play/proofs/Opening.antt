-- The window of a chest opens, step by step.
use Rattle.std.proofs.Common.{◌≡◌, ℕ, Bool, true, false, refl, sym, ap, ◌∙◌}
use Rattle.std.specs.Prelude.{Some, None, is_some, nat_lt, option_map, if◌then◌else◌}
use Rattle.std.specs.Ordering.{nat_cmp}
use Rattle.std.specs.FinMap.{FinMap, get}
use Rattle.mc_fields.specs.declared.position.Cell.{Cell}
use Rattle.mc_slots.specs.declared.pile.Pile.{Pile}
use Rattle.mc_slots.specs.declared.pile.Pile.TheVariants.{Empty, Full}
use Rattle.mc_windows.specs.Pack.{finished_pack}
use Rattle.mc_model.specs.declared.player.Player.{Player}
use Rattle.mc_model.specs.Notes.{again}
use Rattle.mc_model.specs.Deeds.{noting, repack_of, watching}
use Rattle.mc_model.specs.Game.{Game, pack_of, room_in}
use Rattle.mc_model.specs.Windows.{kept_in_hand, let_fall, open_chest, opened, shut}
use Rattle.mc_model.proofs.Maps.Lookups.{changed_same}
use Rattle.mc_play.specs.Kept.{GameValue, by_player, played}
use Rattle.mc_play.proofs.Dropping.{by_some}
use Rattle.mc_play.proofs.Steps.{then_played}

-- what falls changes no player
fallen_players : (p : Player) (pile : Pile) (g : Game) →
    (let_fall p pile g).players ≡ g.players
fallen_players p Empty g = refl
fallen_players p (Full item) g = refl

-- whose window closes is another in what it is shown and what is noted for it alone
shut_player : (k : ℕ) (p : Player) (g : Game) → get g.players k ≡ Some p →
    get (shut k p g).players k ≡ Some (record p {
      chest = None;
      notes = if nat_lt 0 (room_in g) then p.notes else again p.notes;
    })
shut_player k p g plays = closes (nat_lt 0 (room_in g))
  where
    unwatched : Player → Player
    unwatched q = record q { chest = None }

    noted : Player → Player
    noted q = record q { notes = again q.notes }

    closed : Bool → Game
    closed b = if b
        then let_fall p (pack_of g p).cursor (repack_of p (finished_pack (pack_of g p)) g)
        else noting again k (repack_of p (kept_in_hand (pack_of g p)) g)

    closes : (b : Bool) → get (watching None k (closed b)).players k ≡ Some (record p {
      chest = None;
      notes = if b then p.notes else again p.notes;
    })
    closes true = changed_same (closed true).players k unwatched
        ∙ ap (λ (m : FinMap nat_cmp Player). option_map unwatched (get m k))
        (fallen_players p (pack_of g p).cursor (repack_of p (finished_pack (pack_of g p)) g))
        ∙ ap (option_map unwatched) plays
    closes false = changed_same (closed false).players k unwatched
        ∙ ap (option_map unwatched) (changed_same g.players k noted ∙ ap (option_map noted) plays)

-- the window of a chest that is shown closes, and another opens
pub opens : (k : ℕ) (p : Player) (cell : Cell) (u w mid n : GameValue) →
    get u.game.players k ≡ Some p → is_some p.chest ≡ true → w ≡ played u u.game w.aside →
    mid ≡ played w (by_player k (shut k) w.game) mid.aside →
    n ≡ played mid (by_player k (λ (q : Player). opened k q cell) mid.game) n.aside →
    n ≡ played u (by_player k (λ (q : Player). open_chest k q cell) u.game) n.aside
opens k p cell u w mid n plays some same closed made =
    then_played u (by_player k (λ (q : Player). opened k q cell))
    (then_played u (by_player k (shut k)) same closed) made
    ∙ ap (λ (g : Game). played u g n.aside)
    (ap (by_player k (λ (q : Player). opened k q cell)) (by_some k (shut k) u.game p plays)
    ∙ by_some k (λ (q : Player). opened k q cell) (shut k p u.game) _
    (shut_player k p u.game plays)
    ∙ ap (λ (b : Bool). opened k p cell (if b then shut k p u.game else u.game)) (sym some)
    ∙ sym (by_some k (λ (q : Player). open_chest k q cell) u.game p plays))
