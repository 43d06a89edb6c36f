-- The world after each connection was handed something: who is there, and who is in play.
use Rattle.std.proofs.Common.{◌≡◌, ℕ, Bool, true, false, cond, List, map, Option, Some, None, refl}
use Rattle.std.proofs.Common.{sym, ap, ◌∙◌, inl, inr}
use Rattle.std.specs.Prelude.{◌⊎◌, is_some, option_map, if◌then◌else◌}
use Rattle.std.specs.FinMap.{get}
use Rattle.mc_model.specs.declared.cause.Cause.{Cause}
use Rattle.mc_model.specs.declared.cause.Cause.TheVariants as causes
use Rattle.mc_model.specs.declared.stage.Stage.{Stage}
use Rattle.mc_model.specs.declared.player.Player.{Player}
use Rattle.mc_model.specs.Packets.{Sent, of_play}
use Rattle.mc_model.specs.Sight.{Sight}
use Rattle.mc_model.specs.Talk.{farewell}
use Rattle.mc_model.specs.Stages.{is_closed, is_play}
use Rattle.mc_model.specs.Game.{Game}
use Rattle.mc_model.specs.Link.{Handing, Link, disconnect, hand, mark_closed, quiet}
use Rattle.mc_model.specs.Showing.{due}
use Rattle.mc_model.specs.World.{World, closed_by, each, is_closing}
use Rattle.mc_model.specs.Tick.{awaiting, beat, beat_of, flush, flush_of, is_silent, told}
use Rattle.mc_model.specs.Tick.{told_player}
use Rattle.mc_model.specs.Good.{Good}
use Rattle.mc_model.proofs.Maps.Lookups.{get_keyed}
use Rattle.mc_laws.proofs.EachValue.{AreChanged}
use Rattle.mc_laws.proofs.Deeds.Keeping.{players_whole}
use Rattle.mc_laws.proofs.Deeds.Leaving.{Stays, leave_all_good, leave_all_stays, left_of_all}
use Rattle.mc_laws.proofs.Walk.Handings.{hand_cases, not_in_play}

module _ (f : ℕ → Link → Handing) (w : World) where
  pub each_links : (j : ℕ) → get (each f w).links j
      ≡ option_map (λ (l : Link). (f j l).link) (get w.links j)
  unfolding each
  each_links j = get_keyed (λ (k : ℕ) (l : Link). (f k l).link) w.links j

  pub each_players : (j : ℕ) → get (each f w).game.players j
      ≡ cond (is_closing f j (get w.links j)) None (get w.game.players j)
  unfolding each
  each_players j = left_of_all (λ (k : ℕ). is_closing f k (get w.links k)) w.game j

  pub each_good : Good w.game → Good (each f w).game
  unfolding each
  each_good good = leave_all_good (closed_by f w) w.game good

  pub each_stays : Stays w.game (each f w).game
  unfolding each
  each_stays = leave_all_stays (closed_by f w) w.game

  pub each_unread : (each f w).unread ≡ w.unread
  unfolding each
  each_unread = refl

  pub each_shown : (each f w).shown ≡ w.shown
  unfolding each
  each_shown = refl

  pub each_last : (each f w).last ≡ w.last
  unfolding each
  each_last = refl

-- ---- stages

-- who is handed something is closed, or it is at the stage at which it was
abbrev pub ClosesOrStays : Stage → Handing → Type 0
ClosesOrStays stage h = (is_closed h.link.stage ≡ true) ⊎ (h.link.stage ≡ stage)

pub hand_stage : (l : Link) (packets : List Sent) → ClosesOrStays l.stage (hand l packets)
hand_stage l packets = hand_cases l packets (λ (h : Handing). ClosesOrStays l.stage h)
    (λ fits. inr refl) (λ much. inl refl)

pub disconnect_closes : (l : Link) (cause : Cause) (packets : List Sent) →
    is_closed (disconnect l cause packets).link.stage ≡ true
disconnect_closes l cause packets = hand_cases (mark_closed l cause) packets
    (λ (h : Handing). is_closed h.link.stage ≡ true) (λ fits. refl) (λ much. refl)

pub beat_stage : (g : Game) (shown : Option Sight) (k : ℕ) (l : Link) →
    ClosesOrStays l.stage (beat g shown k l)
beat_stage g shown k l = step (get g.players k)
  where
    step : (o : Option Player) → ClosesOrStays l.stage (beat_of g shown l o)
    step None = inr refl
    step (Some p) = elim (is_silent g shown l) as (λ b. ClosesOrStays l.stage (if b
        then disconnect l causes.Silent (farewell l.stage causes.Silent)
        else quiet (awaiting g shown l))) [
          | true ↦ inl (disconnect_closes l causes.Silent (farewell l.stage causes.Silent))
          | false ↦ inr refl
        ]

pub flush_stage : (g : Game) (shown : Option Sight) (k : ℕ) (l : Link) →
    ClosesOrStays l.stage (flush g shown k l)
flush_stage g shown k l = step (get g.players k)
  where
    step : (o : Option Player) → ClosesOrStays l.stage (flush_of g shown l o)
    step None = inr refl
    step (Some p) = hand_stage l (map of_play (due g shown p))

-- in play are just those that were and are not closed
pub closing_plays : (o : Option Player) (l : Link) (h : Handing) → ClosesOrStays l.stage h →
    is_some o ≡ is_play l.stage →
    is_some (cond (is_closed h.link.stage) None o) ≡ is_play h.link.stage
closing_plays o l h stage plays = step (is_closed h.link.stage) refl stage
  where
    step : (b : Bool) → is_closed h.link.stage ≡ b → ClosesOrStays l.stage h →
        is_some (cond b None o) ≡ is_play h.link.stage
    step true t stage = sym (not_in_play h.link.stage t)
    step false t (inl closed) = (let clash : false ≡ true = sym t ∙ closed in absurd cc)
    step false t (inr same) = plays ∙ ap is_play (sym same)

-- ---- those that were told

pub told_players : (g : Game) →
    AreChanged (λ (k : ℕ) (p : Player). told_player p) g.players (told g).players
told_players g j = get_keyed (λ (k : ℕ) (p : Player). told_player p) g.players j

pub told_good : (g : Game) → Good g → Good (told g)
told_good g = players_whole g.players (told g).players (λ (k : ℕ) (p : Player). told_player p)
    (told_players g) (λ k p. record { eid = refl; uuid = refl; name = refl; hand = refl })
    g.entities g.eids g.packs
