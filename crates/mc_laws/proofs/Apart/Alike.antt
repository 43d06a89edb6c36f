-- The ticks of two worlds in which all connections but one are alike: what they leave of the others
-- and hand them is the same.
use Rattle.std.proofs.Common.{◌≡◌, ◌≢◌, ℕ, ◌++◌, Option, Some, None, refl, sym, ap, ◌∙◌}
use Rattle.std.specs.Prelude.{option_map}
use Rattle.std.specs.List.{filter}
use Rattle.std.specs.FinMap.{get, keys}
use Rattle.mc_model.specs.declared.player.Player.{Player}
use Rattle.mc_model.specs.Run.{to}
use Rattle.mc_model.specs.Stages.{is_closed}
use Rattle.mc_model.specs.Leaving.{leave, leave_all}
use Rattle.mc_model.specs.Link.{Handing, Link}
use Rattle.mc_model.specs.Showing.{last_shown, sight_of}
use Rattle.mc_model.specs.World.{World, each, is_closing}
use Rattle.mc_model.specs.Minds.{plans_left}
use Rattle.mc_model.specs.Tick.{aged, at_tick, beat, beats, flush, grown, shown_all, tick}
use Rattle.mc_model.specs.Tick.{tick_hands, told, told_player}
use Rattle.mc_model.specs.Game.{Game, pack_of}
use Rattle.mc_model.specs.Good.{Good}
use Rattle.mc_laws.proofs.Apart.Leavings.{HasNothing}
use Rattle.mc_laws.proofs.Apart.Swaps.{leave_after}
use Rattle.mc_laws.proofs.TickRules.{tick_rules}
use Rattle.mc_laws.proofs.Walk.Each.{each_last, each_links, told_good, told_players}
use Rattle.mc_laws.proofs.Walk.Ticking.{at_tick_last, at_tick_shown, tick_handed, tick_link}
use Rattle.mc_laws.proofs.Walk.Ticking.{tick_shown}
use Rattle.mc_laws.proofs.Windows.Same.{unmapped}
use Rattle.mc_laws.proofs.Apart.Outs.{handed_by}

-- the same connection is closed by what makes the same of it
pub closing_alike : (f g : ℕ → Link → Handing) (i : ℕ) (o q : Option Link) →
    ((l : Link) → f i l ≡ g i l) → o ≡ q → is_closing f i o ≡ is_closing g i q
closing_alike f g i o q alike same = ap (is_closing f i) same ∙ at_link q
  where
    at_link : (r : Option Link) → is_closing f i r ≡ is_closing g i r
    at_link None = refl
    at_link (Some l) = ap (λ (h : Handing). is_closed h.link.stage) (alike l)

-- what hangs on a cursor hangs there once all were told
told_nothing : (k : ℕ) (g : Game) → HasNothing k g → HasNothing k (told g)
told_nothing k g none p there =
    let was = unmapped told_player (get g.players k) p (sym (told_players g k) ∙ there) in
    ap (λ (q : Player). (pack_of g q).cursor) (sym was.is) ∙ none was.value was.found

-- where beats come to one game, and plans are the same, a tick comes to one game
pub ticks_game : (w v : World) → w.plans ≡ v.plans →
    (beats (aged w)).game ≡ (beats (aged v)).game → (at_tick w).game ≡ (at_tick v).game
unfolding each
ticks_game w v plans games = λ x. tick_rules (plans x) (games x)

-- and leaves the same of plans
pub ticks_plans : (w v : World) → w.plans ≡ v.plans →
    (beats (aged w)).game ≡ (beats (aged v)).game → (at_tick w).plans ≡ (at_tick v).plans
unfolding each
ticks_plans w v plans games = λ x. plans_left (games x) (plans x)

-- Two worlds in which a tick comes to one game and one rest of plans, and all connections but one
-- are the same, were shown the same and are made the same of by the beat.
pub record TicksAlike (k : ℕ) (w v : World) : Type 0 where
  pub game : (at_tick w).game ≡ (at_tick v).game
  pub plans : (at_tick w).plans ≡ (at_tick v).plans
  pub last : w.last ≡ v.last
  pub links : (j : ℕ) → j ≢ k → get w.links j ≡ get v.links j
  pub shown : (j : ℕ) → j ≢ k → get w.shown j ≡ get v.shown j
  pub beats : (j : ℕ) → j ≢ k → (l : Link) →
      beat (grown w.game) (get w.shown j) j l ≡ beat (grown v.game) (get v.shown j) j l

module _ (k : ℕ) (w v : World) (a : TicksAlike k w v) where
  pub tick_same : (j : ℕ) → j ≢ k → get (tick w).world.links j ≡ get (tick v).world.links j
  tick_same j ne = tick_link w j
      ∙ (λ x. option_map (λ (l : Link). (flush (a.game x) (a.shown j ne x) j
      (a.beats j ne l x).link).link) (a.links j ne x))
      ∙ sym (tick_link v j)

  pub hands_same : (j : ℕ) → j ≢ k → to j (tick w).out ≡ to j (tick v).out
  hands_same j ne = tick_handed w j
      ∙ ap (handed_by (λ (i : ℕ) (l : Link). tick_hands w i l) j) (a.links j ne)
      ∙ at_link (get v.links j) ∙ sym (tick_handed v j)
    where
      at_link : (o : Option Link) → handed_by (λ (i : ℕ) (l : Link). tick_hands w i l) j o
          ≡ handed_by (λ (i : ℕ) (l : Link). tick_hands v i l) j o
      at_link None = refl
      at_link (Some l) = λ x. (a.beats j ne l x).handed
          ++ (flush (a.game x) (a.shown j ne x) j (a.beats j ne l x).link).handed

  pub shown_same : (j : ℕ) → j ≢ k →
      get (tick w).world.shown j ≡ get (tick v).world.shown j
  shown_same j ne = tick_shown w j
      ∙ (λ x. option_map (λ (p : Player).
      sight_of (a.game x) p (last_shown (a.shown j ne x))) (get (a.game x).players j))
      ∙ sym (tick_shown v j)

  abbrev flush_w : ℕ → Link → Handing
  flush_w j l = flush (at_tick w).game (get (at_tick w).shown j) j l

  abbrev flush_v : ℕ → Link → Handing
  flush_v j l = flush (at_tick v).game (get (at_tick v).shown j) j l

  pub plans_same : (tick w).world.plans ≡ (tick v).world.plans
  unfolding each
  plans_same = a.plans

  pub last_same : (tick w).world.last ≡ (tick v).world.last
  last_same = each_last flush_w (shown_all (at_tick w)) ∙ at_tick_last w ∙ a.last
      ∙ sym (each_last flush_v (shown_all (at_tick v)) ∙ at_tick_last v)

  shown_then : (j : ℕ) → j ≢ k → get (at_tick w).shown j ≡ get (at_tick v).shown j
  shown_then j ne = ap (λ m. get m j) (at_tick_shown w) ∙ a.shown j ne
      ∙ ap (λ m. get m j) (sym (at_tick_shown v))

  links_then : (j : ℕ) → j ≢ k → get (at_tick w).links j ≡ get (at_tick v).links j
  links_then j ne =
      each_links (λ (i : ℕ) (l : Link). beat (grown w.game) (get w.shown i) i l) (aged w) j
      ∙ (λ x. option_map (λ (l : Link). (a.beats j ne l x).link) (a.links j ne x))
      ∙ sym (each_links (λ (i : ℕ) (l : Link). beat (grown v.game) (get v.shown i) i l) (aged v) j)

  -- once that one left both, the games are the same, where nothing hung on its cursor
  pub left_same : Good (at_tick w).game → HasNothing k (at_tick w).game →
      leave k (tick w).world.game ≡ leave k (tick v).world.game
  unfolding each
  left_same good none =
      leave_after k (λ (i : ℕ). is_closing flush_w i (get (at_tick w).links i))
      (λ (i : ℕ). is_closing flush_v i (get (at_tick v).links i))
      (λ i ne. closing_alike flush_w flush_v i (get (at_tick w).links i) (get (at_tick v).links i)
      (λ l. λ x. flush (a.game x) (shown_then i ne x) i l) (links_then i ne))
      (keys (told (at_tick w).game).players) (told (at_tick w).game)
      (told_good (at_tick w).game good) (told_nothing k (at_tick w).game none)
      ∙ (λ x. leave k (leave_all (filter (λ (i : ℕ).
      is_closing flush_v i (get (at_tick v).links i)) (keys (told (a.game x)).players))
      (told (a.game x))))
