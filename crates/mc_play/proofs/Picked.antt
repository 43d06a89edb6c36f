-- Where nothing lies, nobody picks anything up.
use Rattle.std.proofs.Common.{◌≡◌, ℕ, Bool, false, List, [], ◌∷◌, Option, Some, None, refl, ap}
use Rattle.std.proofs.Common.{◌∙◌, arith}
use Rattle.std.proofs.lemmas.Bool.Decides.{nat_tests}
use Rattle.std.specs.List.{filter_map, fold, list_any}
use Rattle.std.specs.FinMap.{get}
use lib.IntN.{ℤ}
use Rattle.mc_fields.specs.declared.position.Spot.{Spot}
use Rattle.mc_slots.specs.declared.pile.Item.{Item}
use Rattle.mc_entities.specs.declared.entity.Entity.{Entity}
use Rattle.mc_entities.specs.declared.entity.EntityKind.{EntityKind}
use Rattle.mc_entities.specs.declared.entity.EntityKind.TheVariants.{Player, Dropped, Mob}
use Rattle.mc_entities.specs.Kinds.{is_dropped}
use Rattle.mc_model.specs.declared.player.Player as declared
use Rattle.mc_model.specs.Game.{Game, of_player, spot_of}
use Rattle.mc_model.specs.Pickups.{pick_up, pickers, pickups, ripe, ripe_for, stowed}
use Rattle.mc_play.specs.Picking.{all_picked, picked_by, ripe_at}

-- some of these are items
abbrev pub lie_some : List Entity → Bool
lie_some es = list_any (λ (e : Entity). is_dropped e.kind) es

-- what is no item can't be picked up
none_ripe : (age : ℕ) (spot : Spot) (e : Entity) (kind : EntityKind) → is_dropped kind ≡ false →
    ripe age spot e kind ≡ None
none_ripe age spot e (Player uuid held) other = refl
none_ripe age spot e (Dropped item born) other = absurd cc
none_ripe age spot e Mob other = refl

none_found : (age : ℕ) (spot : Spot) (es : List Entity) → lie_some es ≡ false →
    filter_map (ripe_at age spot) es ≡ []
none_found age spot [] none = refl
none_found age spot (e ∷ es) none =
    grind (arith, nat_tests, none_ripe age spot e e.kind, none_found age spot es)

module _ (g : Game) (none : lie_some g.entities ≡ false) where
  none_picked : (p : declared.Player) → pick_up p g ≡ g
  none_picked p = ap (λ (found : List (ℤ × Item)).
      fold (λ (h : Game) (e : ℤ × Item). stowed p e h) g found)
      (none_found g.age (spot_of g p) g.entities none)

  none_by : (o : Option declared.Player) → of_player g (λ p. pick_up p g) o ≡ g
  none_by None = refl
  none_by (Some p) = none_picked p

  none_by_all : (ks : List ℕ) → all_picked ks g ≡ g
  none_by_all [] = refl
  none_by_all (k ∷ ks) = ap (λ (h : Game). fold picked_by h ks) (none_by (get g.players k))
      ∙ none_by_all ks

  -- the game is as before
  pub nothing_picked : pickups g ≡ g
  unfolding pickups
  nothing_picked = none_by_all (pickers g)
