-- What a client was shown is a sight of an earlier game, which what is to be shown of a later one
-- follows.
use Rattle.std.proofs.Common.{◌≡◌, List, ◌++◌, map, Option, Some, None, sym, subst, ap, ◌∙◌}
use Rattle.std.proofs.lemmas.List.Sums.{fold-append}
use Rattle.mc_packets.specs.declared.down.Down.{Down}
use Rattle.mc_model.specs.declared.player.Player.{Player}
use Rattle.mc_model.specs.declared.settings.Settings.{Settings as Begun}
use Rattle.mc_model.specs.Delta.{Follows, IsTold}
use Rattle.mc_model.specs.Packets.{Sent, of_play, played}
use Rattle.mc_model.specs.Replica.{Replica, apply, new_replica, replay, seeing}
use Rattle.mc_model.specs.Sight.{Sight}
use Rattle.mc_model.specs.Game.{Game}
use Rattle.mc_model.specs.Showing.{due, last_shown, sight_of}
use Rattle.mc_model.specs.Fitting.{Told}
use Rattle.mc_laws.proofs.Fits.Sights.{LaterThan, kinds_of, nothing_follows, sight_follows}
use Rattle.mc_laws.proofs.Fits.Leading.{due_leads}
use Rattle.mc_laws.proofs.Shown.Later.{Later}
use Rattle.mc_laws.proofs.Shown.Links.{played_all, played_joined}

-- ---- what was shown

-- a sight that was of an earlier game of one land
pub record Drawn (now : Game) (seen : Sight) : Type 0 where
  pub game : Game
  pub player : Player
  pub last : Sight
  pub old : IsTold (sight_of game player last)
  pub told : Told game
  pub settings : game.settings ≡ now.settings
  pub later : LaterThan game told now
  pub is : seen ≡ sight_of game player last

abbrev pub IsDrawn : Game → Option Sight → Type 0
IsDrawn now None = Unit {0}
IsDrawn now (Some seen) = Drawn now seen

-- it is so of later ones
pub drawn_later : (now later : Game) (shown : Option Sight) → Later now later → IsDrawn now shown →
    IsDrawn later shown
drawn_later now later None a d = tt
drawn_later now later (Some seen) a d = record {
  game = d.game;
  player = d.player;
  last = d.last;
  old = d.old;
  told = d.told;
  settings = d.settings ∙ sym a.settings;
  later = a.since (kinds_of d.game d.told) d.later;
  is = d.is;
}

-- what is to be shown of a later game follows it
drawn_follows : (g : Game) (p : Player) (shown : Option Sight) →
    IsTold (sight_of g p (last_shown shown)) → IsDrawn g shown →
    Follows (last_shown shown) (sight_of g p (last_shown shown))
drawn_follows g p None new d = nothing_follows g p new
drawn_follows g p (Some seen) new d =
    subst (λ (q : Sight). IsTold (sight_of g p q) → Follows q (sight_of g p q)) (sym d.is)
    (λ new. sight_follows d.game g d.player p d.last d.told d.old new
    (ap (λ (s : Begun). s.terrain) d.settings) d.later) new

-- packets before, and those that are due, show what is to be shown
pub due_shows : (g : Game) (p : Player) (shown : Option Sight) (ps : List Sent) →
    IsTold (sight_of g p (last_shown shown)) → IsDrawn g shown →
    replay new_replica (played ps) ≡ seeing (last_shown shown) →
    replay new_replica (played (ps ++ map of_play (due g shown p)))
    ≡ seeing (sight_of g p (last_shown shown))
due_shows g p shown ps new drawn before =
    ap (replay new_replica) (played_joined ps (map of_play (due g shown p))
    ∙ ap (λ (ds : List Down). played ps ++ ds) (played_all (due g shown p)))
    ∙ fold-append apply new_replica (played ps) (due g shown p)
    ∙ ap (λ (r : Replica). replay r (due g shown p)) before
    ∙ due_leads g shown p (drawn_follows g p shown new drawn)
