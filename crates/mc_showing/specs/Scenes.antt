-- What is asked of all that a tick shows, and what one client is shown a part of.
use Rattle.std.specs.Prelude.{◌≡◌, ◌≤◌, drop}
use Rattle.std.specs.List.{AllByRecursion}
use Rattle.std.specs.Option.{option_copied}
use Rattle.std.specs.FinMap.{entries, len}
use lib.IntN.{pos}
use Rattle.mc_model.specs.declared.player.Player.{Player}
use Rattle.mc_model.specs.Game.{Game, chest_of, pack_of}
use Rattle.mc_play.specs.Kept.{GameValue, land_of}
use Rattle.mc_flush.specs.declared.client_view.ClientView.{ClientView}
use Rattle.mc_flush.specs.Encoding.{AreFrames}
use Rattle.mc_flush.specs.Lists.{ListValue}
use Rattle.mc_flush.specs.Seeing.{IsNamed}
use Rattle.mc_showing.specs.declared.scene.Scene.{Scene}
use Rattle.mc_showing.specs.Around.{IsAround}
use Rattle.mc_showing.specs.Shown.{IsListed}

-- the list can be sent, what was encoded are frames of the game, and ages can be told
pub record IsScene (scene : Scene) : Type 0 where
  pub few : len scene.list.now.present ≤ 50
  pub few_before : len scene.list.now.last ≤ 50
  pub named : AllByRecursion IsNamed (entries scene.list.now.present)
  pub frames : AreFrames (land_of scene.game.now) scene.list.now scene.encoded.now
  pub young : scene.game.now.game.age ≤ 1000000000

-- the view of a client has the parts of a game and of a list that a player is shown
pub record IsPart (v : GameValue) (roster : ListValue) (p : Player) (part : ClientView) : Type 0 where
  pub land : part.land.now ≡ land_of v
  pub entities : part.folk.now.state.entities ≡ v.game.entities
  pub pack : part.pack.now ≡ pack_of v.game p
  pub chest : option_copied part.chest ≡ chest_of v.game p
  pub list : part.list.now ≡ roster
  pub lines : part.lines.now ≡ drop p.since v.game.lines
  pub age : part.age ≡ v.game.age
  pub me : part.me ≡ pos p.eid
  pub view : IsAround v.game p part.view

-- likewise of the game of a world, in which all of it is
pub record IsPartOf (g : Game) (p : Player) (part : ClientView) : Type 0 where
  pub terrain : part.land.now.terrain ≡ g.settings.terrain
  pub edits : part.land.now.edits ≡ g.edits
  pub chests : part.land.now.chests ≡ g.chests
  pub entities : part.folk.now.state.entities ≡ g.entities
  pub pack : part.pack.now ≡ pack_of g p
  pub chest : option_copied part.chest ≡ chest_of g p
  pub listed : IsListed part.list.now g
  pub lines : part.lines.now ≡ drop p.since g.lines
  pub age : part.age ≡ g.age
  pub me : part.me ≡ pos p.eid
  pub view : IsAround g p part.view
