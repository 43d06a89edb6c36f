-- Who leaves a game: the players of connections that are closed. Rules of this project.
use Rattle.std.specs.Prelude.{ℕ, List, if◌then◌else◌}
use Rattle.std.specs.List.{fold}
use Rattle.std.specs.FinMap.{get}
use Rattle.mc_model.specs.declared.stage.Stage.{Stage}
use Rattle.mc_model.specs.Stages.{is_closed}
use Rattle.mc_model.specs.Game.{Game, of_player}
use Rattle.mc_model.specs.Deeds.{go_of}
use Rattle.mc_model.specs.Windows.{shut}

-- the player of a connection leaves, if it has one: its window closes first
unfoldable pub leave : ℕ → Game → Game
leave k g = of_player g (λ p. go_of k p (shut k p g)) (get g.players k)

-- the players of several leave, one after another
abbrev pub leave_all : List ℕ → Game → Game
leave_all ks g = fold (λ (h : Game) (k : ℕ). leave k h) g ks

-- the player of a connection leaves that is closed
abbrev pub left_by : ℕ → Stage → Game → Game
left_by k stage g = if is_closed stage then leave k g else g
