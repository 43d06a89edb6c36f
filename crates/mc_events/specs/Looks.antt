-- How many cells a tick looks at, over all its clients: of each whose connection has a player, all
-- cells of each column that comes into its view, each cell that changed of each column that stays, and
-- each cell that was noted for it. Rules of this project.
use Rattle.std.specs.Prelude.{◌≡◌, ℕ, List, [], Option, Some, None, IfSome}
use Rattle.std.specs.FinMap.{FinMap, get, keys}
use Rattle.std.specs.List.{fold, sum_by}
use Rattle.std.specs.Ordering.{nat_cmp}
use Rattle.mc_land.specs.Places.{key_cmp}
use Rattle.mc_view.specs.declared.view_set.ViewSet.{ViewSet}
use Rattle.mc_flush.specs.Encoding.{EncodedValue}
use Rattle.mc_flush.specs.Seeing.{MarkValue}
use Rattle.mc_model.specs.declared.player.Player.{Player}
use Rattle.mc_model.specs.Game.{Game}
use Rattle.mc_links.specs.Kept.{ConnectionValue}
use Rattle.mc_showing.specs.Ahead.{prepared}
use Rattle.mc_showing.specs.Around.{IsAround}
use Rattle.mc_showing.specs.Looking.{client_looks}
use Rattle.mc_events.specs.Served.{Each}

-- of a connection, if it is there: what its mark and its player, if it has one, come to
abbrev pub of_client : (MarkValue → Option Player → ℕ) → Game → Option ConnectionValue → ℕ
of_client f g None = 0
of_client f g (Some c) = f c.mark (get g.players c.id)

-- over all connections
abbrev pub over_clients : (MarkValue → Option Player → ℕ) → Game →
    FinMap nat_cmp ConnectionValue → ℕ
over_clients f g connections =
    sum_by (λ (k : ℕ). of_client f g (get connections k)) (keys connections)

-- the looks of a tick: of a game, with the edits at the last settling, to clients that were shown what
-- their marks say
abbrev pub tick_looks : FinMap key_cmp ℕ → Game → FinMap nat_cmp ConnectionValue → ℕ
tick_looks settled g connections = over_clients (client_looks settled g) g connections

-- ---- a tick in which nothing changed

-- a client was shown the columns of a set
abbrev pub WasShown : Option ViewSet → (ViewSet → Type 0) → Type 0
WasShown None is = ⊥
WasShown (Some view) is = is view

-- a player stands where its client was shown the columns around it, and no cell was noted for it
pub record IsStill (g : Game) (mark : MarkValue) (p : Player) : Type 0 where
  pub around : WasShown mark.view (IsAround g p)
  pub unnoted : p.notes.cells ≡ []

-- no cell is another than at the last settling, and each client's player stands still
pub record IsIdle (settled : FinMap key_cmp ℕ) (g : Game)
    (connections : FinMap nat_cmp ConnectionValue) : Type 0 where
  pub settles : g.edits ≡ settled
  pub each : (k : ℕ) → IfSome (get connections k)
      (λ c. IfSome (get g.players c.id) (IsStill g c.mark))

-- ---- a round of flushes

-- nothing of a connection is another but its mark and what came of its link
abbrev pub IsMarked : ConnectionValue → ConnectionValue → Type 0
IsMarked old new = new ≡ record old { link = new.link; mark = new.mark }

-- the same connections, of each of which nothing else is another
abbrev pub AreMarked : FinMap nat_cmp ConnectionValue → FinMap nat_cmp ConnectionValue → Type 0
AreMarked old new = Each (λ (k : ℕ). IsMarked) old new

-- the same connections with the same marks
pub record IsShownSame (old new : ConnectionValue) : Type 0 where
  pub id : new.id ≡ old.id
  pub mark : new.mark ≡ old.mark

pub record AreShownSame (old new : FinMap nat_cmp ConnectionValue) : Type 0 where
  pub same : keys new ≡ keys old
  pub each : Each (λ (k : ℕ). IsShownSame) old new

-- what is encoded of columns ahead of the flushes: for one connection after the other
abbrev pub prepared_for : FinMap key_cmp ℕ → Game → Option ConnectionValue → EncodedValue →
    EncodedValue
prepared_for settled g None encoded = encoded
prepared_for settled g (Some c) encoded =
    prepared settled g c.mark (get g.players c.id) encoded

abbrev pub all_prepared : FinMap key_cmp ℕ → Game → FinMap nat_cmp ConnectionValue →
    List ℕ → EncodedValue → EncodedValue
all_prepared settled g connections ids encoded =
    fold (λ (e : EncodedValue) k. prepared_for settled g (get connections k) e) encoded ids
