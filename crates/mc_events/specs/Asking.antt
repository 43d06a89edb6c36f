-- What is asked of a world's connections.
use Rattle.std.specs.Prelude.{ℕ, ◌&&◌, nat_lt, not, Bool, false, List, Option, Some, None, length}
use Rattle.std.specs.Prelude.{map, option_map}
use Rattle.std.specs.List.{filter}
use Rattle.std.specs.FinMap.{entries, get, values}
use Rattle.mc_model.specs.declared.stage.Stage.{Stage}
use Rattle.mc_model.specs.Stages.{is_closed}
use Rattle.mc_model.specs.Link.{Link, is_done}
use Rattle.mc_model.specs.World.{World, unread_of}
use Rattle.mc_links.specs.Kept.{ConnectionValue, is_ours, is_pending}

-- whether a connection is closed and owed nothing
abbrev pub is_over : Option Link → Bool
is_over None = false
is_over (Some l) = is_done l

abbrev pub is_done_in : ℕ → World → Bool
is_done_in k w = is_over (get w.links k)

-- how many of those that are there were closed, and not since they left, a write to them broke, or
-- they were done
abbrev pub ours_there : World → ℕ
ours_there w = length (filter (λ (l : Link). is_ours l.cause) (values w.links))

-- the numbers of those that are owed bytes or closed, which rise
abbrev pub pending_in : World → List ℕ
pending_in w =
    map (λ (e : ℕ × Link). e.0) (filter (λ (e : ℕ × Link). is_pending e.1) (entries w.links))

-- the same, of connections as they are kept
abbrev pub pending_of : List (ℕ × ConnectionValue) → List ℕ
pending_of es = map (λ (e : ℕ × ConnectionValue). e.0)
    (filter (λ (e : ℕ × ConnectionValue). is_pending e.1.link) es)

-- how far a connection has come, if it is there
abbrev pub stage_in : ℕ → World → Option Stage
stage_in k w = option_map (λ (l : Link). l.stage) (get w.links k)

-- whether a connection is open, and some bytes of a frame came that is not whole yet
abbrev pub is_open : Option Link → Bool
is_open None = false
is_open (Some l) = not (is_closed l.stage)

abbrev pub is_inside_in : ℕ → World → Bool
is_inside_in k w = is_open (get w.links k) && nat_lt 0 (length (unread_of k w).rest)
