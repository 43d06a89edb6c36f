-- What a server answers of one connection is so of the world that it stands for.
use Rattle.std.proofs.Common.{◌≡◌, ℕ, Bool, true, false, List, length, Option, Some, None, refl}
use Rattle.std.proofs.Common.{sym, ap, ◌∙◌}
use Rattle.std.specs.Prelude.{◌&&◌, nat_lt, not}
use Rattle.std.specs.FinMap.{get}
use Rattle.mc_flush.specs.Seeing.{Parts}
use Rattle.mc_model.specs.Sight.{Sight}
use Rattle.mc_model.specs.Stages.{is_closed}
use Rattle.mc_model.specs.Link.{Link}
use Rattle.mc_model.specs.World.{Unread, World, unread_of}
use Rattle.mc_links.specs.Kept.{ConnectionValue}
use Rattle.mc_events.specs.Asking.{is_inside_in, is_open}
use Rattle.mc_events.specs.Served.{ServerValue, shown_parts}
use Rattle.mc_events.specs.Stands.{Pair, Stands}

-- the answer of a connection
abbrev pub inside_of : ConnectionValue → Bool
inside_of c = not (is_closed c.link.stage) && nat_lt 0 (length c.splitter.held)

abbrev pub inside_by : Option ConnectionValue → Bool
inside_by None = false
inside_by (Some c) = inside_of c

pair_inside : (parts : Parts) (k : ℕ) (unread : Unread) (shown : Option Sight)
    (o : Option ConnectionValue) (p : Option Link) → Pair parts k unread shown o p →
    inside_by o ≡ (is_open p && nat_lt 0 (length unread.rest))
pair_inside parts k unread shown None None pair = refl
pair_inside parts k unread shown None (Some l) pair = absurd pair
pair_inside parts k unread shown (Some c) None pair = absurd pair
pair_inside parts k unread shown (Some c) (Some l) pair =
    ap (λ (m : Link). not (is_closed m.stage) && nat_lt 0 (length c.splitter.held)) pair.link
    ∙ step (is_closed l.stage) refl
  where
    step : (b : Bool) → is_closed l.stage ≡ b → (not b && nat_lt 0 (length c.splitter.held))
        ≡ (not b && nat_lt 0 (length unread.rest))
    step true t = refl
    step false t = ap (λ (xs : List ℕ). nat_lt 0 (length xs)) (pair.remembers t).holds.held

pub inside_is : {v : ServerValue} {w : World} {o : Option ConnectionValue} (k : ℕ) → Stands v w →
    get v.connections k ≡ o → inside_by o ≡ is_inside_in k w
inside_is {v} {w} k st is = sym (ap inside_by is)
    ∙ pair_inside (shown_parts v) k (unread_of k w) (get w.shown k) (get v.connections k)
    (get w.links k) (st.each k)
