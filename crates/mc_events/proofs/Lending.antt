-- What a client is shown a part of is so of the world that the server stands for, and its pack is
-- there.
use Rattle.std.proofs.Common.{◌≡◌, ℕ, Bool, false, Option, Some, None, is_some, sym, subst, ap, ◌∙◌}
use Rattle.std.specs.Prelude.{IfSome}
use Rattle.std.specs.FinMap.{get}
use Rattle.mc_flush.specs.declared.client_view.ClientView.{ClientView}
use Rattle.mc_land.specs.Land.{LandValue}
use Rattle.mc_flush.specs.Lists.{ListValue}
use Rattle.mc_model.specs.declared.player.Player.{Player}
use Rattle.mc_model.specs.Game.{Game}
use Rattle.mc_model.specs.Good.{in_play}
use Rattle.mc_model.specs.World.{World}
use Rattle.mc_play.specs.Kept.{GameValue}
use Rattle.mc_showing.specs.Scenes.{IsPart, IsPartOf}
use Rattle.mc_showing.specs.Shown.{IsListed}
use Rattle.mc_events.specs.Served.{ServerValue}
use Rattle.mc_events.specs.Stands.{Stands}
use Rattle.mc_events.proofs.Reached.{reached_good}

pub part_of_world : (v : GameValue) (list : ListValue) (g : Game) (p : Player) (part : ClientView) →
    v.game ≡ g → IsListed list g → IsPart v list p part → IsPartOf g p part
part_of_world v list g p part same listed is =
    subst (λ (h : Game). IsListed list h → IsPartOf h p part) same (λ has. record {
      terrain = ap (λ (l : LandValue). l.terrain) is.land;
      edits = ap (λ (l : LandValue). l.edits) is.land;
      chests = ap (λ (l : LandValue). l.chests) is.land;
      entities = is.entities;
      pack = is.pack;
      chest = is.chest;
      listed = ap (λ (l : ListValue). l.present) is.list ∙ has;
      lines = is.lines;
      age = is.age;
      me = is.me;
      view = is.view;
    }) listed

-- who plays is in play, and its pack is there
pub lend_some : (v : ServerValue) (w : World) (k : ℕ) (p : Player) (b : Bool) → Stands v w →
    get v.game.game.players k ≡ Some p → b ≡ is_some (get v.game.game.packs p.name) →
    b ≡ in_play (get w.links k)
lend_some v w k p b s there is =
    let good = reached_good w s.reached in
    let here : get w.game.players k ≡ Some p =
    ap (λ (g : Game). get g.players k) (sym s.game) ∙ there in
    is ∙ ap (λ (g : Game). is_some (get g.packs p.name)) s.game
    ∙ ap is_some (good.game.own k p here).carries ∙ sym (ap is_some here) ∙ good.plays k

-- who does not is not
pub lend_none : (v : ServerValue) (w : World) (k : ℕ) → Stands v w →
    get v.game.game.players k ≡ None → false ≡ in_play (get w.links k)
lend_none v w k s none =
    sym (ap is_some none) ∙ ap (λ (g : Game). is_some (get g.players k)) s.game
    ∙ (reached_good w s.reached).plays k

one_player : (p q : Player) (o : Option Player) → o ≡ Some p → o ≡ Some q → p ≡ q
one_player p q o a b = let same : Some p ≡ Some q = sym a ∙ b in cc

pub lend_part : (v : ServerValue) (w : World) (k : ℕ) (p q : Player) (list : ListValue)
    (o : Option ClientView) → Stands v w → list ≡ v.list →
    get v.game.game.players k ≡ Some p → get w.game.players k ≡ Some q →
    IfSome o (IsPart v.game list p) → IfSome o (IsPartOf w.game q)
lend_part v w k p q list None s same there here is = tt
lend_part v w k p q list (Some part) s same there here is =
    subst (λ (r : Player). IsPartOf w.game r part)
    (one_player p q (get w.game.players k)
    (ap (λ (g : Game). get g.players k) (sym s.game) ∙ there) here)
    (part_of_world v.game list w.game p part s.game
    (ap (λ (l : ListValue). l.present) same ∙ s.listed) is)
