-- What is handed out to a client that is shown a game.
use Rattle.std.proofs.Common.{◌≡◌, List, ℕ, map, sym, subst, ap, ◌∙◌}
use Rattle.std.specs.Prelude.{Option, Some, None, Result, Ok, Err, OnOk}
use Rattle.std.specs.FinMap.{get}
use Rattle.mc_frame.specs.Kept.{joined}
use Rattle.mc_model.specs.Packets.{Sent, bytes_of, of_play}
use Rattle.mc_model.specs.Sight.{Sight}
use Rattle.mc_sending.specs.Sending.{play_bytes}
use Rattle.mc_flush.specs.Seeing.{MarkValue, Parts}
use Rattle.mc_model.specs.declared.player.Player.{Player}
use Rattle.mc_model.specs.Link.{hand}
use Rattle.mc_model.specs.Showing.{due, sight_of}
use Rattle.mc_model.specs.Tick.{flush_of}
use Rattle.mc_play.specs.Kept.{GameValue}
use Rattle.mc_links.specs.Kept.{ConnectionValue}
use Rattle.mc_links.specs.Showing.{IsFlushed, IsShown}
use Rattle.mc_showing.specs.Shown.{Shows}

-- one player alone is found
one_player : (p q : Player) (o : Option Player) → o ≡ Some p → o ≡ Some q → p ≡ q
one_player p q o a b = let same : Some p ≡ Some q = sym a ∙ b in cc

none_some : {A : Type 0} (o : Option A) (p : A) → o ≡ Some p → o ≡ None → ⊥
none_some {A} o p some none = let clash : ◌≡◌ {A = Option A} None (Some p) = sym none ∙ some in cc

-- a connection that has a player, as it was, and with its mark and its link once all pieces were
-- handed out to it
module _ (v : GameValue) (before present : Parts) (old new : ConnectionValue) (mark : MarkValue)
    (p : Player) (pieces : List (List ℕ)) (here : get v.game.players old.id ≡ Some p)
    (sent : (shown : Option Sight) → Shows before old.mark shown →
    joined pieces ≡ play_bytes (due v.game shown p))
    (shows : (last : Sight) → Shows present mark (Some (sight_of v.game p last))) where
  -- handed out as packets that are these bytes
  abbrev Hands : Type 0
  Hands = (packets : List Sent) → joined pieces ≡ bytes_of packets →
      new ≡ record old { link = (hand old.link packets).link; mark = mark }

  hands_shown : Hands → IsShown v before present old new
  hands_shown hands = record {
    waits = λ none. absurd (none_some (get v.game.players old.id) p here none);
    plays = λ q shown there was.
        subst (λ (x : Player). IsFlushed v present x shown old new)
        (one_player p q (get v.game.players old.id) here there)
        (let is = hands (map of_play (due v.game shown p)) (sent shown was) in
        record {
          is = is ∙ (λ i. record old {
            link = (flush_of v.game shown old.link (sym here i)).link;
            mark = ap (λ (d : ConnectionValue). d.mark) (sym is) i;
          });
          shows = λ last. subst (λ (m : MarkValue). Shows present m
              (Some (sight_of v.game p last))) (ap (λ (d : ConnectionValue). d.mark) (sym is))
              (shows last);
        });
  }

  pub shown_by : {E : Type 0} (r : Result Unit E) →
      ((packets : List Sent) → joined pieces ≡ bytes_of packets → OnOk r
      (new ≡ record old { link = (hand old.link packets).link; mark = mark })) →
      OnOk r (IsShown v before present old new)
  shown_by (Ok done) hands = hands_shown hands
  shown_by (Err fault) hands = tt
