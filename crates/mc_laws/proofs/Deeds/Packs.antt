-- A pack of which what is in the hand is another pile is one of what the world holds.
use Rattle.std.proofs.Common.{◌≡◌, ℕ, ◌+◌, ◌<◌, List, refl, ◌∙◌, ap, arith, length, subst, Option}
use Rattle.std.proofs.Common.{Some, None}
use Rattle.std.specs.Prelude.{unwrap_or}
use Rattle.std.proofs.lemmas.List.{length-set}
use Rattle.std.specs.FinMap.{get}
use Rattle.mc_slots.specs.declared.pile.Item.{Item}
use Rattle.mc_slots.specs.declared.pile.Pile.{Pile}
use Rattle.mc_slots.specs.declared.pile.Pile.TheVariants.{Full}
use Rattle.mc_slots.specs.Pile.{IsItem, IsPile}
use Rattle.mc_windows.specs.Pack.{PackValue, IsPack, kit_pack}
use Rattle.mc_windows.proofs.FirstPack.{kit_is_pack}
use Rattle.mc_windows.proofs.Ranges.{set_piles}
use Rattle.mc_model.specs.declared.player.Player.{Player}
use Rattle.mc_model.specs.Things.{with_hand}
use Rattle.mc_model.specs.Game.{Game, held_by, pack_named, pack_of}
use Rattle.mc_model.specs.Good.{Good}

pub with_hand_is_pack : (pile : Pile) (hand : ℕ) (pack : PackValue) → IsPile pile →
    IsPack pack.slots pack.cursor →
    IsPack (with_hand pile hand pack).slots (with_hand pile hand pack).cursor
with_hand_is_pack pile hand pack is fits = record {
  size = length-set pack.slots (27 + hand) pile ∙ fits.size;
  are_piles = set_piles pack.slots (27 + hand) pile is fits.are_piles;
  is_pile = fits.is_pile;
}

-- what any name carries is a pack
pub named_is_pack : (g : Game) (name : List ℕ) → Good g →
    IsPack (pack_named g name).slots (pack_named g name).cursor
named_is_pack g name w = elim (get g.packs name) as (λ o. get g.packs name ≡ o →
    IsPack (unwrap_or o kit_pack).slots (unwrap_or o kit_pack).cursor) [
      | None ↦ λ none. kit_is_pack
      | Some pack ↦ λ some. w.piles name pack some
    ] refl

-- what a player has in its hand is a pile, and an item where it is something
pub held_is_pile : (g : Game) (p : Player) → Good g → IsPile (held_by g p)
held_is_pile g p w = (named_is_pack g p.name w).are_piles (27 + p.hand)

pub held_is_item : (g : Game) (p : Player) (item : Item) → held_by g p ≡ Full item → Good g →
    IsItem item
held_is_item g p item is w = subst IsPile is (held_is_pile g p w)

-- its hand is on a place of its pack
pub hand_within : (k : ℕ) (p : Player) (g : Game) → get g.players k ≡ Some p → Good g →
    27 + p.hand < length (pack_of g p).slots
hand_within k p g there w =
    let o = w.own k p there in
    let is = ap (λ (x : Option PackValue). unwrap_or x kit_pack) o.carries in
    let size = ap (λ (x : PackValue). length x.slots) is
    ∙ (w.piles p.name o.pack o.carries).size in
    let small = o.hand in
    omega (arith, size, small)
