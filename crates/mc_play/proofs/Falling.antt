-- Items fall, one after another.
use Rattle.std.proofs.Common.{◌≡◌, ◌≤◌, ◌+◌, ℕ, suc, List, ◌∷◌, length, subst, ap, arith}
use Rattle.mc_fields.specs.declared.position.Spot.{Spot}
use Rattle.mc_slots.specs.declared.pile.Item.{Item}
use Rattle.mc_entities.specs.Folk.{HasRoom}
use Rattle.mc_model.specs.Deeds.{thrown}
use Rattle.mc_model.specs.Digging.{all_thrown}
use Rattle.mc_model.specs.Game.{Game}
use Rattle.mc_play.specs.Kept.{GameValue, folk_of, played}
use Rattle.mc_play.proofs.Stowing.{done_next}

-- once the items that are left fell all did, and they have room; each takes one place at most
pub record IsFalling (all left_ : List Item) (spot : Spot) (start v : GameValue) : Type 0 where
  pub game : played v (all_thrown left_ spot v.game) v.aside
      ≡ played start (all_thrown all spot start.game) v.aside
  pub room : HasRoom (length left_) (folk_of v)
  pub places : start.aside.reserve + length left_ ≤ v.aside.reserve + length all

-- the next one fell
pub falls_next : (all left_ rest : List Item) (item : Item) (spot : Spot)
    (start v n : GameValue) → left_ ≡ item ∷ rest → IsFalling all left_ spot start v →
    n ≡ played v (thrown item spot v.game) n.aside →
    ((k : ℕ) → HasRoom (suc k) (folk_of v) → HasRoom k (folk_of n)) →
    v.aside.reserve ≤ n.aside.reserve + 1 → IsFalling all rest spot start n
falls_next all left_ rest item spot start v n next falling fell less one = record {
  game = done_next (λ (h : Game) (x : Item). thrown x spot h) all left_ rest item start v n next
      falling.game fell;
  room = less (length rest)
      (subst (λ (items : List Item). HasRoom (length items) (folk_of v)) next falling.room);
  places =
      let more = ap (λ (items : List Item). length items) next in
      omega (arith, more, falling.places, one);
}
