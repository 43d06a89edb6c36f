-- What dropping comes to, by what the code looks at.
use Rattle.std.proofs.Common.{◌≡◌, ℕ, zero, suc, ◌<◌, Bool, true, refl, sym, ap, arith, ◌∙◌}
use Rattle.std.proofs.lemmas.Bool.Decides.{nat_tests}
use Rattle.std.specs.Prelude.{◌-◌, min, nat_lt, Option, Some, None, if◌then◌else◌}
use Rattle.std.specs.FinMap.{get}
use Rattle.mc_fields.specs.declared.position.Spot.{Spot}
use Rattle.mc_slots.specs.declared.pile.Item.{Item}
use Rattle.mc_slots.specs.declared.pile.Pile.{Pile}
use Rattle.mc_slots.specs.declared.pile.Pile.TheVariants.{Empty, Full}
use Rattle.mc_slots.specs.Pile.{IsPile, count_of, part, pile_of, without}
use Rattle.mc_entities.specs.declared.entity.TheConstants.{DROPPED_MAX, EID_MAX}
use Rattle.mc_model.specs.Notes.{again}
use Rattle.mc_model.specs.Things.{in_hand, with_hand}
use Rattle.mc_model.proofs.ThingsKept.{dropped_held}
use Rattle.mc_model.specs.declared.player.Player.{Player}
use Rattle.mc_model.specs.Game.{Game, held_by, of_player, pack_of, room_in}
use Rattle.mc_model.specs.Deeds.{noting, thrown}
use Rattle.mc_model.specs.Digging.{drop_held, dropped}
use Rattle.mc_model.specs.Hands.{carrying}
use Rattle.mc_model.specs.Windows.{feet_of}
use Rattle.mc_play.specs.Kept.{GameValue, by_player, played}

-- ---- the player of a connection

-- where there is one, it does it
pub by_some : (k : ℕ) (f : Player → Game → Game) (g : Game) (p : Player) →
    get g.players k ≡ Some p → by_player k f g ≡ f p g
by_some k f g p is = ap (of_player g (λ (q : Player). f q g)) is

-- ---- parts of piles

-- so many of an item, where they are some
some_of : (item : Item) (m : ℕ) → 0 < m → pile_of item m ≡ Full (record item { count = m })
some_of item zero some = absurd (omega (arith, some))
some_of item (suc m) some = refl

abbrev item_in : Item → Pile → Item
item_in other Empty = other
item_in other (Full item) = item

-- what is so many of an item, and how many they are at least
pub of_item : (item from : Item) (m : ℕ) → Full item ≡ pile_of from m →
    (item ≡ record from { count = m }) × (0 < m)
of_item item from zero is = absurd cc
of_item item from (suc m) is = (ap (item_in item) is, omega arith)

-- ---- dropping

-- as many items may be dropped where a hand has another pile
pub carry_room : (k : ℕ) (pile : Pile) (g : Game) →
    room_in (by_player k (λ (p : Player). carrying p pile) g) ≡ room_in g
carry_room k pile g = go (get g.players k)
  where
    go : (o : Option Player) →
        room_in (of_player g (λ (p : Player). carrying p pile g) o) ≡ room_in g
    go None = refl
    go (Some p) =
        let same = dropped_held p.eid (in_hand (with_hand pile p.hand (pack_of g p)) p.hand)
        g.entities in
        ap (λ (n : ℕ). min (DROPPED_MAX - n) (EID_MAX - g.eids)) same

-- so there is room then, if there was before
pub carried_room : (k : ℕ) (pile : Pile) (w mid : GameValue) (g : Game) →
    mid ≡ played w (by_player k (λ (p : Player). carrying p pile) w.game) w.aside →
    w.game ≡ g → true ≡ nat_lt 0 (room_in g) → 0 < room_in mid.game
carried_room k pile w mid g carried same room =
    let is : room_in mid.game ≡ room_in g =
    ap (λ (v : GameValue). room_in v.game) carried ∙ carry_room k pile w.game ∙ ap room_in same in
    grind (arith, nat_tests, is, room)

-- who has nothing in its hand drops nothing
pub drop_nothing : (k : ℕ) (p : Player) (n : ℕ) (held : Pile) (g : Game) → 0 < n →
    IsPile held → Empty ≡ part held (min n (count_of held)) → g ≡ drop_held k p n held g
drop_nothing k p n Empty g some pile is = refl
drop_nothing k p n (Full item) g some pile is =
    let count = pile.count.0 in
    let more : 0 < min n item.count = omega (arith, some, count) in
    let full = some_of item (min n item.count) more in
    absurd cc

-- and who has something drops it where there is room
pub drop_good : (k : ℕ) (p : Player) (n : ℕ) (held left_ : Pile) (item : Item) (spot : Spot)
    (g : Game) → Full item ≡ part held (min n (count_of held)) →
    left_ ≡ without held (min n (count_of held)) → true ≡ nat_lt 0 (room_in g) →
    spot ≡ feet_of p g → thrown item spot (carrying p left_ g) ≡ drop_held k p n held g
drop_good k p n Empty left_ item spot g is rest room at = absurd cc
drop_good k p n (Full from) left_ item spot g is rest room at =
    let same = (of_item item from (min n from.count) is).0 in
    (λ i. thrown (same i) (at i) (carrying p (rest i) g))
    ∙ ap (λ (b : Bool). if b then dropped p from (min n from.count) g else noting again k g) room

-- all of it, step by step
pub drops : (k : ℕ) (p : Player) (n : ℕ) (left_ : Pile) (item : Item) (spot : Spot)
    (u w mid new : GameValue) → get u.game.players k ≡ Some p → w.game ≡ u.game →
    w.settled ≡ u.settled →
    Full item ≡ part (held_by u.game p) (min n (count_of (held_by u.game p))) →
    left_ ≡ without (held_by u.game p) (min n (count_of (held_by u.game p))) →
    true ≡ nat_lt 0 (room_in u.game) → spot ≡ feet_of p u.game →
    mid ≡ played w (by_player k (λ (q : Player). carrying q left_) w.game) w.aside →
    new ≡ played mid (thrown item spot mid.game) new.aside →
    new ≡ played u
    (by_player k (λ (q : Player) (g : Game). drop_held k q n (held_by g q) g) u.game) new.aside
drops k p n left_ item spot u w mid new plays same settled is rest room at carried thrown_ =
    let game : mid.game ≡ carrying p left_ u.game =
    ap (λ (v : GameValue). v.game) carried
    ∙ ap (by_player k (λ (q : Player). carrying q left_)) same
    ∙ by_some k (λ (q : Player). carrying q left_) u.game p plays in
    let before : mid.settled ≡ u.settled =
    ap (λ (v : GameValue). v.settled) carried ∙ settled in
    thrown_
    ∙ (λ i. record {
      game = thrown item spot (game i);
      settled = before i;
      aside = new.aside;
    })
    ∙ ap (λ (g : Game). played u g new.aside)
    (drop_good k p n (held_by u.game p) left_ item spot u.game is rest room at
    ∙ sym (by_some k (λ (q : Player) (g : Game). drop_held k q n (held_by g q) g) u.game p plays))
