-- What players pick up changes entities and packs alone, keeps a game good and such that packets
-- can tell it, and makes and loses no item.
use Rattle.std.proofs.Common.{◌≡◌, ◌≢◌, ℕ, Bool, true, false, List, [], ◌∷◌, Option, Some, None}
use Rattle.std.proofs.Common.{refl, sym, subst, ap, ◌∙◌, arith}
use Rattle.std.specs.Prelude.{◌&&◌, ◌<ℤ◌, nat_le, if◌then◌else◌, ◌+◌}
use Rattle.std.specs.List.{cons_option, filter_map, fold}
use Rattle.std.specs.Ordering.{int_eq}
use Rattle.std.specs.FinMap.{get}
use Rattle.std.proofs.lemmas.Bool.Decides.{Decides-int_eq}
use Rattle.std.proofs.lemmas.Int.{ints}
use Rattle.std.proofs.lemmas.List.Folds.{fold_along}
use lib.IntN.{ℤ, pos, negsuc}
use lib.Signed.{◌≤ℤ◌}
use Rattle.mc_fields.specs.declared.position.Spot.{Spot}
use Rattle.mc_slots.specs.declared.pile.Item.{Item}
use Rattle.mc_slots.specs.declared.pile.Pile.{Pile}
use Rattle.mc_slots.specs.declared.pile.Pile.TheVariants.{Empty, Full}
use Rattle.mc_slots.specs.Pile.{IsItem}
use Rattle.mc_windows.specs.Storing.{stored}
use Rattle.mc_windows.specs.Pack.{PackValue}
use Rattle.mc_windows.proofs.Leftovers.{stored_keeps}
use Rattle.mc_windows.proofs.Ranges.{Holds, stored_holds}
use Rattle.mc_entities.specs.declared.entity.Entity.{Entity}
use Rattle.mc_entities.specs.declared.entity.EntityKind.{EntityKind}
use Rattle.mc_entities.specs.declared.entity.EntityKind.TheVariants as kinds
use Rattle.mc_entities.specs.Kinds.{IsKind}
use Rattle.mc_entities.specs.Numbers.{Rise, numbered}
use Rattle.mc_entities.specs.Folk.{eid_of}
use Rattle.mc_model.specs.declared.pickups.TheConstants.{PICKUP_TICKS}
use Rattle.mc_model.specs.declared.player.Player.{Player}
use Rattle.mc_model.specs.Balance.{sort_of}
use Rattle.mc_model.specs.Things.{holding, in_hand}
use Rattle.mc_model.specs.Game.{Game, of_player, pack_of, spot_of}
use Rattle.mc_model.specs.Deeds.{lessened, repack_of}
use Rattle.mc_model.specs.Pickups.{is_beside, pick_up, pickers, pickups, ripe, ripe_for, stowed}
use Rattle.mc_model.specs.Fitting.{EntityFits, GivenKinds, Told}
use Rattle.mc_model.specs.Good.{Good}
use Rattle.mc_model.proofs.Lasting.{Since}
use Rattle.mc_model.proofs.LastingKept.{holding_steady, since_mapped, steady_at}
use Rattle.mc_model.proofs.Maps.Entities.{same_eid}
use Rattle.mc_laws.proofs.Deeds.Goods.{repack_good}
use Rattle.mc_laws.proofs.Deeds.Leaving.{Leaves, bare, fold_keeps, leaves_so}
use Rattle.mc_laws.proofs.Deeds.Packs.{named_is_pack}
use Rattle.mc_laws.proofs.Fits.Counted.{AreNoMore, changed_counts}
use Rattle.mc_laws.proofs.Fits.Told.{found_fits, holding_told}
use Rattle.mc_laws.proofs.Weighing.Spending.{Weighs, repack_weighs, still_weighs, weighs_even}
use Rattle.mc_laws.proofs.Weighing.Spending.{weighs_on}
use Rattle.mc_laws.proofs.Pickups.Lessened.{Lies, lessened_counts, lessened_good, lessened_since}
use Rattle.mc_laws.proofs.Pickups.Lessened.{lessened_told, lessened_weighs, lies_as, lies_else}
use Rattle.mc_laws.proofs.Pickups.Lessened.{lies_held}

-- ---- what any pickup leaves alone

lessened_bare : (eid : ℤ) (pile : Pile) (g : Game) → bare (lessened eid pile g) ≡ bare g
lessened_bare eid Empty g = refl
lessened_bare eid (Full item) g = refl

stowed_bare : (p : Player) (x : ℤ × Item) (g : Game) → bare (stowed p x g) ≡ bare g
stowed_bare p x g = lessened_bare x.0 (stored (pack_of g p) x.1).floor
    (repack_of p (stored (pack_of g p) x.1).pack g)

-- what each item that is stowed leaves as it was, all pickups do
module _ (R : Game → Game → Type 0) (none : (g : Game) → R g g)
    (on : (g u v : Game) → R g u → R u v → R g v)
    (each : (p : Player) (x : ℤ × Item) (g : Game) → R g (stowed p x g)) where
  pub pickups_keep : (g : Game) → R g (pickups g)
  unfolding pickups
  pickups_keep g = fold_keeps R none on _ (λ h k. one h (get h.players k)) (pickers g) g
    where
      one : (h : Game) (o : Option Player) → R h (of_player h (λ (p : Player). pick_up p h) o)
      one h None = none h
      one h (Some p) = fold_keeps R none on (λ (v : Game) (x : ℤ × Item). stowed p x v)
          (λ v x. each p x v) (ripe_for p h) h

pub pickups_leave : (g : Game) → Leaves g (pickups g)
pickups_leave g = leaves_so g _ (pickups_keep (λ h v. bare v ≡ bare h) (λ h. refl)
    (λ h u v a b. b ∙ a) stowed_bare g)

-- ---- what it keeps of a good game

pub record KeepsGood (g v : Game) : Type 0 where
  pub good : Good v
  pub told : Told v
  -- an entity stays of its kind
  pub since : (old : GivenKinds) → Since old g.eids g.entities → Since old v.eids v.entities
  pub counts : AreNoMore g.entities v.entities
  pub weighs : (id damage : ℕ) → Weighs id damage 0 0 g v

good_still : (g : Game) → Good g → Told g → KeepsGood g g
good_still g good told = record {
  good = good;
  told = told;
  since = λ old since. since;
  counts = omega arith;
  weighs = λ id damage. still_weighs id damage g;
}

pub good_on : (g v u : Game) → KeepsGood g v → KeepsGood v u → KeepsGood g u
good_on g v u a b = record {
  good = b.good;
  told = b.told;
  since = λ old since. b.since old (a.since old since);
  counts = (let m = a.counts in let n = b.counts in omega (arith, m, n));
  weighs = λ id damage. weighs_on id damage 0 0 0 0 g v u (a.weighs id damage)
      (b.weighs id damage);
}

-- an item is stowed: what lies under other numbers lies there still
record Stows (n : ℕ) (g v : Game) : Type 0 where
  picked : KeepsGood g v
  others : (m : ℕ) (item : Item) → m ≢ n → Lies g.entities m item → Lies v.entities m item

-- what lies there is an item that the world holds
lies_item : (g : Game) (n : ℕ) (item : Item) → Lies g.entities n item → Told g → IsItem item
lies_item g n item l t = subst IsKind l.is
    (found_fits EntityFits (pos n) g.entities t.fits l.entity l.there).kind

module _ (k : ℕ) (p : Player) (g : Game) (there : get g.players k ≡ Some p) (n : ℕ) (item : Item)
    (l : Lies g.entities n item) (good : Good g) (told : Told g) where
  abbrev full : PackValue
  full = (stored (pack_of g p) item).pack

  abbrev left : Pile
  left = (stored (pack_of g p) item).floor

  -- the game in which it is carried and lies there still
  abbrev carried : Game
  carried = repack_of p full g

  held : Holds (stored (pack_of g p) item)
  held = stored_holds (pack_of g p) item (named_is_pack g p.name good)
      (lies_item g n item l told)

  good_carried : Good carried
  good_carried = repack_good k p g there good full held.pack

  told_carried : Told carried
  told_carried = holding_told p.eid (in_hand full p.hand) g.edits g.entities g.eids
      (held.pack.are_piles (27 + p.hand)) told

  lies_carried : Lies carried.entities n item
  lies_carried = lies_held p.eid (in_hand full p.hand) g.entities n item l

  steady : (old : GivenKinds) → Since old g.eids g.entities →
      Since old carried.eids carried.entities
  steady old since = since_mapped _ g.entities
      (steady_at p.eid (holding (in_hand full p.hand)) (holding_steady _)) since

  stowed_stows : Stows n g (stowed p (pos n, item) g)
  stowed_stows = record {
    picked = record {
      good = lessened_good n item left carried lies_carried good_carried;
      told = lessened_told n left carried held.floor told_carried;
      since = λ old since. lessened_since n left carried old (steady old since);
      counts = (let first = changed_counts p.eid (holding (in_hand full p.hand))
          (holding_steady _) g.entities in
          let second = lessened_counts n left carried in omega (arith, first, second));
      weighs = λ id damage. weighs_even id damage _ _ g (stowed p (pos n, item) g)
          (let keeps = stored_keeps (sort_of id damage) (pack_of g p) item in
          omega (arith, keeps))
          (weighs_on id damage _ _ _ _ g carried (stowed p (pos n, item) g)
          (repack_weighs id damage k p full g good there)
          (lessened_weighs id damage n item left carried lies_carried good_carried));
    };
    others = λ m other ne lies. lies_else n left carried m other ne
        (lies_held p.eid (in_hand full p.hand) g.entities m other lies);
  }

-- ---- one item after another

-- an item lies under the number that it is to be picked up by
record IsLying (es : List Entity) (x : ℤ × Item) : Type 0 where
  n : ℕ
  number : x.0 ≡ pos n
  lies : Lies es n x.1

-- so do all of these, in rising number
abbrev AreLying : List Entity → ℤ → List (ℤ × Item) → Type 0
AreLying es low [] = Unit {0}
AreLying es low (x ∷ xs) = (low <ℤ x.0) × (IsLying es x × AreLying es x.0 xs)

-- where what lies under higher numbers lies there still
still_lying : (es fs : List Entity) (low : ℤ) (xs : List (ℤ × Item)) →
    ((m : ℕ) (item : Item) → low <ℤ pos m → Lies es m item → Lies fs m item) →
    AreLying es low xs → AreLying fs low xs
still_lying es fs low [] higher a = tt
still_lying es fs low (x ∷ xs) higher a =
    let above = a.0 in
    let at = a.1.0 in
    let is = at.number in (
      above,
      (
        record {
          n = at.n;
          number = is;
          lies = higher at.n x.1 (omega (arith, ints, above, is)) at.lies;
        },
        still_lying es fs x.0 xs
            (λ m item more. higher m item (omega (arith, ints, above, more))) a.1.1,
      ),
    )

module _ (k : ℕ) (p : Player) where
  stows_lying : (g : Game) (x : ℤ × Item) (at : IsLying g.entities x) →
      get g.players k ≡ Some p → Good g → Told g → Stows at.n g (stowed p x g)
  stows_lying g x at there good told =
      subst (λ (eid : ℤ). Stows at.n g (stowed p (eid, x.1) g)) (sym at.number)
      (stowed_stows k p g there at.n x.1 at.lies good told)

  all_stowed : (xs : List (ℤ × Item)) (low : ℤ) (g : Game) → get g.players k ≡ Some p →
      AreLying g.entities low xs → Good g → Told g →
      KeepsGood g (fold (λ (h : Game) (x : ℤ × Item). stowed p x h) g xs)
  all_stowed [] low g there a good told = good_still g good told
  all_stowed (x ∷ xs) low g there a good told =
      let at = a.1.0 in
      let is = at.number in
      let first = stows_lying g x at there good told in
      let left = still_lying g.entities (stowed p x g).entities x.0 xs (λ m item more.
      first.others m item (λ same. absurd (omega (arith, ints, is, more, same)))) a.1.1 in
      good_on g (stowed p x g) _ first.picked
      (all_stowed xs x.0 (stowed p x g)
      (ap (λ (v : Game). get v.players k) (stowed_bare p x g) ∙ there)
      left first.picked.good first.picked.told)

-- ---- what is ripe lies there

-- a number above none is a natural one
record IsGiven (eid : ℤ) : Type 0 where
  n : ℕ
  is : eid ≡ pos n

given : (eid : ℤ) → pos 0 <ℤ eid → IsGiven eid
given (pos n) above = record { n = n; is = refl }
given (negsuc n) above = absurd (omega (arith, ints, above))

-- what is ripe is an item under its number
record IsRipe (e : Entity) (kind : EntityKind) (x : ℤ × Item) : Type 0 where
  born : ℕ
  kind_is : kind ≡ kinds.Dropped x.1 born
  number : e.eid ≡ x.0

ripe_is : (age : ℕ) (spot : Spot) (e : Entity) (kind : EntityKind) (x : ℤ × Item) →
    ripe age spot e kind ≡ Some x → IsRipe e kind x
ripe_is age spot e (kinds.Player uuid held) x is = absurd cc
ripe_is age spot e (kinds.Dropped item born) x is =
    by_test (nat_le (born + PICKUP_TICKS) age && is_beside spot e.spot) is
  where
    by_test : (b : Bool) → (if b then Some (e.eid, item) else None) ≡ Some x →
        IsRipe e (kinds.Dropped item born) x
    by_test true same = (let found : (e.eid, item) ≡ x = cc in record {
      born = born;
      kind_is = ap (λ (y : ℤ × Item). kinds.Dropped y.1 born) found;
      number = ap (λ (y : ℤ × Item). y.0) found;
    })
    by_test false same = absurd cc
ripe_is age spot e kinds.Mob x is = absurd cc

-- what lies behind one of a lower number lies there
lies_behind : (e : Entity) (es : List Entity) (m : ℕ) (item : Item) → e.eid <ℤ pos m →
    Lies es m item → Lies (e ∷ es) m item
lies_behind e es m item below = lies_as es (e ∷ es) m item (past (int_eq e.eid (pos m)) refl)
  where
    past : (b : Bool) → int_eq e.eid (pos m) ≡ b →
        (if b then Some e else numbered eid_of (pos m) es) ≡ numbered eid_of (pos m) es
    past true t = (let same = (Decides-int_eq e.eid (pos m)).0 t in
        absurd (omega (arith, ints, below, same)))
    past false t = refl

-- above a lower number, too
lying_lower : (es : List Entity) (less low : ℤ) (xs : List (ℤ × Item)) → less ≤ℤ low →
    AreLying es low xs → AreLying es less xs
lying_lower es less low [] le a = tt
lying_lower es less low (x ∷ xs) le a = (let above = a.0 in
    (omega (arith, ints, le, above), a.1))

ripe_lie : (age : ℕ) (spot : Spot) (low high : ℤ) (es : List Entity) → pos 0 ≤ℤ low →
    Rise eid_of low es high →
    AreLying es low (filter_map (λ (e : Entity). ripe age spot e e.kind) es)
ripe_lie age spot low high [] none r = tt
ripe_lie age spot low high (e ∷ es) none r =
    by_one (ripe age spot e e.kind) refl (still_lying es (e ∷ es) e.eid _ (lies_behind e es)
    (ripe_lie age spot e.eid high es (let first = r.0 in omega (arith, ints, none, first)) r.1))
  where
    first_lies : (x : ℤ × Item) → IsRipe e e.kind x → IsLying (e ∷ es) x
    first_lies x is = (let first = r.0 in
        let at = given e.eid (omega (arith, ints, none, first)) in
        record {
          n = at.n;
          number = sym is.number ∙ at.is;
          lies = record {
            entity = e;
            born = is.born;
            there = ap (λ (b : Bool). if b then Some e else numbered eid_of (pos at.n) es)
                (ap (λ (eid : ℤ). int_eq eid (pos at.n)) at.is ∙ same_eid at.n);
            is = is.kind_is;
          };
        })

    by_one : (o : Option (ℤ × Item)) → ripe age spot e e.kind ≡ o →
        AreLying (e ∷ es) e.eid (filter_map (λ (y : Entity). ripe age spot y y.kind) es) →
        AreLying (e ∷ es) low
        (cons_option o (filter_map (λ (y : Entity). ripe age spot y y.kind) es))
    by_one None is rest =
        (let first = r.0 in lying_lower (e ∷ es) low e.eid _ (omega (arith, ints, first)) rest)
    by_one (Some x) is rest =
        let found = ripe_is age spot e e.kind x is in
        let first = r.0 in
        let number = found.number in (
          omega (arith, ints, first, number),
          (
            first_lies x found,
            subst (λ (eid : ℤ). AreLying (e ∷ es) eid
                (filter_map (λ (y : Entity). ripe age spot y y.kind) es)) number rest,
          ),
        )

-- ---- all players

pub pickups_good : (g : Game) → Good g → Told g → KeepsGood g (pickups g)
unfolding pickups
pickups_good g good told = fold_along
    (λ (h : Game) (k : ℕ). of_player h (λ (p : Player). pick_up p h) (get h.players k))
    (λ (u : Unit {0}) (k : ℕ). u) (λ (h : Game) u. KeepsGood g h)
    (λ h u k a. good_on g h _ a (one h (get h.players k) k refl a.good a.told)) g tt (pickers g)
    (good_still g good told)
  where
    one : (h : Game) (o : Option Player) (k : ℕ) → get h.players k ≡ o → Good h → Told h →
        KeepsGood h (of_player h (λ (p : Player). pick_up p h) o)
    one h None k is good told = good_still h good told
    one h (Some p) k is good told = all_stowed k p (ripe_for p h) (pos 0) h is
        (ripe_lie h.age (spot_of h p) (pos 0) (pos h.eids) h.entities (omega (arith, ints))
        good.rise) good told
