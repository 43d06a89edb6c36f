-- A game stays good where another item lies under a number, or none any more, and weighs as much
-- less as lay there, and as much more as lies there now.
use Rattle.std.proofs.Common.{◌≡◌, ◌≢◌, ℕ, true, false, List, Some}
use Rattle.std.proofs.Common.{refl, sym, ap, ◌∙◌, inl, inr, arith}
use Rattle.std.specs.Prelude.{option_map}
use Rattle.std.proofs.lemmas.Bool.{cases_eq}
use Rattle.std.specs.Ordering.{nat_cmp}
use Rattle.std.specs.FinMap.{FinMap, get}
use lib.IntN.{pos}
use Rattle.mc_slots.specs.declared.pile.Item.{Item}
use Rattle.mc_slots.specs.declared.pile.Pile.{Pile}
use Rattle.mc_slots.specs.declared.pile.Pile.TheVariants.{Empty, Full}
use Rattle.mc_slots.specs.Pile.{IsPile, held}
use Rattle.mc_windows.specs.Pack.{PackValue}
use Rattle.mc_entities.specs.declared.entity.Entity.{Entity}
use Rattle.mc_entities.specs.declared.entity.EntityKind.{EntityKind}
use Rattle.mc_entities.specs.declared.entity.EntityKind.TheVariants as kinds
use Rattle.mc_entities.specs.Numbers.{Rise, changed, numbered}
use Rattle.mc_entities.specs.Folk.{eid_of}
use Rattle.mc_model.specs.declared.player.Player.{Player}
use Rattle.mc_model.specs.Balance.{lying, sort_of}
use Rattle.mc_model.specs.Things.{holding, kind_of_item, lying_as}
use Rattle.mc_model.specs.Maps.{name_cmp}
use Rattle.mc_model.specs.Game.{Game}
use Rattle.mc_model.specs.Deeds.{lessened}
use Rattle.mc_model.specs.Fitting.{GivenKinds, Told}
use Rattle.mc_model.specs.Good.{Good, IsOwn, IsPlayed, IsWhole, body_of, is_body}
use Rattle.mc_model.proofs.Lasting.{Since}
use Rattle.mc_model.proofs.LastingKept.{lying_steady, since_filtered, since_mapped, steady_at}
use Rattle.mc_model.proofs.Maps.Entities.{KeepsEid, changed_eid, changed_no_eid, changed_rise}
use Rattle.mc_model.proofs.Maps.Entities.{without_eid, without_no_eid, without_rise}
use Rattle.mc_model.proofs.Maps.Options.{none_some, not_both, some_is}
use Rattle.mc_laws.proofs.Deeds.Goods.{holds}
use Rattle.mc_laws.proofs.Fits.Counted.{AreNoMore, changed_counts, without_counts}
use Rattle.mc_laws.proofs.Fits.Told.{lying_told, without_told}
use Rattle.mc_laws.proofs.Weighing.Spending.{Weighs}
use Rattle.mc_laws.proofs.Weighing.Stock.{changed_lies, gone_lies}

-- an item lies under a number
pub record Lies (es : List Entity) (n : ℕ) (item : Item) : Type 0 where
  pub entity : Entity
  pub born : ℕ
  pub there : numbered eid_of (pos n) es ≡ Some entity
  pub is : entity.kind ≡ kinds.Dropped item born

-- it keeps its number
lies_on : (item : Item) → KeepsEid (lying_as item)
lies_on item = record { is = λ e. refl }

-- and becomes no player
item_body : (item : Item) (kind : EntityKind) → is_body (kind_of_item item kind) ≡ is_body kind
item_body item (kinds.Player uuid held) = refl
item_body item (kinds.Dropped old born) = refl
item_body item kinds.Mob = refl

-- ---- what else lies there

-- where the same is found under its number
pub lies_as : (es fs : List Entity) (n : ℕ) (item : Item) →
    numbered eid_of (pos n) fs ≡ numbered eid_of (pos n) es → Lies es n item → Lies fs n item
lies_as es fs n item same l =
    record { entity = l.entity; born = l.born; there = same ∙ l.there; is = l.is }

-- where any one holds another pile
pub lies_held : (m : ℕ) (pile : Pile) (es : List Entity) (n : ℕ) (item : Item) → Lies es n item →
    Lies (changed eid_of (pos m) (holding pile) es) n item
lies_held m pile es n item l = elim (cases_eq n m) [
  | inl same ↦ record {
    entity = holding pile l.entity;
    born = l.born;
    there = ap (λ (i : ℕ). numbered eid_of (pos n) (changed eid_of (pos i) (holding pile) es))
        (sym same) ∙ changed_eid n (holding pile) es (holds pile)
        ∙ ap (option_map (holding pile)) l.there;
    is = ap (λ (kind : EntityKind). (holding pile (record l.entity { kind = kind })).kind) l.is;
  }
  | inr ne ↦ lies_as es _ n item (changed_no_eid n m (holding pile) es (holds pile) ne) l
]

pub lies_else : (m : ℕ) (pile : Pile) (g : Game) (n : ℕ) (item : Item) → n ≢ m →
    Lies g.entities n item → Lies (lessened (pos m) pile g).entities n item
lies_else m Empty g n item ne = lies_as g.entities _ n item (without_no_eid n m g.entities ne)
lies_else m (Full other) g n item ne = lies_as g.entities _ n item
    (changed_no_eid n m (lying_as other) g.entities (lies_on other) ne)

-- ---- it stays good

-- what is under a number is no player, and all others are as they were
record OthersLast (n : ℕ) (es fs : List Entity) : Type 0 where
  others : (m : ℕ) → m ≢ n → numbered eid_of (pos m) fs ≡ numbered eid_of (pos m) es
  lies : (e : Entity) → numbered eid_of (pos n) fs ≡ Some e → is_body e.kind ≡ false

module _ (n : ℕ) (item : Item) (players : FinMap nat_cmp Player) (es fs : List Entity) (eids : ℕ)
    (packs : FinMap name_cmp PackValue) (l : Lies es n item) (o : OthersLast n es fs)
    (r : Rise eid_of (pos 0) fs (pos eids)) (w : IsWhole players es eids packs) where
  no_body : (x : Entity) → numbered eid_of (pos n) es ≡ Some x → is_body x.kind ≡ false
  no_body x found = ap (λ (y : Entity). is_body y.kind)
      (some_is x l.entity (sym found ∙ l.there)) ∙ ap is_body l.is

  own_each : (k : ℕ) (p : Player) → get players k ≡ Some p → IsOwn fs eids packs p
  own_each k p is = let own = w.own k p is in record {
    hand = own.hand;
    given = own.given;
    uuid = own.uuid;
    pack = own.pack;
    carries = own.carries;
    spot = own.spot;
    body = o.others p.eid (λ same. not_both true refl (no_body (body_of p own.pack own.spot)
        (ap (λ (m : ℕ). numbered eid_of (pos m) es) (sym same) ∙ own.body))) ∙ own.body;
  }

  bodies_each : (m : ℕ) (e : Entity) → numbered eid_of (pos m) fs ≡ Some e →
      is_body e.kind ≡ true → IsPlayed players m
  bodies_each m e found is = elim (cases_eq m n) [
    | inl same ↦ absurd (not_both (is_body e.kind) is (o.lies e
        (ap (λ (i : ℕ). numbered eid_of (pos i) fs) (sym same) ∙ found)))
    | inr ne ↦ w.bodies m e (sym (o.others m ne) ∙ found) is
  ]

  others_whole : IsWhole players fs eids packs
  others_whole = record {
    own = own_each;
    apart = w.apart;
    piles = w.piles;
    fresh = λ m above. o.others m (λ same. none_some _ l.entity (w.fresh m above)
        (ap (λ (i : ℕ). numbered eid_of (pos i) es) same ∙ l.there)) ∙ w.fresh m above;
    rise = r;
    bodies = bodies_each;
  }

pub lessened_good : (n : ℕ) (item : Item) (pile : Pile) (g : Game) → Lies g.entities n item →
    Good g → Good (lessened (pos n) pile g)
lessened_good n item Empty g l w = others_whole n item g.players g.entities _ g.eids g.packs l
    (record {
      others = λ m ne. without_no_eid m n g.entities ne;
      lies = λ e found. absurd (none_some _ e (without_eid n g.entities) found);
    }) (without_rise (pos n) (pos 0) (pos g.eids) g.entities w.rise) w
lessened_good n item (Full other) g l w =
    others_whole n item g.players g.entities _ g.eids g.packs l (record {
      others = λ m ne. changed_no_eid m n (lying_as other) g.entities (lies_on other) ne;
      lies = λ e found. ap (λ (y : Entity). is_body y.kind) (some_is e (lying_as other l.entity)
          (sym found ∙ changed_eid n (lying_as other) g.entities (lies_on other)
          ∙ ap (option_map (lying_as other)) l.there))
          ∙ item_body other l.entity.kind ∙ ap is_body l.is;
    }) (changed_rise n (lying_as other) (pos 0) (pos g.eids) g.entities (lies_on other) w.rise) w

-- ---- all else

pub lessened_told : (n : ℕ) (pile : Pile) (g : Game) → IsPile pile → Told g →
    Told (lessened (pos n) pile g)
lessened_told n Empty g is t = without_told (pos n) g.edits g.entities g.eids t
lessened_told n (Full item) g is t = lying_told n item g.edits g.entities g.eids is t

pub lessened_since : (n : ℕ) (pile : Pile) (g : Game) (old : GivenKinds) →
    Since old g.eids g.entities →
    Since old (lessened (pos n) pile g).eids (lessened (pos n) pile g).entities
lessened_since n Empty g old since = since_filtered _ g.entities since
lessened_since n (Full item) g old since =
    since_mapped _ g.entities (steady_at n (lying_as item) (lying_steady item)) since

pub lessened_counts : (n : ℕ) (pile : Pile) (g : Game) →
    AreNoMore g.entities (lessened (pos n) pile g).entities
lessened_counts n Empty g = without_counts (pos n) g.entities
lessened_counts n (Full item) g = changed_counts n (lying_as item) (lying_steady item) g.entities

pub lessened_weighs : (id damage n : ℕ) (item : Item) (pile : Pile) (g : Game) →
    Lies g.entities n item → Good g →
    Weighs id damage (held (sort_of id damage) (Full item)) (held (sort_of id damage) pile) g
    (lessened (pos n) pile g)
lessened_weighs id damage n item Empty g l w = record {
  count = (let sort = sort_of id damage in
      let gone = gone_lies sort (pos n) (pos 0) (pos g.eids) g.entities l.entity w.rise l.there in
      let is = ap (lying sort) l.is in omega (arith, gone, is));
  names = refl;
  settings = refl;
}
lessened_weighs id damage n item (Full other) g l w = record {
  count = (let sort = sort_of id damage in
      let now = changed_lies sort (pos n) (pos 0) (pos g.eids) (lying_as other) g.entities
      l.entity w.rise l.there in
      let was = ap (lying sort) l.is in
      let is = ap (λ (kind : EntityKind). lying sort (kind_of_item other kind)) l.is in
      omega (arith, now, was, is));
  names = refl;
  settings = refl;
}
