-- A game stays good where its players are as they were but for what the law does not read, and
-- where one of them changes together with its pack and its entity.
use Rattle.std.proofs.Common.{◌≡◌, ◌≢◌, ℕ, ◌<◌, true, List, Some, None, sym, subst}
use Rattle.std.proofs.Common.{ap, ◌∙◌, inl, inr, arith}
use Rattle.std.specs.Prelude.{option_map}
use Rattle.std.proofs.lemmas.Bool.{cases_eq}
use Rattle.std.specs.Ordering.{nat_cmp}
use Rattle.std.specs.FinMap.{FinMap, get}
use lib.IntN.{pos}
use Rattle.mc_fields.specs.declared.position.Spot.{Spot}
use Rattle.mc_windows.specs.Pack.{PackValue, IsPack}
use Rattle.mc_entities.specs.declared.entity.Entity.{Entity}
use Rattle.mc_entities.specs.Numbers.{Rise, numbered}
use Rattle.mc_entities.specs.Folk.{eid_of}
use Rattle.mc_model.specs.declared.player.Player.{Player}
use Rattle.mc_model.specs.Names.{offline_uuid}
use Rattle.mc_model.specs.Maps.{name_cmp}
use Rattle.mc_model.specs.Game.{Game}
use Rattle.mc_model.specs.Good.{AreApart, Good, IsOwn, IsPlayed, IsWhole, body_of, is_body}
use Rattle.mc_model.proofs.Maps.Options.{some_is}
use Rattle.mc_model.proofs.Maps.Lookups.{name_cases}
use Rattle.mc_laws.proofs.EachValue.{AllValues, AreChanged, all_changed}

-- ---- players but for what the law does not read

-- a player has the number, the identifier, the name and the hand of another
pub record IsLike (p q : Player) : Type 0 where
  pub eid : p.eid ≡ q.eid
  pub uuid : p.uuid ≡ q.uuid
  pub name : p.name ≡ q.name
  pub hand : p.hand ≡ q.hand

-- a player of a connection was there, and was like it
record Was (players : FinMap nat_cmp Player) (j : ℕ) (p : Player) : Type 0 where
  pub before : Player
  pub there : get players j ≡ Some before
  pub like : IsLike p before

own_like : (entities : List Entity) (eids : ℕ) (packs : FinMap name_cmp PackValue) (p q : Player) →
    IsLike p q → IsOwn entities eids packs q → IsOwn entities eids packs p
own_like entities eids packs p q like o =
    let e = like.eid in
    let u = like.uuid in
    let n = like.name in
    let h = like.hand in
    record {
      hand = omega (arith, h, o.hand);
      given = omega (arith, e, o.given);
      uuid = u ∙ o.uuid ∙ ap offline_uuid (sym n);
      pack = o.pack;
      carries = ap (get packs) n ∙ o.carries;
      spot = o.spot;
      body = rw (e, u, h) o.body;
    }

-- and it is there still, with its number
record Will (players : FinMap nat_cmp Player) (j : ℕ) (p : Player) : Type 0 where
  pub later : Player
  pub there : get players j ≡ Some later
  pub eid : later.eid ≡ p.eid

refined : (old new : FinMap nat_cmp Player) (entities : List Entity) (eids : ℕ)
    (packs : FinMap name_cmp PackValue) →
    AllValues (Was old) new → AllValues (Will new) old →
    IsWhole old entities eids packs → IsWhole new entities eids packs
refined old new entities eids packs was will w = record {
  own = λ j p is.
      let a = was j p is in
      own_like entities eids packs p a.before a.like (w.own j a.before a.there);
  apart = λ j k p q is too ne.
      let a = was j p is in
      let b = was k q too in
      let c = w.apart j k a.before b.before a.there b.there ne in
      record {
        eid = λ same. c.eid (sym a.like.eid ∙ same ∙ b.like.eid);
        uuid = λ same. c.uuid (sym a.like.uuid ∙ same ∙ b.like.uuid);
      };
  piles = w.piles;
  fresh = w.fresh;
  rise = w.rise;
  bodies = λ n e found is.
      let b = w.bodies n e found is in
      let a = will b.k b.player b.plays in
      record { k = b.k; player = a.later; plays = a.there; number = a.eid ∙ b.number };
}

-- where each player is changed by what keeps it like it was
pub players_whole : (old new : FinMap nat_cmp Player) (f : ℕ → Player → Player) →
    AreChanged f old new → ((j : ℕ) (p : Player) → IsLike (f j p) p) →
    (entities : List Entity) (eids : ℕ) (packs : FinMap name_cmp PackValue) →
    IsWhole old entities eids packs → IsWhole new entities eids packs
players_whole old new f are like entities eids packs =
    refined old new entities eids packs
    (all_changed (Was old) f old new are
    (λ j p there. record { before = p; there = there; like = like j p }))
    (λ j p there. record {
      later = f j p;
      there = are j ∙ ap (option_map (f j)) there;
      eid = (like j p).eid;
    })

-- ---- one player, its pack and its entity

-- one player changed: its view of itself, what it carries, and its entity, which is its body again
pub record ChangesOne (k : ℕ) (p q : Player) (g v : Game) : Type 0 where
  pub there : get g.players k ≡ Some p
  pub here : get v.players k ≡ Some q
  pub others : (j : ℕ) → j ≢ k → get v.players j ≡ get g.players j
  pub eid : q.eid ≡ p.eid
  pub uuid : q.uuid ≡ p.uuid
  pub name : q.name ≡ p.name
  pub hand : q.hand < 9
  pub pack : PackValue
  pub carries : get v.packs p.name ≡ Some pack
  pub is_pack : IsPack pack.slots pack.cursor
  pub packs : (name : List ℕ) → name ≢ p.name → get v.packs name ≡ get g.packs name
  pub spot : Spot
  pub body : numbered eid_of (pos p.eid) v.entities ≡ Some (body_of q pack spot)
  pub entities : (n : ℕ) → n ≢ p.eid →
      numbered eid_of (pos n) v.entities ≡ numbered eid_of (pos n) g.entities
  pub eids : v.eids ≡ g.eids
  pub rise : Rise eid_of (pos 0) v.entities (pos v.eids)

pub names_apart : (entities : List Entity) (eids : ℕ) (packs : FinMap name_cmp PackValue)
    (p q : Player) → IsOwn entities eids packs p → IsOwn entities eids packs q → AreApart p q →
    p.name ≢ q.name
names_apart entities eids packs p q a b apart same =
    apart.uuid (a.uuid ∙ ap offline_uuid same ∙ sym b.uuid)

module _ (k : ℕ) (p q : Player) (g v : Game) (c : ChangesOne k p q g v) (w : Good g) where
  mine : (r : Player) → get v.players k ≡ Some r → r ≡ q
  mine r is = some_is r q (sym is ∙ c.here)

  theirs : (j : ℕ) (r : Player) → j ≢ k → get v.players j ≡ Some r → get g.players j ≡ Some r
  theirs j r ne is = sym (c.others j ne) ∙ is

  own_q : IsOwn v.entities v.eids v.packs q
  own_q =
      let o = w.own k p c.there in
      let ce = c.eid in
      let cs = c.eids in
      record {
        hand = c.hand;
        given = omega (arith, ce, cs, o.given);
        uuid = c.uuid ∙ o.uuid ∙ ap offline_uuid (sym c.name);
        pack = c.pack;
        carries = ap (get v.packs) c.name ∙ c.carries;
        spot = c.spot;
        body = ap (λ (n : ℕ). numbered eid_of (pos n) v.entities) c.eid ∙ c.body;
      }

  own_other : (j : ℕ) (r : Player) → j ≢ k → get g.players j ≡ Some r →
      IsOwn v.entities v.eids v.packs r
  own_other j r ne is =
      let o = w.own j r is in
      let far = w.apart j k r p is c.there ne in
      let cs = c.eids in
      record {
        hand = o.hand;
        given = omega (arith, cs, o.given);
        uuid = o.uuid;
        pack = o.pack;
        carries = c.packs r.name (names_apart g.entities g.eids g.packs r p o
            (w.own k p c.there) far) ∙ o.carries;
        spot = o.spot;
        body = c.entities r.eid far.eid ∙ o.body;
      }

  own_each : (j : ℕ) (r : Player) → get v.players j ≡ Some r → IsOwn v.entities v.eids v.packs r
  own_each j r is = elim (cases_eq j k) [
    | inl same ↦ subst (λ (x : Player). IsOwn v.entities v.eids v.packs x)
        (sym (mine r (rw (← same) is))) own_q
    | inr ne ↦ own_other j r ne (theirs j r ne is)
  ]

  apart_mine : (j : ℕ) (r : Player) → j ≢ k → get v.players j ≡ Some r → AreApart q r
  apart_mine j r ne is =
      let far = w.apart j k r p (theirs j r ne is) c.there ne in
      record {
        eid = λ same. far.eid (sym same ∙ c.eid);
        uuid = λ same. far.uuid (sym same ∙ c.uuid);
      }

  apart_each : (i j : ℕ) (r s : Player) → get v.players i ≡ Some r → get v.players j ≡ Some s →
      i ≢ j → AreApart r s
  apart_each i j r s is too ne = elim (cases_eq i k) [
    | inl same ↦ subst (λ (x : Player). AreApart x s) (sym (mine r (rw (← same) is)))
        (apart_mine j s (λ e. ne (same ∙ sym e)) too)
    | inr far ↦ elim (cases_eq j k) [
      | inl same ↦
          let near : AreApart q r = apart_mine i r far is in
          let is_q = mine s (rw (← same) too) in
          record {
            eid = λ e. near.eid (ap (λ (x : Player). x.eid) (sym is_q) ∙ sym e);
            uuid = λ e. near.uuid (ap (λ (x : Player). x.uuid) (sym is_q) ∙ sym e);
          }
      | inr away ↦ w.apart i j r s (theirs i r far is) (theirs j s away too) ne
    ]
  ]

  piles_each : (name : List ℕ) (pack : PackValue) → get v.packs name ≡ Some pack →
      IsPack pack.slots pack.cursor
  piles_each name pack is = elim (name_cases name p.name) [
    | inl same ↦ subst (λ (x : PackValue). IsPack x.slots x.cursor)
        (some_is c.pack pack (sym c.carries ∙ ap (get v.packs) (sym same) ∙ is)) c.is_pack
    | inr ne ↦ w.piles name pack (sym (c.packs name ne) ∙ is)
  ]

  fresh_each : (n : ℕ) → v.eids < n → numbered eid_of (pos n) v.entities ≡ None
  fresh_each n above =
      let o = w.own k p c.there in
      let cs = c.eids in
      let ne : n ≢ p.eid = λ same. absurd (omega (arith, same, above, cs, o.given)) in
      c.entities n ne ∙ w.fresh n (omega (arith, cs, above))

  -- of another player
  played_on : (n : ℕ) → n ≢ p.eid → IsPlayed g.players n → IsPlayed v.players n
  played_on n far b = elim (cases_eq b.k k) [
    | inl same ↦ (let is_p = some_is p b.player
        (sym c.there ∙ ap (get g.players) (sym same) ∙ b.plays) in
        absurd (far (sym b.number ∙ ap (λ (x : Player). x.eid) (sym is_p))))
    | inr ne ↦ record {
      k = b.k;
      player = b.player;
      plays = c.others b.k ne ∙ b.plays;
      number = b.number;
    }
  ]

  bodies_each : (n : ℕ) (e : Entity) → numbered eid_of (pos n) v.entities ≡ Some e →
      is_body e.kind ≡ true → IsPlayed v.players n
  bodies_each n e found is = elim (cases_eq n p.eid) [
    | inl same ↦ record { k = k; player = q; plays = c.here; number = c.eid ∙ sym same }
    | inr far ↦ played_on n far (w.bodies n e (sym (c.entities n far) ∙ found) is)
  ]

  pub one_changed : Good v
  one_changed = record {
    own = own_each;
    apart = apart_each;
    piles = piles_each;
    fresh = fresh_each;
    rise = c.rise;
    bodies = bodies_each;
  }
