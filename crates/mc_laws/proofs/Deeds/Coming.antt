-- A game stays good where an item is thrown, where a player enters and where one goes.
use Rattle.std.proofs.Common.{◌≡◌, ◌≢◌, ℕ, ◌+◌, ◌<◌, List, [], ◌∷◌, ◌++◌, refl, sym, subst, ap, ◌∙◌}
use Rattle.std.proofs.Common.{inl, inr, arith, Option, Some, None, true, false}
use Rattle.std.specs.Prelude.{length}
use Rattle.std.proofs.lemmas.Bool.{cases_eq}
use Rattle.std.proofs.lemmas.Int.{ints}
use Rattle.std.specs.FinMap.{FinMap, get, remove}
use lib.IntN.{pos}
use Rattle.mc_fields.specs.declared.position.Spot.{Spot}
use Rattle.mc_windows.specs.Pack.{PackValue, IsPack}
use Rattle.mc_entities.specs.declared.entity.Entity.{Entity}
use Rattle.mc_entities.specs.declared.entity.EntityKind.{EntityKind}
use Rattle.mc_entities.specs.Numbers.{Rise, numbered, without}
use Rattle.mc_entities.specs.Folk.{eid_of}
use Rattle.mc_model.specs.declared.player.Player.{Player}
use Rattle.mc_model.specs.Names.{offline_uuid}
use Rattle.mc_model.specs.Spots.{spawn_spot}
use Rattle.mc_model.specs.Maps.{name_cmp}
use Rattle.mc_model.specs.Game.{Game, pack_named}
use Rattle.mc_model.specs.Deeds.{enter_as, go_of, new_player, spawned}
use Rattle.mc_model.specs.Good.{AreApart, Good, IsOwn, IsPlayed, is_body}
use Rattle.mc_model.proofs.Maps.Options.{some_is}
use Rattle.mc_model.proofs.Maps.Lookups.{gone_other, gone_same, name_cases, name_put_other}
use Rattle.mc_model.proofs.Maps.Lookups.{name_put_same, put_other, put_same}
use Rattle.mc_model.proofs.Maps.Entities.{found_before, found_behind, found_either, other_eid}
use Rattle.mc_model.proofs.Maps.Entities.{rise_join, same_eid, without_rise, without_eid}
use Rattle.mc_model.proofs.Maps.Entities.{without_no_eid}
use Rattle.mc_laws.proofs.Deeds.Packs.{named_is_pack}

none_some : {A : Type 0} (a : A) → ◌≡◌ {A = Option A} None (Some a) → ⊥
none_some a e = cc

-- ---- one more entity

-- under a number that was not given yet nothing is found behind the one that comes
pub spawned_fresh : (entities : List Entity) (eids n : ℕ) (kind : EntityKind) (spot : Spot) →
    ((m : ℕ) → eids < m → numbered eid_of (pos m) entities ≡ None) → eids + 1 < n →
    numbered eid_of (pos n)
    (entities ++ record { eid = pos (eids + 1); kind = kind; spot = spot } ∷ []) ≡ None
spawned_fresh entities eids n kind spot fresh above =
    found_behind (pos n) entities _ (fresh n (omega (arith, above)))
    ∙ rw (other_eid (eids + 1) n (λ same. absurd (omega (arith, same, above)))) refl

-- whoever was a player's own still is
pub spawned_own : (entities more : List Entity) (eids : ℕ) (packs : FinMap name_cmp PackValue)
    (p : Player) → IsOwn entities eids packs p → IsOwn (entities ++ more) (eids + 1) packs p
spawned_own entities more eids packs p o = record {
  hand = o.hand;
  given = omega (arith, o.given);
  uuid = o.uuid;
  pack = o.pack;
  carries = o.carries;
  spot = o.spot;
  body = found_before (pos p.eid) entities more _ o.body;
}

-- and numbers rise with it
pub spawned_rise : (entities : List Entity) (eids : ℕ) (kind : EntityKind) (spot : Spot) →
    Rise eid_of (pos 0) entities (pos eids) →
    Rise eid_of (pos 0)
    (entities ++ record { eid = pos (eids + 1); kind = kind; spot = spot } ∷ []) (pos (eids + 1))
spawned_rise entities eids kind spot r = rise_join (pos 0) (pos eids) (pos (eids + 1))
    entities _ (omega (arith, ints)) (omega (arith, ints)) r

pub spawned_good : (kind : EntityKind) (spot : Spot) (g : Game) → is_body kind ≡ false → Good g →
    Good (spawned kind spot g)
spawned_good kind spot g no_body w = record {
  own = λ j p is. spawned_own g.entities _ g.eids g.packs p (w.own j p is);
  apart = w.apart;
  piles = w.piles;
  fresh = λ n above. spawned_fresh g.entities g.eids n kind spot w.fresh above;
  rise = spawned_rise g.entities g.eids kind spot w.rise;
  bodies = λ n e found is. elim (found_either (pos n) g.entities
      (record { eid = pos (g.eids + 1); kind = kind; spot = spot }) e found) [
        | inl old ↦ w.bodies n e old is
        | inr new ↦ (let clash : false ≡ true = sym no_body
            ∙ ap (λ (x : Entity). is_body x.kind) (sym new.0) ∙ is in absurd cc)
      ];
}

-- ---- one player less

pub go_good : (k : ℕ) (p : Player) (g : Game) → get g.players k ≡ Some p → Good g →
    Good (go_of k p g)
go_good k p g there w = record {
  own = λ j q is.
      let ne = still j q is in
      let before = sym (gone_other g.players k j ne) ∙ is in
      let o = w.own j q before in
      let far = w.apart j k q p before there ne in
      record {
        hand = o.hand;
        given = o.given;
        uuid = o.uuid;
        pack = o.pack;
        carries = o.carries;
        spot = o.spot;
        body = without_no_eid q.eid p.eid g.entities far.eid ∙ o.body;
      };
  apart = λ i j q r is too ne. w.apart i j q r
      (sym (gone_other g.players k i (still i q is)) ∙ is)
      (sym (gone_other g.players k j (still j r too)) ∙ too) ne;
  piles = w.piles;
  fresh = λ n above. without_no_eid n p.eid g.entities
      (let o = w.own k p there in λ same. absurd (omega (arith, same, above, o.given)))
      ∙ w.fresh n above;
  rise = without_rise (pos p.eid) (pos 0) (pos g.eids) g.entities w.rise;
  bodies = λ n e found is. elim (cases_eq n p.eid) [
    | inl same ↦ absurd (none_here e (sym (without_eid p.eid g.entities)
        ∙ ap (λ (m : ℕ). numbered eid_of (pos m) (without eid_of (pos p.eid) g.entities))
        (sym same) ∙ found))
    | inr far ↦ left_played n far
        (w.bodies n e (sym (without_no_eid n p.eid g.entities far) ∙ found) is)
  ];
}
  where
    none_here : (e : Entity) → ◌≡◌ {A = Option Entity} None (Some e) → ⊥
    none_here e is = cc

    left_played : (n : ℕ) → n ≢ p.eid → IsPlayed g.players n →
        IsPlayed (remove g.players k) n
    left_played n far b = elim (cases_eq b.k k) [
      | inl same ↦ (let is_p = some_is p b.player
          (sym there ∙ ap (get g.players) (sym same) ∙ b.plays) in
          absurd (far (sym b.number ∙ ap (λ (x : Player). x.eid) (sym is_p))))
      | inr ne ↦ record {
        k = b.k;
        player = b.player;
        plays = gone_other g.players k b.k ne ∙ b.plays;
        number = b.number;
      }
    ]

    still : (j : ℕ) (q : Player) → get (remove g.players k) j ≡ Some q → j ≢ k
    still j q is same = none_some q (sym (gone_same g.players k) ∙ (rw same at is))

-- ---- one player more

module _ (k : ℕ) (name : List ℕ) (g : Game) (w : Good g)
    (free : (j : ℕ) (q : Player) → get g.players j ≡ Some q → q.uuid ≢ offline_uuid name)
    (new : get g.players k ≡ None) where
  abbrev comes : Player
  comes = new_player (g.eids + 1) name (length g.lines)

  own_new : IsOwn (enter_as k name g).entities (enter_as k name g).eids (enter_as k name g).packs
      comes
  own_new = record {
    hand = omega arith;
    given = omega arith;
    uuid = refl;
    pack = pack_named g name;
    carries = name_put_same g.packs name (pack_named g name);
    spot = spawn_spot g.settings.terrain;
    body = found_behind (pos (g.eids + 1)) g.entities _ (w.fresh (g.eids + 1) (omega arith))
        ∙ rw (same_eid (g.eids + 1)) refl;
  }

  own_old : (j : ℕ) (q : Player) → get g.players j ≡ Some q →
      IsOwn (enter_as k name g).entities (enter_as k name g).eids (enter_as k name g).packs q
  own_old j q is =
      let o = spawned_own g.entities _ g.eids g.packs q (w.own j q is) in
      record {
        hand = o.hand;
        given = o.given;
        uuid = o.uuid;
        pack = o.pack;
        carries = name_put_other g.packs name q.name (pack_named g name)
            (λ same. free j q is (o.uuid ∙ ap offline_uuid same)) ∙ o.carries;
        spot = o.spot;
        body = o.body;
      }

  own_each : (j : ℕ) (q : Player) → get (enter_as k name g).players j ≡ Some q →
      IsOwn (enter_as k name g).entities (enter_as k name g).eids (enter_as k name g).packs q
  own_each j q is = elim (cases_eq j k) [
    | inl same ↦ subst (λ (x : Player). IsOwn (enter_as k name g).entities (enter_as k name g).eids
        (enter_as k name g).packs x)
        (some_is comes q (sym (put_same g.players k comes) ∙ (rw same at is))) own_new
    | inr ne ↦ own_old j q (sym (put_other g.players k j comes ne) ∙ is)
  ]

  -- the new one and another
  apart_new : (j : ℕ) (q : Player) → get g.players j ≡ Some q → AreApart q comes
  apart_new j q is =
      let o = w.own j q is in
      record { eid = λ same. absurd (omega (arith, same, o.given)); uuid = free j q is }

  apart_each : (i j : ℕ) (q r : Player) → get (enter_as k name g).players i ≡ Some q →
      get (enter_as k name g).players j ≡ Some r → i ≢ j → AreApart q r
  apart_each i j q r is too ne = elim (cases_eq i k) [
    | inl same ↦
        let far : j ≢ k = λ e. ne (same ∙ sym e) in
        let is_new = some_is comes q (sym (put_same g.players k comes) ∙ (rw same at is)) in
        let apart = apart_new j r (sym (put_other g.players k j comes far) ∙ too) in
        record {
          eid = λ e. apart.eid (sym e ∙ ap (λ (x : Player). x.eid) (sym is_new));
          uuid = λ e. apart.uuid (sym e ∙ ap (λ (x : Player). x.uuid) (sym is_new));
        }
    | inr far ↦
        let before = sym (put_other g.players k i comes far) ∙ is in
        elim (cases_eq j k) [
          | inl same ↦ subst (λ (x : Player). AreApart q x)
              (some_is comes r (sym (put_same g.players k comes) ∙ (rw same at too)))
              (apart_new i q before)
          | inr away ↦
              w.apart i j q r before (sym (put_other g.players k j comes away) ∙ too) ne
        ]
  ]

  piles_each : (other : List ℕ) (pack : PackValue) →
      get (enter_as k name g).packs other ≡ Some pack → IsPack pack.slots pack.cursor
  piles_each other pack is = elim (name_cases other name) [
    | inl same ↦ subst (λ (x : PackValue). IsPack x.slots x.cursor)
        (some_is (pack_named g name) pack
        (sym (name_put_same g.packs name (pack_named g name)) ∙ (rw same at is)))
        (named_is_pack g name w)
    | inr ne ↦ w.piles other pack
        (sym (name_put_other g.packs name other (pack_named g name) ne) ∙ is)
  ]

  played_still : (n : ℕ) → IsPlayed g.players n → IsPlayed (enter_as k name g).players n
  played_still n b = record {
    k = b.k;
    player = b.player;
    plays = put_other g.players k b.k comes (λ same. none_some b.player
        (sym new ∙ ap (get g.players) (sym same) ∙ b.plays)) ∙ b.plays;
    number = b.number;
  }

  pub enter_good : Good (enter_as k name g)
  enter_good = record {
    own = own_each;
    apart = apart_each;
    piles = piles_each;
    fresh = λ n above. spawned_fresh g.entities g.eids n _ _ w.fresh above;
    rise = spawned_rise g.entities g.eids _ _ w.rise;
    bodies = λ n e found is. elim (found_either (pos n) g.entities _ e found) [
      | inl old ↦ played_still n (w.bodies n e old is)
      | inr now ↦ record {
        k = k;
        player = comes;
        plays = put_same g.players k comes;
        number = omega (arith, ints, now.1);
      }
    ];
  }
