-- Each deed of a player keeps a game good: its entity holds what its pack has at its hand, and
-- numbers and names are of one player each.
use Rattle.std.proofs.Common.{◌≡◌, ℕ, ◌<◌, Option, Some, refl, ap, ◌∙◌}
use Rattle.std.specs.Prelude.{option_map, unwrap_or}
use Rattle.std.specs.FinMap.{get}
use lib.IntN.{pos}
use Rattle.mc_fields.specs.declared.position.Spot.{Spot}
use Rattle.mc_slots.specs.declared.pile.Pile.{Pile}
use Rattle.mc_windows.specs.Pack.{PackValue, IsPack, kit_pack}
use Rattle.mc_model.specs.declared.player.Player.{Player}
use Rattle.mc_model.specs.Things.{in_hand, holding, standing}
use Rattle.mc_model.specs.Game.{Game, pack_of}
use Rattle.mc_model.specs.Deeds.{rehand_of, repack_of, stand_of}
use Rattle.mc_model.specs.Good.{Good, body_of}
use Rattle.mc_model.proofs.Maps.Lookups.{changed_other, changed_same, name_changed_other}
use Rattle.mc_model.proofs.Maps.Lookups.{name_changed_same}
use Rattle.mc_model.proofs.Maps.Entities.{KeepsEid, changed_eid, changed_no_eid, changed_rise}
use Rattle.mc_laws.proofs.Deeds.Keeping.{ChangesOne, one_changed}

-- an entity holds another pile, or stands elsewhere: it keeps its number
pub holds : (pile : Pile) → KeepsEid (holding pile)
holds pile = record { is = λ e. refl }

stands : (spot : Spot) → KeepsEid (standing spot)
stands spot = record { is = λ e. refl }

module _ (k : ℕ) (p : Player) (g : Game) (there : get g.players k ≡ Some p) (w : Good g) where
  pub repack_good : (pack : PackValue) → IsPack pack.slots pack.cursor →
      Good (repack_of p pack g)
  repack_good pack is = one_changed k p p g (repack_of p pack g) changes w
    where
      changes : ChangesOne k p p g (repack_of p pack g)
      changes = let o = w.own k p there in record {
        there = there;
        here = there;
        others = λ j ne. refl;
        eid = refl;
        uuid = refl;
        name = refl;
        hand = o.hand;
        pack = pack;
        carries = name_changed_same g.packs p.name (λ (old : PackValue). pack)
            ∙ ap (option_map (λ (old : PackValue). pack)) o.carries;
        is_pack = is;
        packs = λ name ne. name_changed_other g.packs p.name name (λ (old : PackValue). pack) ne;
        spot = o.spot;
        body = changed_eid p.eid (holding (in_hand pack p.hand)) g.entities (holds _)
            ∙ ap (option_map (holding (in_hand pack p.hand))) o.body;
        entities = λ n ne. changed_no_eid n p.eid (holding (in_hand pack p.hand)) g.entities
            (holds _) ne;
        eids = refl;
        rise = changed_rise p.eid (holding (in_hand pack p.hand)) (pos 0) (pos g.eids) g.entities
            (holds _) w.rise;
      }

  pub rehand_good : (hand : ℕ) → hand < 9 → Good (rehand_of k p hand g)
  rehand_good hand small =
      one_changed k p (record p { hand = hand }) g (rehand_of k p hand g) changes w
    where
      changes : ChangesOne k p (record p { hand = hand }) g (rehand_of k p hand g)
      changes =
          let o = w.own k p there in
          let is_pack : pack_of g p ≡ o.pack = ap (λ (x : Option PackValue).
          unwrap_or x kit_pack) o.carries in
          record {
            there = there;
            here = changed_same g.players k (λ (q : Player). record q { hand = hand })
                ∙ ap (option_map (λ (q : Player). record q { hand = hand })) there;
            others = λ j ne. changed_other g.players k j
                (λ (q : Player). record q { hand = hand }) ne;
            eid = refl;
            uuid = refl;
            name = refl;
            hand = small;
            pack = o.pack;
            carries = o.carries;
            is_pack = w.piles p.name o.pack o.carries;
            packs = λ name ne. refl;
            spot = o.spot;
            body = changed_eid p.eid (holding (in_hand (pack_of g p) hand)) g.entities (holds _)
                ∙ ap (option_map (holding (in_hand (pack_of g p) hand))) o.body
                ∙ ap (λ (x : PackValue). Some (body_of (record p { hand = hand }) x o.spot))
                is_pack;
            entities = λ n ne. changed_no_eid n p.eid (holding (in_hand (pack_of g p) hand))
                g.entities (holds _) ne;
            eids = refl;
            rise = changed_rise p.eid (holding (in_hand (pack_of g p) hand)) (pos 0) (pos g.eids)
                g.entities (holds _) w.rise;
          }

  pub stand_good : (spot : Spot) → Good (stand_of p spot g)
  stand_good spot = one_changed k p p g (stand_of p spot g) changes w
    where
      changes : ChangesOne k p p g (stand_of p spot g)
      changes = let o = w.own k p there in record {
        there = there;
        here = there;
        others = λ j ne. refl;
        eid = refl;
        uuid = refl;
        name = refl;
        hand = o.hand;
        pack = o.pack;
        carries = o.carries;
        is_pack = w.piles p.name o.pack o.carries;
        packs = λ name ne. refl;
        spot = spot;
        body = changed_eid p.eid (standing spot) g.entities (stands spot)
            ∙ ap (option_map (standing spot)) o.body;
        entities = λ n ne. changed_no_eid n p.eid (standing spot) g.entities (stands spot) ne;
        eids = refl;
        rise = changed_rise p.eid (standing spot) (pos 0) (pos g.eids) g.entities (stands spot)
            w.rise;
      }
