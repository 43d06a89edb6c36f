-- A game stays good where mobs alone change, and each keeps its number and its kind.
use Rattle.std.proofs.Common.{◌≡◌, ℕ, true, List, [], ◌∷◌, map, Some, refl, sym, ap, ◌∙◌, arith}
use Rattle.std.specs.Prelude.{option_map}
use Rattle.std.specs.Ordering.{nat_cmp}
use Rattle.std.specs.FinMap.{FinMap}
use Rattle.std.proofs.lemmas.Bool.Decides.{nat_tests}
use lib.IntN.{ℤ, pos}
use Rattle.mc_windows.specs.Pack.{PackValue}
use Rattle.mc_entities.specs.declared.entity.Entity.{Entity}
use Rattle.mc_entities.specs.Numbers.{Rise, numbered}
use Rattle.mc_entities.specs.Folk.{eid_of}
use Rattle.mc_model.specs.declared.player.Player.{Player}
use Rattle.mc_model.specs.Good.{IsWhole, body_of, is_body}
use Rattle.mc_model.specs.Maps.{name_cmp}
use Rattle.mc_laws.proofs.Windows.Same.{unmapped}

-- a change that keeps numbers and kinds, and leaves what players have for an entity
pub record LeavesBodies (f : Entity → Entity) : Type 0 where
  pub eid : (e : Entity) → (f e).eid ≡ e.eid
  pub kind : (e : Entity) → (f e).kind ≡ e.kind
  pub body : (e : Entity) → is_body e.kind ≡ true → f e ≡ e

module _ (f : Entity → Entity) (leaves : LeavesBodies f) where
  -- the one of a number is what becomes of the one that had it
  found_mapped : (n : ℤ) (es : List Entity) →
      numbered eid_of n (map f es) ≡ option_map f (numbered eid_of n es)
  found_mapped n [] = refl
  found_mapped n (e ∷ es) = grind (arith, nat_tests, leaves.eid e, found_mapped n es)

  rise_mapped : (low high : ℤ) (es : List Entity) → Rise eid_of low es high →
      Rise eid_of low (map f es) high
  rise_mapped low high [] r = r
  rise_mapped low high (e ∷ es) r =
      grind (arith, nat_tests, leaves.eid e, rise_mapped e.eid high es r.1)

  pub mapped_whole : (players : FinMap nat_cmp Player) (es : List Entity) (eids : ℕ)
      (packs : FinMap name_cmp PackValue) → IsWhole players es eids packs →
      IsWhole players (map f es) eids packs
  mapped_whole players es eids packs w = record {
    own = λ k p there. let own = w.own k p there in record {
      hand = own.hand;
      given = own.given;
      uuid = own.uuid;
      pack = own.pack;
      carries = own.carries;
      spot = own.spot;
      body = found_mapped (pos p.eid) es ∙ ap (option_map f) own.body
          ∙ ap Some (leaves.body (body_of p own.pack own.spot) refl);
    };
    apart = w.apart;
    piles = w.piles;
    fresh = λ n above. found_mapped (pos n) es ∙ ap (option_map f) (w.fresh n above);
    rise = rise_mapped (pos 0) (pos eids) es w.rise;
    bodies = λ n e found is.
        let x = unmapped f (numbered eid_of (pos n) es) e (sym (found_mapped (pos n) es) ∙ found) in
        w.bodies n x.value x.found
        (sym (ap is_body (leaves.kind x.value)) ∙ ap (λ (y : Entity). is_body y.kind) x.is ∙ is);
  }
