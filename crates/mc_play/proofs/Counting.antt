-- All items that packs hold, by the strings under which they are kept and by their names; and that
-- of one sort as many are counted as the balance of items has of it.
use Rattle.std.proofs.Common.{◌≡◌, ℕ, ◌+◌, cond, List, [], ◌∷◌, refl, sym, ap}
use Rattle.std.proofs.Common.{◌∙◌, arith, Some, None}
use Rattle.std.proofs.lemmas.Cmp.{nat_list_cmp_total}
use Rattle.std.proofs.lemmas.List.{nil_from_length}
use Rattle.std.proofs.lemmas.List.Sums.{sum_by-cons}
use Rattle.std.proofs.lemmas.Map.Keys.{IsDistinct-head, IsDistinct-tail}
use Rattle.std.specs.declared.alloc.Global.{Global}
use Rattle.std.specs.declared.cmp.Ordering.{Ordering}
use Rattle.std.specs.declared.cmp.Ordering.TheVariants.{Less, Equal, Greater}
use Rattle.std.specs.declared.string.String.{String}
use Rattle.std.specs.FinMap.{empty, entries, entries-insert, find, get-entries}
use Rattle.std.specs.FinMap.{len-empty, len-entries}
use Rattle.std.specs.FinMap.Entries.{by_order, put}
use Rattle.std.specs.List.{IsDistinct, sum_by}
use Rattle.std.specs.Map.{keys_of}
use Rattle.std.specs.Ordering.{is_eq}
use Rattle.std.specs.String.{string_bytes, string_eq}
use Rattle.mc_slots.specs.Pile.{Sort, held}
use Rattle.mc_slots.specs.declared.pile.Pile.{Pile}
use Rattle.mc_windows.specs.Pack.{PackValue}
use Rattle.mc_entities.specs.declared.entity.Entity.{Entity}
use Rattle.mc_entities.specs.declared.entity.EntityKind.{EntityKind}
use Rattle.mc_entities.specs.declared.entity.EntityKind.TheVariants as kinds
use Rattle.mc_model.specs.Balance.{in_entities, lying, stock}
use Rattle.mc_model.specs.Game.{Game}
use Rattle.mc_model.specs.Maps.{name_cmp}
use Rattle.mc_play.specs.Census.{entities_items, game_items, kind_items, pack_items, packs_items}
use Rattle.mc_play.specs.Named.{packs_of}
use Rattle.mc_play.proofs.NamedPacks.{none_there}

-- ---- packs

-- an entry under a new key counts besides the others
module _ {K X : Type 0} (R : K → K → Ordering) (f : K × X → ℕ) where
  one_before : (k : K) (v : X) (e : K × X) (es : List (K × X)) (o : Ordering) →
      cond (is_eq o) (Some e.1) (find R k es) ≡ None →
      (find R k es ≡ None → sum_by f (put R k v es) ≡ f (k, v) + sum_by f es) →
      sum_by f (by_order o ((k, v) ∷ e ∷ es) ((e.0, v) ∷ es) (e ∷ put R k v es))
      ≡ f (k, v) + sum_by f (e ∷ es)
  one_before k v e es Less none rest = sum_by-cons f (k, v) (e ∷ es)
  one_before k v e es Equal none rest = absurd cc
  one_before k v e es Greater none rest = omega (
    arith,
    sum_by-cons f e (put R k v es),
    sum_by-cons f e es,
    rest none,
  )

  sum_put : (k : K) (v : X) (es : List (K × X)) → find R k es ≡ None →
      sum_by f (put R k v es) ≡ f (k, v) + sum_by f es
  sum_put k v [] none = sum_by-cons f (k, v) []
  sum_put k v (e ∷ es) none = one_before k v e es (R k e.0) none (sum_put k v es)

abbrev Entries : Type 0
Entries = List (String Global × PackValue)

no_entries : entries (empty {X = PackValue} {R = name_cmp}) ≡ []
no_entries = nil_from_length _ (sym (len-entries empty) ∙ len-empty name_cmp PackValue)

-- the packs of strings of which no two are equal
pub packs_counted : (count : Pile → ℕ) (es : Entries) → IsDistinct string_eq (keys_of es) →
    sum_by (λ (e : String Global × PackValue). pack_items count e.1) es
    ≡ packs_items count (packs_of es)
packs_counted count [] apart =
    sym (ap (sum_by (λ (p : List ℕ × PackValue). pack_items count p.1)) no_entries)
packs_counted count (e ∷ es) apart =
    let name = string_bytes e.0 in
    let new = sym (get-entries (packs_of es) name)
    ∙ none_there e.0 es (IsDistinct-head string_eq e.0 (keys_of es) apart) in
    let more = ap (sum_by (λ (p : List ℕ × PackValue). pack_items count p.1))
    (entries-insert nat_list_cmp_total (packs_of es) name e.1)
    ∙ sum_put name_cmp (λ (p : List ℕ × PackValue). pack_items count p.1) name e.1
    (entries (packs_of es)) new in
    let rest = packs_counted count es (IsDistinct-tail string_eq e.0 (keys_of es) apart) in
    omega (
      arith,
      more,
      rest,
      sum_by-cons (λ (p : String Global × PackValue). pack_items count p.1) e es,
    )

-- ---- one sort

lying_counted : (sort : Sort) (kind : EntityKind) → kind_items (held sort) kind ≡ lying sort kind
lying_counted sort (kinds.Player uuid pile) = refl
lying_counted sort (kinds.Dropped item born) = refl
lying_counted sort kinds.Mob = refl

entities_counted : (sort : Sort) (entities : List Entity) →
    entities_items (held sort) entities ≡ in_entities sort entities
entities_counted sort [] = refl
entities_counted sort (e ∷ es) = omega (
  arith,
  sum_by-cons (λ (e : Entity). kind_items (held sort) e.kind) e es,
  sum_by-cons (λ (e : Entity). lying sort e.kind) e es,
  lying_counted sort e.kind,
  entities_counted sort es,
)

pub sort_counted : (sort : Sort) (g : Game) → game_items (held sort) g ≡ stock sort g
sort_counted sort g = omega (arith, entities_counted sort g.entities)
