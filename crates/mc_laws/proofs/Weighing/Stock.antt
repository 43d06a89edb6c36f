-- How many items of a sort the packs of all names and the entities hold, as these change.
use Rattle.std.proofs.Common.{◌≡◌, ℕ, ◌+◌, ◌<◌, ◌≤◌, Bool, true, false, List, [], ◌∷◌, ◌++◌, map}
use Rattle.std.proofs.Common.{length, Some, refl, ap, arith, not}
use Rattle.std.specs.Prelude.{◌≤ℤ◌, if◌then◌else◌}
use Rattle.std.proofs.lemmas.Bool.Decides.{nat_tests, Decides-int_eq}
use Rattle.std.proofs.lemmas.Bool.{lt-ltb}
use Rattle.std.proofs.lemmas.Int.{ints}
use Rattle.std.proofs.lemmas.List.Sums.{sum_by-cons, sum_by_push}
use Rattle.std.specs.Ordering.{int_eq}
use lib.IntN.{ℤ, pos}
use Rattle.mc_slots.specs.declared.pile.Item.{Item}
use Rattle.mc_slots.specs.declared.pile.Pile.{Pile}
use Rattle.mc_slots.specs.declared.pile.Pile.TheVariants.{Full}
use Rattle.mc_slots.specs.Pile.{Sort, held, pile_of, without as without_some}
use Rattle.mc_slots.specs.PileLaws.{split_keeps}
use Rattle.mc_windows.specs.Pack.{PackValue}
use Rattle.mc_windows.specs.Stock.{in_pack}
use Rattle.mc_windows.proofs.Desks.{piles_with}
use Rattle.mc_entities.specs.declared.entity.Entity.{Entity}
use Rattle.mc_entities.specs.declared.entity.EntityKind.{EntityKind}
use Rattle.mc_entities.specs.Numbers.{Rise, changed, numbered, without}
use Rattle.mc_entities.specs.Folk.{eid_of}
use Rattle.mc_model.specs.Things.{hand_of, in_hand, with_hand}
use Rattle.mc_model.specs.Balance.{in_entities, lying}

-- a hand that holds another pile leaves what lies there
pub hand_lies : (sort : Sort) (pile : Pile) (kind : EntityKind) →
    lying sort (hand_of pile kind) ≡ lying sort kind
hand_lies sort pile kind = grind (arith, nat_tests)

-- as much where no change touches what lies there
pub entities_mapped : (sort : Sort) (f : Entity → Entity) →
    ((e : Entity) → lying sort (f e).kind ≡ lying sort e.kind) → (es : List Entity) →
    in_entities sort (map f es) ≡ in_entities sort es
entities_mapped sort f same [] = refl
entities_mapped sort f same (e ∷ es) =
    let lies : Entity → ℕ = λ x. lying sort x.kind in
    omega (
      arith,
      sum_by-cons lies (f e) (map f es),
      sum_by-cons lies e es,
      same e,
      entities_mapped sort f same es,
    )

-- one of a number changed
pub entities_changed : (sort : Sort) (eid : ℕ) (f : Entity → Entity) →
    ((e : Entity) → lying sort (f e).kind ≡ lying sort e.kind) → (es : List Entity) →
    in_entities sort (changed eid_of (pos eid) f es) ≡ in_entities sort es
entities_changed sort eid f same es = grind (arith, nat_tests, entities_mapped)

-- one more
pub entities_more : (sort : Sort) (es : List Entity) (e : Entity) →
    in_entities sort (es ++ e ∷ []) ≡ in_entities sort es + lying sort e.kind
entities_more sort es e = sum_by_push (λ (x : Entity). lying sort x.kind) es e

-- ---- one of a number, where numbers rise

-- none of a number stands behind one that is not lower
past : (n low high : ℤ) (es : List Entity) → n ≤ℤ low → Rise eid_of low es high →
    without eid_of n es ≡ es
past n low high [] le r = refl
past n low high (e ∷ es) le r = step (int_eq e.eid n) refl
    (past n e.eid high es (let first = r.0 in omega (arith, ints, le, first)) r.1)
  where
    step : (b : Bool) → int_eq e.eid n ≡ b → without eid_of n es ≡ es →
        (if not b then e ∷ without eid_of n es else without eid_of n es) ≡ e ∷ es
    step true t rest = (let same = (Decides-int_eq e.eid n).0 t in
        let first = r.0 in absurd (omega (arith, ints, le, first, same)))
    step false t rest = ap (λ (xs : List Entity). e ∷ xs) rest

past_same : (n low high : ℤ) (f : Entity → Entity) (es : List Entity) → n ≤ℤ low →
    Rise eid_of low es high → changed eid_of n f es ≡ es
past_same n low high f [] le r = refl
past_same n low high f (e ∷ es) le r = step (int_eq e.eid n) refl
    (past_same n e.eid high f es (let first = r.0 in omega (arith, ints, le, first)) r.1)
  where
    step : (b : Bool) → int_eq e.eid n ≡ b → changed eid_of n f es ≡ es →
        (if b then f e else e) ∷ changed eid_of n f es ≡ e ∷ es
    step true t rest = (let same = (Decides-int_eq e.eid n).0 t in
        let first = r.0 in absurd (omega (arith, ints, le, first, same)))
    step false t rest = ap (λ (xs : List Entity). e ∷ xs) rest

-- what lay there is gone
pub gone_lies : (sort : Sort) (n low high : ℤ) (es : List Entity) (x : Entity) →
    Rise eid_of low es high → numbered eid_of n es ≡ Some x →
    in_entities sort (without eid_of n es) + lying sort x.kind ≡ in_entities sort es
gone_lies sort n low high [] x r found = absurd cc
gone_lies sort n low high (e ∷ es) x r found =
    step (int_eq e.eid n) refl found (λ later. gone_lies sort n e.eid high es x r.1 later)
  where
    step : (b : Bool) → int_eq e.eid n ≡ b → (if b then Some e else numbered eid_of n es) ≡ Some x →
        (numbered eid_of n es ≡ Some x →
        in_entities sort (without eid_of n es) + lying sort x.kind ≡ in_entities sort es) →
        in_entities sort (if not b then e ∷ without eid_of n es else without eid_of n es)
        + lying sort x.kind ≡ in_entities sort (e ∷ es)
    step true t found later =
        let same : e ≡ x = cc in
        let at = (Decides-int_eq e.eid n).0 t in
        let as_much = ap (λ (y : Entity). lying sort y.kind) same in
        let rest = ap (in_entities sort) (past n e.eid high es (omega (arith, ints, at)) r.1) in
        omega (arith, rest, as_much, sum_by-cons (λ (y : Entity). lying sort y.kind) e es)
    step false t found later =
        let rest = later found in
        omega (
          arith,
          rest,
          sum_by-cons (λ (y : Entity). lying sort y.kind) e (without eid_of n es),
          sum_by-cons (λ (y : Entity). lying sort y.kind) e es,
        )

-- or another lies there
pub changed_lies : (sort : Sort) (n low high : ℤ) (f : Entity → Entity) (es : List Entity)
    (x : Entity) → Rise eid_of low es high → numbered eid_of n es ≡ Some x →
    in_entities sort (changed eid_of n f es) + lying sort x.kind
    ≡ in_entities sort es + lying sort (f x).kind
changed_lies sort n low high f [] x r found = absurd cc
changed_lies sort n low high f (e ∷ es) x r found =
    step (int_eq e.eid n) refl found (λ later. changed_lies sort n e.eid high f es x r.1 later)
  where
    step : (b : Bool) → int_eq e.eid n ≡ b → (if b then Some e else numbered eid_of n es) ≡ Some x →
        (numbered eid_of n es ≡ Some x →
        in_entities sort (changed eid_of n f es) + lying sort x.kind
        ≡ in_entities sort es + lying sort (f x).kind) →
        in_entities sort ((if b then f e else e) ∷ changed eid_of n f es) + lying sort x.kind
        ≡ in_entities sort (e ∷ es) + lying sort (f x).kind
    step true t found later =
        let same : e ≡ x = cc in
        let at = (Decides-int_eq e.eid n).0 t in
        let was = ap (λ (y : Entity). lying sort y.kind) same in
        let is = ap (λ (y : Entity). lying sort (f y).kind) same in
        let rest = ap (in_entities sort)
        (past_same n e.eid high f es (omega (arith, ints, at)) r.1) in
        omega (
          arith,
          rest,
          was,
          is,
          sum_by-cons (λ (y : Entity). lying sort y.kind) (f e) (changed eid_of n f es),
          sum_by-cons (λ (y : Entity). lying sort y.kind) e es,
        )
    step false t found later =
        let rest = later found in
        omega (
          arith,
          rest,
          sum_by-cons (λ (y : Entity). lying sort y.kind) e (changed eid_of n f es),
          sum_by-cons (λ (y : Entity). lying sort y.kind) e es,
        )

-- ---- hands

-- a pack with another pile in a hand
pub pack_handed : (sort : Sort) (pile : Pile) (hand : ℕ) (pack : PackValue) →
    27 + hand < length pack.slots →
    in_pack sort (with_hand pile hand pack) + held sort (in_hand pack hand)
    ≡ in_pack sort pack + held sort pile
pack_handed sort pile hand pack within = grind (arith, nat_tests, piles_with, lt-ltb)

-- ---- parts of piles

-- so many of an item, which may be none
held_some : (sort : Sort) (item : Item) (n : ℕ) →
    held sort (pile_of item n) ≡ held sort (Full (record item { count = n }))
held_some sort item n = grind (arith, nat_tests)

-- what is taken from a pile and what is left of it are what it held
pub parted : (sort : Sort) (item : Item) (n : ℕ) → n ≤ item.count →
    held sort (Full (record item { count = n })) + held sort (without_some (Full item) n)
    ≡ held sort (Full item)
parted sort item n few = grind (arith, nat_tests, split_keeps, held_some)
