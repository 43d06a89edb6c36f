-- Plans that lose their first moves, and mobs that make them.
use Rattle.std.proofs.Common.{◌≡◌, ℕ, zero, suc, ◌+◌, ◌≤◌, ◌<◌, List, [], ◌∷◌, ◌++◌, map, length}
use Rattle.std.proofs.Common.{get_or, set, take, drop, refl, sym, ap, ◌∙◌, arith}
use Rattle.std.proofs.lemmas.Bool.Decides.{nat_tests}
use Rattle.std.proofs.lemmas.Grind.{common_steps}
use Rattle.std.specs.Prelude.{◌≤ℤ◌, Bool, true, false, cond}
use Rattle.std.proofs.lemmas.List.Edits.{map_over_more}
use Rattle.std.proofs.lemmas.List.Filters.{length-filter_more}
use lib.IntN.{ℤ, pos}
use Rattle.mc_entities.specs.declared.entity.Entity.{Entity}
use Rattle.mc_entities.specs.declared.mind.Move.{Move}
use Rattle.mc_entities.specs.Kinds.{is_mob}
use Rattle.mc_entities.specs.Numbers.{Rise}
use Rattle.mc_entities.specs.Plans.{move_at, rest_of, asked, asked_at, asked_by}
use Rattle.mc_entities.specs.Folk.{eid_of, rank, mobs_in, moved_by, after_tick, stepped}
use Rattle.mc_entities.specs.Kept.{one_if}
use Rattle.mc_entities.proofs.NumberFacts.{le_int, rise_at, below_self}

-- ---- one mind is asked

pub plans_set : {X : Type 0} (plan : X → List Move) (xs : List X) (i : ℕ) (old new : X) →
    i < length xs → old ≡ get_or xs i old →
    plan new ≡ rest_of (plan old) → map plan (set xs i new) ≡ asked_at i (map plan xs)
plans_set plan [] i old new lt is e = absurd (omega (arith, lt))
plans_set plan (x ∷ xs) zero old new lt is e = grind (arith, nat_tests)
plans_set plan (x ∷ xs) (suc i) old new lt is e =
    grind (arith, nat_tests, plans_set plan xs i old new (omega (arith, lt)) is e)

pub plans_past : {X : Type 0} (plan : X → List Move) (xs : List X) (i : ℕ) →
    length xs ≤ i → map plan xs ≡ asked_at i (map plan xs)
plans_past plan xs i le = grind (arith, common_steps)

-- ---- the minds are asked in turn

pub asked_none : (plans : List (List Move)) → asked 0 plans ≡ plans
asked_none [] = refl
asked_none (p ∷ plans) = refl

pub asked_next : (n : ℕ) (plans : List (List Move)) →
    asked_at n (asked n plans) ≡ asked (suc n) plans
asked_next zero [] = refl
asked_next zero (p ∷ plans) = grind (arith, nat_tests)
asked_next (suc n) [] = refl
asked_next (suc n) (p ∷ plans) = ap (λ (ps : List (List Move)). rest_of p ∷ ps) (asked_next n plans)

pub move_asked : (n : ℕ) (plans : List (List Move)) → move_at (asked n plans) n ≡ move_at plans n
move_asked n plans = grind (arith, common_steps)

-- ---- the rank of a mob

rank_past : (n low high : ℤ) (es : List Entity) → n ≤ℤ low → Rise eid_of low es high → rank es n ≡ 0
rank_past n low high [] le r = refl
rank_past n low high (e ∷ es) le r = grind (arith, nat_tests, rank_past n e.eid high es)

pub rank_at : (low high : ℤ) (es : List Entity) (i : ℕ) (d : Entity) →
    Rise eid_of low es high → i < length es → rank es (get_or es i d).eid ≡ mobs_in (take i es)
rank_at low high [] i d r lt = absurd (omega (arith, lt))
rank_at low high (e ∷ es) zero d r lt = grind (arith, nat_tests, le_int, below_self, rank_past)
rank_at low high (e ∷ es) (suc i) d r lt = grind (
  arith,
  rank_at e.eid high es i d r.1 (omega (arith, lt)),
  rise_at eid_of e.eid high es i d,
)

-- ---- entity by entity

-- what is left is as it was
still : {X : Type 0} (f : X → X) (xs : List X) (i : ℕ) (d : X) →
    get_or (map f (take i xs) ++ drop i xs) i d ≡ get_or xs i d
still f xs i d = grind (arith, common_steps)

-- the first i have moved, and of the minds as many were asked as there are mobs among them
pub record IsTicking (plans : List (List Move)) (old : List Entity) (i mobs : ℕ)
    (entities : List Entity) (now : List (List Move)) : Type 0 where
  pub rows : entities ≡ map (after_tick plans old) (take i old) ++ drop i old
  pub count : mobs ≡ mobs_in (take i old)
  pub few : mobs ≤ i
  pub left : now ≡ asked mobs plans

pub ticking_next : (plans : List (List Move)) (high : ℤ) (old : List Entity) (i mobs : ℕ)
    (entities : List Entity) (now later : List (List Move)) (e new : Entity) (n : ℕ) →
    Rise eid_of (pos 0) old high → i < length old → IsTicking plans old i mobs entities now →
    e ≡ get_or entities i e → new ≡ moved_by now mobs e →
    later ≡ asked_by (is_mob e.kind) mobs now →
    n ≡ one_if (is_mob e.kind) → IsTicking plans old (i + 1) (mobs + n) (set entities i new) later
ticking_next plans high old i mobs entities now later e new n r lt t is moved remains counted =
    grind (
      arith,
      map_over_more (after_tick plans old) old entities i e lt t.rows is,
      moves,
      grows,
      turn (is_mob e.kind) counted,
    )
  where
    here : e ≡ get_or old i e
    here =
        is ∙ ap (λ (xs : List Entity). get_or xs i e) t.rows ∙ still (after_tick plans old) old i e

    ranked : rank old e.eid ≡ mobs
    ranked =
        ap (λ (x : Entity). rank old x.eid) here ∙ rank_at (pos 0) high old i e r lt ∙ sym t.count

    first : move_at now mobs ≡ move_at plans (rank old e.eid)
    first = grind (arith, nat_tests, move_asked, ranked)

    moves : new ≡ after_tick plans old e
    moves = moved ∙ ap (λ (by : Move). cond (is_mob e.kind) (stepped by e) e) first

    grows : mobs_in (take (i + 1) old) ≡ mobs_in (take i old) + one_if (is_mob e.kind)
    grows =
        length-filter_more (λ (x : Entity). is_mob x.kind) old i e lt
        ∙ ap (λ (x : Entity). mobs_in (take i old) + one_if (is_mob x.kind)) (sym here)

    few : (b : Bool) → n ≡ one_if b → mobs + n ≤ i + 1
    few true c = let f = t.few in omega (arith, c, f)
    few false c = let f = t.few in omega (arith, c, f)

    turn : (b : Bool) → n ≡ one_if b → asked_by b mobs (asked mobs plans) ≡ asked (mobs + n) plans
    turn true c =
        let e : suc mobs ≡ mobs + n = omega (arith, c) in
        asked_next mobs plans ∙ ap (λ (m : ℕ). asked m plans) e
    turn false c = let e : mobs ≡ mobs + n = omega (arith, c) in ap (λ (m : ℕ). asked m plans) e
