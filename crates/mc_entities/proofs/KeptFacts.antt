-- What each change of a folk keeps of how it is kept.
use Rattle.std.proofs.Common.{◌≡◌, ℕ, suc, ◌+◌, ◌-◌, ◌≤◌, ◌<◌, List, [], ◌∷◌, ◌++◌, map}
use Rattle.std.proofs.Common.{length, get_or, set, refl, sym, subst, ap, ◌∙◌, arith}
use Rattle.std.proofs.lemmas.Bool.Decides.{nat_tests}
use Rattle.std.specs.Prelude.{◌≤ℤ◌, ◌<ℤ◌, ◌==◌, ◌&&◌, not, Bool, true, false, Result, Ok}
use Rattle.std.specs.Prelude.{is_ok, None, IfSome, if◌then◌else◌}
use Rattle.std.specs.List.{filter, remove, All}
use Rattle.std.proofs.lemmas.Grind.{common_steps}
use Rattle.std.proofs.lemmas.Int.{ints}
use Rattle.std.proofs.lemmas.List.{length-append}
use Rattle.std.proofs.lemmas.List.Edits.{length-remove}
use Rattle.std.proofs.lemmas.List.Elements.{All-append, All-set, All-filter, All-map}
use lib.IntN.{ℤ, pos}
use Rattle.mc_fields.specs.declared.position.Spot.{Spot}
use Rattle.mc_entities.specs.declared.entity.Entity.{Entity}
use Rattle.mc_entities.specs.declared.entity.TheConstants.{DROPPED_MAX, EID_MAX}
use Rattle.mc_entities.specs.Kinds.{IsKind, is_dropped, are_alike}
use Rattle.mc_entities.specs.declared.mind.Move.{Move}
use Rattle.mc_entities.specs.declared.entity.EntityKind.{EntityKind}
use Rattle.mc_entities.specs.Numbers.{is_among, without, without_all, Rise}
use Rattle.mc_entities.specs.Folk.{dropped_in, eid_of, told_eid, entity_of, with_entity, removed}
use Rattle.mc_entities.specs.Folk.{FolkState, FolkValue, after_tick}
use Rattle.mc_entities.specs.Kept.{IsKept, IsPlaced, AreKinds, places, one_if}
use Rattle.mc_entities.proofs.NumberFacts.{rise_map, rise_more, rise_join, rise_set, rise_filter}
use Rattle.mc_entities.proofs.NumberFacts.{count_set, count_remove, count_join, without_at}
use Rattle.mc_entities.proofs.NumberFacts.{without_none, changed_none, changed_placed}

below : (n : ℕ) → pos n <ℤ pos (n + 1)
below n = omega (arith, ints)

up_to : (n : ℕ) → pos n ≤ℤ pos n
up_to n = omega (arith, ints)

more : (n : ℕ) → pos n ≤ℤ pos (n + 1)
more n = omega (arith, ints)

-- it is not as high as it may be
not_most : (n most : ℕ) → n ≤ most → (n == most) ≡ false → n < most
not_most n most le e = grind (arith, nat_tests)

-- one more has room
few_more : (b : Bool) (n total dropped most : ℕ) → n ≡ one_if b →
    dropped ≡ total → dropped ≤ most → (b && (total == most)) ≡ false → dropped + n ≤ most
few_more b n total dropped most e same le f = grind (arith, nat_tests)

pub kept_more : (es now : List Entity) (told : List (ℤ × Spot)) (cap room given dropped n : ℕ)
    (e : Entity) → IsKept es told cap given dropped → IsKind e.kind →
    e.eid ≡ pos (given + 1) → (is_dropped e.kind && (dropped_in es == DROPPED_MAX)) ≡ false →
    (given == EID_MAX) ≡ false → 0 < places es room cap → n ≡ one_if (is_dropped e.kind) →
    now ≡ es ++ e ∷ [] → IsKept now told cap (given + 1) (dropped + n)
kept_more es now told cap room given dropped n e k kind eid full spent place count is =
    subst (λ (xs : List Entity). IsKept xs told cap (given + 1) (dropped + n)) (sym is) (record {
      rise = grind (arith, rise_join eid_of (pos 0) (pos given) (pos (given + 1)) es e);
      told_rise =
          rise_more told_eid (pos 0) (pos given) (pos (given + 1)) told (more given) k.told_rise;
      kinds = All-append (λ (x : Entity). IsKind x.kind) es (e ∷ []) k.kinds (one_kind kind);
      numbers = let lt = not_most given EID_MAX k.numbers spent in omega (arith, lt);
      counted =
          grind (arith, nat_tests, count_join);
      few =
          few_more (is_dropped e.kind) n (dropped_in es) dropped DROPPED_MAX count k.counted k.few
          full;
      places = let l = length-append es (e ∷ []) in omega (arith, l, place);
    })
  where
    one_kind : IsKind e.kind → All (λ (x : Entity). IsKind x.kind) (e ∷ [])
    one_kind h = grind (arith, nat_tests)

pub kept_set : (es : List Entity) (told : List (ℤ × Spot)) (cap given dropped i : ℕ) (n : ℤ)
    (old new : Entity) → IsKept es told cap given dropped →
    IsPlaced eid_of n i es → old ≡ get_or es i old → new.eid ≡ old.eid → IsKind new.kind →
    is_dropped new.kind ≡ is_dropped old.kind → IsKept (set es i new) told cap given dropped
kept_set es told cap given dropped i n old new k placed is eid kind same =
    grind (arith, common_steps, rise_set, All-set, count_set)

pub kept_less : (es now : List Entity) (told left : List (ℤ × Spot)) (cap given dropped i count : ℕ)
    (n : ℤ) (old : Entity) → IsKept es told cap given dropped →
    IsPlaced eid_of n i es → old ≡ get_or es i old → count ≡ one_if (is_dropped old.kind) →
    now ≡ remove es i → left ≡ without told_eid n told → IsKept now left cap given (dropped - count)
kept_less es now told left cap given dropped i count n old k placed is c e f = record {
  rise = subst (λ (xs : List Entity). Rise eid_of (pos 0) xs (pos given)) (sym rest)
      (rise_filter eid_of _ (pos 0) (pos given) es k.rise);
  told_rise = subst (λ (xs : List (ℤ × Spot)). Rise told_eid (pos 0) xs (pos given)) (sym f)
      (rise_filter told_eid _ (pos 0) (pos given) told k.told_rise);
  kinds = subst (λ (xs : List Entity). AreKinds xs) (sym rest)
      (All-filter _ (λ (x : Entity). IsKind x.kind) es k.kinds);
  numbers = k.numbers;
  counted = let h = count_remove (λ (x : Entity). is_dropped x.kind) es i old placed.within in
      let same : dropped_in now ≡ dropped_in (remove es i) = ap dropped_in e in
      let one : count ≡ one_if (is_dropped (get_or es i old).kind) =
      c ∙ ap (λ (x : Entity). one_if (is_dropped x.kind)) is in
      let g = k.counted in omega (arith, h, same, one, g);
  few = let g = k.few in omega (arith, g);
  places =
      grind (arith, nat_tests, length-remove);
}
  where
    rest : now ≡ without eid_of n es
    rest = grind (arith, nat_tests, without_at)

-- an entity that is kept is of a kind in range
pub kind_at : (es : List Entity) (i : ℕ) (e : Entity) →
    AreKinds es → i < length es → e ≡ get_or es i e → IsKind e.kind
kind_at es i e kinds lt is = subst (λ (x : Entity). IsKind x.kind) (sym is) (kinds i e lt)

-- what a push that does not fail leaves
pub pushed : {X R E : Type 0} {u : R} (xs ys : List X) (x : X) {r : Result R E} →
    ys ≡ (if is_ok r then xs ++ x ∷ [] else xs) → r ≡ Ok u → ys ≡ xs ++ x ∷ []
pushed {X = X} {R = R} {E = E} xs ys x e ok = grind (arith, nat_tests)

-- ---- the state after a change

pub absent_state : (eid : ℤ) (f : Entity → Entity) (state : FolkState) →
    entity_of eid state ≡ None → state ≡ with_entity eid f state
absent_state eid f state none = grind (arith, nat_tests, changed_none)

pub changed_state : (w : FolkValue) (state : FolkState) (high : ℤ) (eid : ℤ)
    (f : Entity → Entity) (i : ℕ) (old new : Entity) →
    state ≡ w.state → Rise eid_of (pos 0) state.entities high →
    IsPlaced eid_of eid i w.state.entities → old ≡ get_or state.entities i old →
    new ≡ f old → record state { entities = set state.entities i new } ≡ with_entity eid f w.state
changed_state w state high eid f i old new e r placed is change =
    grind (arith, nat_tests, changed_placed)

pub removed_state : (w : FolkValue) (state : FolkState) (high : ℤ) (eid : ℤ) (i : ℕ)
    (old : Entity) (now : List Entity) (left : List (ℤ × Spot)) → state ≡ w.state →
    Rise eid_of (pos 0) state.entities high → IsPlaced eid_of eid i w.state.entities →
    now ≡ remove state.entities i → left ≡ without told_eid eid state.told →
    record state { entities = now; told = left } ≡ removed eid w.state
removed_state w state high eid i old now left e r placed is f =
    grind (arith, nat_tests, without_at eid_of eid (pos 0) high state.entities i old r)

-- one changed at its place, by what was seen of it
pub kept_changed : (w : FolkValue) (es : List Entity)
    (told : List (ℤ × Spot)) (cap given dropped i : ℕ) (n : ℤ) (old new : Entity) →
    es ≡ w.state.entities → IsKept es told cap given dropped →
    IsPlaced eid_of n i w.state.entities →
    old ≡ get_or es i old → new.eid ≡ old.eid → (IsKind old.kind → IsKind new.kind) →
    is_dropped new.kind ≡ is_dropped old.kind → IsKept (set es i new) told cap given dropped
kept_changed w es told cap given dropped i n old new e k placed is eid kind same =
    let here = subst (λ (xs : List Entity). IsPlaced eid_of n i xs) (sym e) placed in
    kept_set es told cap given dropped i n old new k here is eid
    (kind (kind_at es i old k.kinds here.within is)) same

pub kept_variant : (w : FolkValue) (es : List Entity) (i : ℕ) (n : ℤ) (old : Entity)
    (kind : EntityKind) → es ≡ w.state.entities → IsPlaced eid_of n i w.state.entities →
    old ≡ get_or es i old → IfSome (entity_of n w.state) (λ e. are_alike e.kind kind ≡ true) →
    is_dropped kind ≡ is_dropped old.kind
kept_variant w es i n old kind e placed is alike = grind (arith, nat_tests)

-- what is counted of one that is there was counted
pub counted_one : (w : FolkValue) (es : List Entity)
    (told : List (ℤ × Spot)) (cap given dropped i count : ℕ) (n : ℤ) (old : Entity) →
    es ≡ w.state.entities → IsKept es told cap given dropped →
    IsPlaced eid_of n i w.state.entities →
    old ≡ get_or es i old → count ≡ one_if (is_dropped old.kind) → count ≤ dropped
counted_one w es told cap given dropped i count n old e k placed is c =
    let here = subst (λ (xs : List Entity). IsPlaced eid_of n i xs) (sym e) placed in
    let h = count_remove (λ (x : Entity). is_dropped x.kind) es i old here.within in
    let one : count ≡ one_if (is_dropped (get_or es i old).kind) =
    c ∙ ap (λ (x : Entity). one_if (is_dropped x.kind)) is in
    let g = k.counted in omega (arith, h, one, g)

pub kept_without : (w : FolkValue) (es now : List Entity)
    (told left : List (ℤ × Spot)) (cap room given dropped i count : ℕ) (n : ℤ) (old : Entity) →
    es ≡ w.state.entities → IsKept es told cap given dropped →
    IsPlaced eid_of n i w.state.entities →
    old ≡ get_or es i old → count ≡ one_if (is_dropped old.kind) → now ≡ remove es i →
    left ≡ without told_eid n told → room ≡ cap → IsKept now left room given (dropped - count)
kept_without w es now told left cap room given dropped i count n old e k placed is c f g same =
    grind (arith, nat_tests, kept_less es now told left cap given dropped i count n old k)

pub kept_forgotten : (es : List Entity) (told left : List (ℤ × Spot)) (cap room given dropped : ℕ)
    (n : ℤ) → IsKept es told cap given dropped →
    left ≡ without told_eid n told → room ≡ cap → IsKept es left room given dropped
kept_forgotten es told left cap room given dropped n k e same =
    grind (arith, nat_tests, rise_filter)

pub forgotten_state : (w : FolkValue) (state : FolkState) (n : ℤ) (left : List (ℤ × Spot)) →
    state ≡ w.state → entity_of n w.state ≡ None →
    left ≡ without told_eid n state.told → record state { told = left } ≡ removed n w.state
forgotten_state w state n left e none f = grind (arith, nat_tests, without_none)

-- ---- several are taken out

-- no more are left than there were
pub count_left : {X : Type 0} (p q : X → Bool) (xs : List X) → length (filter p (filter q xs)) ≤
    length (filter p xs)
count_left p q [] = grind (arith, nat_tests)
count_left p q (x ∷ xs) = grind (arith, nat_tests, count_left p q xs)

pub length_left : {X : Type 0} (q : X → Bool) (xs : List X) → length (filter q xs) ≤ length xs
length_left q [] = grind (arith, nat_tests)
length_left q (x ∷ xs) = grind (arith, nat_tests, length_left q xs)

pub kept_all : (es now : List Entity) (told left : List (ℤ × Spot))
    (cap room given dropped count : ℕ) (eids : List ℤ) → IsKept es told cap given dropped →
    now ≡ without_all eid_of eids es → left ≡ without_all told_eid eids told → room ≡ cap →
    count ≡ dropped_in now → IsKept now left room given count
kept_all es now told left cap room given dropped count eids k e f same c = record {
  rise = subst (λ (xs : List Entity). Rise eid_of (pos 0) xs (pos given)) (sym e)
      (rise_filter eid_of _ (pos 0) (pos given) es k.rise);
  told_rise = subst (λ (xs : List (ℤ × Spot)). Rise told_eid (pos 0) xs (pos given)) (sym f)
      (rise_filter told_eid _ (pos 0) (pos given) told k.told_rise);
  kinds = subst (λ (xs : List Entity). AreKinds xs) (sym e)
      (All-filter _ (λ (x : Entity). IsKind x.kind) es k.kinds);
  numbers = k.numbers;
  counted = c;
  few = let le = count_left (λ (x : Entity). is_dropped x.kind)
      (λ x. not (is_among eids x.eid)) es in
      let now_is = ap dropped_in e in omega (arith, le, now_is, c, k.counted, k.few);
  places = let le = length_left (λ (x : Entity). not (is_among eids x.eid)) es in
      let now_is = ap length e in omega (arith, le, now_is, same, k.places);
}

-- and places are as many at least
pub places_left : (es now : List Entity) (cap room most more : ℕ) (eids : List ℤ) →
    now ≡ without_all eid_of eids es → room ≡ cap → more ≡ most →
    places es cap most ≤ places now room more
places_left es now cap room most more eids e same same' =
    let le = length_left (λ (x : Entity). not (is_among eids x.eid)) es in
    let now_is = ap length e in rw (same, same') (omega (arith, le, now_is))

-- all spots are kept anew
pub kept_settled : (es : List Entity) (told left : List (ℤ × Spot)) (cap room given dropped : ℕ) →
    IsKept es told cap given dropped →
    left ≡ map (λ (e : Entity). (e.eid, e.spot)) es → cap ≤ room → IsKept es left room given dropped
kept_settled es told left cap room given dropped k e le = grind (arith, nat_tests, rise_map)

-- ---- mobs that move

tick_keeps : (plans : List (List Move)) (es : List Entity) (e : Entity) →
    ((after_tick plans es e).eid ≡ e.eid) × ((after_tick plans es e).kind ≡ e.kind)
tick_keeps plans es e = grind (arith, nat_tests)

count_map : (f : Entity → Entity) (es : List Entity) →
    ((e : Entity) → (f e).kind ≡ e.kind) → dropped_in (map f es) ≡ dropped_in es
count_map f [] same = refl
count_map f (e ∷ es) same = grind (arith, nat_tests, count_map f es same)

length_map : (f : Entity → Entity) (es : List Entity) → length (map f es) ≡ length es
length_map f [] = refl
length_map f (e ∷ es) = ap suc (length_map f es)

pub kept_ticked : (plans : List (List Move)) (es now : List Entity)
    (told : List (ℤ × Spot)) (cap given dropped : ℕ) → IsKept es told cap given dropped →
    now ≡ map (after_tick plans es) es → IsKept now told cap given dropped
kept_ticked plans es now told cap given dropped k e =
    subst (λ (xs : List Entity). IsKept xs told cap given dropped) (sym e) (record {
      rise = rise_map eid_of eid_of (after_tick plans es) (pos 0) (pos given) es
          (λ x. (tick_keeps plans es x).0) k.rise;
      told_rise = k.told_rise;
      kinds = All-map (λ (x : Entity). IsKind x.kind) (after_tick plans es) es
          (λ i d lt. subst (λ (kind : EntityKind). IsKind kind)
          (sym (tick_keeps plans es (get_or es i d)).1) (k.kinds i d lt));
      numbers = k.numbers;
      counted = k.counted
          ∙ sym (count_map (after_tick plans es) es (λ x. (tick_keeps plans es x).1));
      few = k.few;
      places =
          grind (arith, nat_tests, length_map);
    })
