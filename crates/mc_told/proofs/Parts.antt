-- Numbers of entities that go, part after part.
use Rattle.std.proofs.Common.{◌≡◌, ℕ, zero, suc, ◌<◌, ◌≤◌, List, [], ◌∷◌, ◌++◌, take, drop, length}
use Rattle.std.proofs.Common.{map, min, refl, ap, ◌∙◌, arith}
use Rattle.std.proofs.lemmas.Bool.Decides.{nat_tests}
use Rattle.std.proofs.lemmas.List.{length-drop, take_min}
use lib.IntN.{ℤ}
use Rattle.mc_packets.specs.declared.down.Down.{Down}
use Rattle.mc_packets.specs.declared.down.Down.TheVariants.{Destroy}
use Rattle.mc_model.specs.declared.seen.TheConstants.{DESTROYED_MAX}
use Rattle.mc_model.specs.Delta.{destroying, parts_of}
use Rattle.mc_sending.specs.Sending.{play_bytes}
use Rattle.mc_sending.proofs.Pieces.{next_piece, play_bytes-append}

-- any two numbers that are at least a list's length give the same parts of it
parts_same : (n m most : ℕ) (eids : List ℤ) → 0 < most → length eids ≤ n → length eids ≤ m →
    parts_of n most eids ≡ parts_of m most eids
parts_same zero zero most eids some le less = refl
parts_same zero (suc m) most [] some le less = refl
parts_same zero (suc m) most (eid ∷ eids) some le less = absurd (omega (arith, le))
parts_same (suc n) zero most [] some le less = refl
parts_same (suc n) zero most (eid ∷ eids) some le less = absurd (omega (arith, less))
parts_same (suc n) (suc m) most [] some le less = refl
parts_same (suc n) (suc m) most (eid ∷ eids) some le less =
    grind (arith, nat_tests, parts_same n m most (drop most (eid ∷ eids)) some, length-drop)

-- a packet about the first part, and packets about what is behind it
parted : (eid : ℤ) (eids : List ℤ) → destroying (eid ∷ eids)
    ≡ Destroy (take DESTROYED_MAX (eid ∷ eids)) ∷ destroying (drop DESTROYED_MAX (eid ∷ eids))
parted eid eids =
    let left = length-drop DESTROYED_MAX (eid ∷ eids) in
    ap (λ (parts : List (List ℤ)).
    Destroy (take DESTROYED_MAX (eid ∷ eids)) ∷ map Destroy parts)
    (parts_same (length eids) (length (drop DESTROYED_MAX (eid ∷ eids))) DESTROYED_MAX
    (drop DESTROYED_MAX (eid ∷ eids)) (omega arith) (omega (arith, left)) (omega arith))

-- what is behind a list's first numbers, of which it may have fewer
drop_min : (n : ℕ) (eids : List ℤ) → drop (min n (length eids)) eids ≡ drop n eids
drop_min zero eids =
    let none : min 0 (length eids) ≡ 0 = omega arith in ap (λ (k : ℕ). drop k eids) none
drop_min (suc n) [] =
    let none : min (suc n) 0 ≡ 0 = omega arith in ap (λ (k : ℕ). drop {A = ℤ} k []) none
drop_min (suc n) (eid ∷ eids) =
    let one : min (suc n) (suc (length eids)) ≡ suc (min n (length eids)) = omega arith in
    ap (λ (k : ℕ). drop k (eid ∷ eids)) one ∙ drop_min n eids

-- the packet about the next part is appended, and those about what is left
pub part_put : (n : ℕ) (left part rest : List ℤ) (before after total : List ℕ) → 0 < length left →
    n ≡ min DESTROYED_MAX (length left) → part ≡ take n left → rest ≡ drop n left →
    after ≡ before ++ play_bytes (Destroy part ∷ []) →
    before ++ play_bytes (destroying left) ≡ total → after ++ play_bytes (destroying rest) ≡ total
part_put n [] part rest before after total some few front back put all =
    absurd (omega (arith, some))
part_put n (eid ∷ eids) part rest before after total some few front back put all =
    let left = eid ∷ eids in
    let first : List Down = Destroy (take DESTROYED_MAX left) ∷ [] in
    let behind = destroying (drop DESTROYED_MAX left) in
    let is_part : part ≡ take DESTROYED_MAX left =
    front ∙ ap (λ (k : ℕ). take k left) few ∙ take_min DESTROYED_MAX left in
    let is_rest : rest ≡ drop DESTROYED_MAX left =
    back ∙ ap (λ (k : ℕ). drop k left) few ∙ drop_min DESTROYED_MAX left in
    ap (λ (eids : List ℤ). after ++ play_bytes (destroying eids)) is_rest
    ∙ next_piece before after total (play_bytes first) (play_bytes behind)
    (play_bytes (destroying left))
    (ap play_bytes (parted eid eids) ∙ play_bytes-append first behind)
    all (put ∙ ap (λ (eids : List ℤ). before ++ play_bytes (Destroy eids ∷ [])) is_part)
