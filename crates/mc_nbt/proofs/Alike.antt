-- Two lists whose items are seen alike at each place.
use Rattle.std.proofs.Common.{◌≡◌, ℕ, zero, suc, ◌+◌, ◌<◌, ◌≤◌, List, [], ◌∷◌, length, get_or, take}
use Rattle.std.proofs.Common.{map, ap, sym, ◌∙◌, add-one, arith}
use Rattle.std.proofs.lemmas.List.{take_all, length-map}
use Rattle.mc_nbt.specs.Tree.{Tree, trees_of, trees_back, members_of, members_back}
use Rattle.mc_nbt.specs.TreeLaws.{trees_back-trees_of, members_back-members_of}

suc_same : {X Y : Type 0} (f : X → Y) (xs ys : List X) (i : ℕ) (d e : X) → i < length xs →
    i < length ys → take i (map f xs) ≡ take i (map f ys) → f (get_or xs i d) ≡ f (get_or ys i e) →
    take (suc i) (map f xs) ≡ take (suc i) (map f ys)
suc_same f [] ys i d e p q h g = absurd (omega arith)
suc_same f (x ∷ xs) [] i d e p q h g = absurd (omega arith)
suc_same f (x ∷ xs) (y ∷ ys) zero d e p q h g = ap (λ z. z ∷ []) g
suc_same {X} {Y} f (x ∷ xs) (y ∷ ys) (suc i) d e p q h g =
    let first : f x ≡ f y = cc in
    let others : take i (map f xs) ≡ take i (map f ys) = cc in
    let more : take (suc i) (map f xs) ≡ take (suc i) (map f ys) =
    suc_same f xs ys i d e (omega arith) (omega arith) others g in
    cc

pub same_next : {X Y : Type 0} (f : X → Y) (xs ys : List X) (i : ℕ) (d e : X) → i < length xs →
    i < length ys → take i (map f xs) ≡ take i (map f ys) → f (get_or xs i d) ≡ f (get_or ys i e) →
    take (i + 1) (map f xs) ≡ take (i + 1) (map f ys)
same_next f xs ys i d e p q h g = rw add-one (suc_same f xs ys i d e p q h g)

pub same_all : {X Y : Type 0} (f : X → Y) (xs ys : List X) (n : ℕ) → length xs ≡ length ys →
    length xs ≤ n → take n (map f xs) ≡ take n (map f ys) → map f xs ≡ map f ys
same_all f xs ys n e le h =
    let a : take n (map f xs) ≡ map f xs = take_all n (map f xs) (omega (arith, length-map xs f)) in
    let b : take n (map f ys) ≡ map f ys = take_all n (map f ys) (omega (arith, length-map ys f)) in
    sym a ∙ h ∙ b

pub same_at : {X Y : Type 0} (f : X → Y) (xs ys : List X) (i : ℕ) (d e : X) → i < length xs →
    i < length ys → map f xs ≡ map f ys → f (get_or xs i d) ≡ f (get_or ys i e)
same_at f [] ys i d e p q h = absurd (omega arith)
same_at f (x ∷ xs) [] i d e p q h = absurd (omega arith)
same_at f (x ∷ xs) (y ∷ ys) zero d e p q h = cc
same_at f (x ∷ xs) (y ∷ ys) (suc i) d e p q h =
    let others : map f xs ≡ map f ys = cc in
    same_at f xs ys i d e (omega arith) (omega arith) others

pub same_length : {X Y : Type 0} (f : X → Y) (xs ys : List X) → map f xs ≡ map f ys →
    length xs ≡ length ys
same_length f xs ys h = sym (length-map xs f) ∙ ap length h ∙ length-map ys f

pub trees_of-same : (xs ys : List Tree) → trees_of xs ≡ trees_of ys → xs ≡ ys
trees_of-same xs ys h = sym (trees_back-trees_of xs) ∙ ap trees_back h ∙ trees_back-trees_of ys

pub members_of-same : (xs ys : List (List ℕ × Tree)) → members_of xs ≡ members_of ys → xs ≡ ys
members_of-same xs ys h = sym (members_back-members_of xs) ∙ ap members_back h ∙
    members_back-members_of ys
