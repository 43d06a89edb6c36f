use Rattle.std.proofs.Common.{ℕ, Option, None, Some, List, [], ◌++◌, refl, sym, append_assoc}
use Rattle.std.proofs.Common.{append-nil}
use Rattle.mc_wire.specs.Stream.{Consumes, Grows}

-- How reads and writes compose over several calls.

pub Consumes-refl : (a : Option (List ℕ)) → Consumes a a []
Consumes-refl None = tt
Consumes-refl (Some xs) = refl

pub Consumes-trans : (a b c : Option (List ℕ)) (first second : List ℕ)
    → Consumes a b first
    → Consumes b c second
    → Consumes a c (first ++ second)
Consumes-trans None None None first second one two = tt
Consumes-trans None None (Some zs) first second one two = two
Consumes-trans None (Some ys) c first second one two = absurd one
Consumes-trans (Some xs) None c first second one two = absurd one
Consumes-trans (Some xs) (Some ys) None first second one two = two
Consumes-trans (Some xs) (Some ys) (Some zs) first second one two =
    rw (one, two) (sym (append_assoc first second zs))

pub Grows-refl : (a : Option (List ℕ)) → Grows a a []
Grows-refl None = tt
Grows-refl (Some xs) = sym (append-nil _)

pub Grows-trans : (a b c : Option (List ℕ)) (first second : List ℕ)
    → Grows a b first
    → Grows b c second
    → Grows a c (first ++ second)
Grows-trans a b None first second one two = tt
Grows-trans a None (Some zs) first second one two = absurd two
Grows-trans None (Some ys) (Some zs) first second one two = absurd one
Grows-trans (Some xs) (Some ys) (Some zs) first second one two =
    rw (two, one) (append_assoc xs first second)
