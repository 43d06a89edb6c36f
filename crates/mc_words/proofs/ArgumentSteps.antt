-- Reading the arguments of the command line one by one.
use Rattle.std.proofs.Common.{◌≡◌, ℕ, ◌+◌, ◌<◌, ◌≤◌, Bool, true, false, List, [], ◌∷◌, length}
use Rattle.std.proofs.Common.{get_or, take, drop, Option, Some, None, refl, sym, ap, ◌∙◌, arith}
use Rattle.std.proofs.Common.{add-one, drop-cons}
use Rattle.std.specs.Prelude.{map, position, is_some, option_map}
use Rattle.std.specs.List.{position_or_len, list_any}
use Rattle.std.specs.Str.{bytes_eq}
use Rattle.std.proofs.lemmas.List.{drop_all, take_all}
use Rattle.std.proofs.lemmas.Bool.Decides.{nat_tests}
use Rattle.mc_words.specs.Arguments.{is_equals, name_of, value_of, value_in, are_options}

-- ---- a name and a value

place_is : (p : ℕ → Bool) (argument : List ℕ) (end : ℕ) → position p argument ≡ Some end →
    position_or_len p argument ≡ end
place_is p argument end e = grind (arith, nat_tests)

no_place : (p : ℕ → Bool) (argument : List ℕ) → position p argument ≡ None →
    length argument ≤ position_or_len p argument
no_place p argument e = grind (arith, nat_tests)

pub name-some : (argument : List ℕ) (end : ℕ) → position is_equals argument ≡ Some end →
    take end argument ≡ name_of argument
unfolding name_of
name-some argument end e = ap (λ (n : ℕ). take n argument) (sym (place_is is_equals argument end e))

pub value-some : (argument : List ℕ) (end : ℕ) → position is_equals argument ≡ Some end →
    drop (end + 1) argument ≡ value_of argument
unfolding value_of
value-some argument end e =
    ap (λ (n : ℕ). drop (n + 1) argument) (sym (place_is is_equals argument end e))

pub name-none : (argument : List ℕ) → position is_equals argument ≡ None →
    argument ≡ name_of argument
unfolding name_of
name-none argument e =
    sym (take_all (position_or_len is_equals argument) argument (no_place is_equals argument e))

pub value-none : (argument : List ℕ) → position is_equals argument ≡ None →
    drop (length argument) argument ≡ value_of argument
unfolding value_of
value-none argument e = grind (arith, nat_tests, no_place, drop_all)

-- ---- lists of arguments, each seen as its bytes

-- the first argument that is left, and those behind it
left_next : {X : Type 0} (bytes : X → List ℕ) (arguments : List X) (i : ℕ) (default : X)
    (argument : List ℕ) → i < length arguments → argument ≡ bytes (get_or arguments i default) →
    map bytes (drop i arguments) ≡ argument ∷ map bytes (drop (i + 1) arguments)
left_next bytes arguments i default argument less is =
    rw (add-one, drop-cons arguments i default, is) refl

-- a name is that of the next argument, or that of a later one, or of none
pub value_here : {X : Type 0} (bytes : X → List ℕ) (name : List ℕ)
    (arguments : List X) (i : ℕ) (default : X) (argument : List ℕ) → i < length arguments →
    argument ≡ bytes (get_or arguments i default) → bytes_eq (name_of argument) name ≡ true →
    value_in name (map bytes (drop i arguments)) ≡ Some (value_of argument)
value_here bytes name arguments i default argument less is same =
    rw (left_next bytes arguments i default argument less is, same) refl

pub value_later : {X : Type 0} (bytes : X → List ℕ) (name : List ℕ)
    (arguments : List X) (i : ℕ) (default : X) (argument : List ℕ) → i < length arguments →
    argument ≡ bytes (get_or arguments i default) →
    bytes_eq (name_of argument) name ≡ false → value_in name (map bytes (drop i arguments))
    ≡ value_in name (map bytes (drop (i + 1) arguments))
value_later bytes name arguments i default argument less is other =
    rw (left_next bytes arguments i default argument less is, other) refl

pub value_nowhere : {X : Type 0} (bytes : X → List ℕ) (name : List ℕ) (arguments : List X) (i : ℕ) →
    length arguments ≤ i → value_in name (map bytes (drop i arguments)) ≡ None
value_nowhere bytes name arguments i past = rw (drop_all i arguments past) refl

-- a test holds of the next one, or of a later one, or of none
pub any_here : {X : Type 0} (bytes : X → List ℕ) (test : List ℕ → Bool) (arguments : List X)
    (i : ℕ) (default : X) (argument : List ℕ) →
    i < length arguments → argument ≡ bytes (get_or arguments i default) → test argument ≡ true →
    list_any test (map bytes (drop i arguments)) ≡ true
any_here bytes test arguments i default argument less is holds =
    rw (left_next bytes arguments i default argument less is, holds) refl

pub any_later : {X : Type 0} (bytes : X → List ℕ)
    (test : List ℕ → Bool) (arguments : List X) (i : ℕ) (default : X) (argument : List ℕ) →
    i < length arguments → argument ≡ bytes (get_or arguments i default) →
    test argument ≡ false → list_any test (map bytes (drop i arguments))
    ≡ list_any test (map bytes (drop (i + 1) arguments))
any_later bytes test arguments i default argument less is fails =
    rw (left_next bytes arguments i default argument less is, fails) refl

pub any_nowhere : {X : Type 0} (bytes : X → List ℕ) (test : List ℕ → Bool) (arguments : List X)
    (i : ℕ) → length arguments ≤ i → list_any test (map bytes (drop i arguments)) ≡ false
any_nowhere bytes test arguments i past = rw (drop_all i arguments past) refl

-- the name of the next argument is not known, or that of a later one, or is fine
pub options_unknown : {X : Type 0} (bytes : X → List ℕ)
    (names : List (List ℕ)) (arguments : List X) (i : ℕ) (default : X) (argument : List ℕ) →
    i < length arguments → argument ≡ bytes (get_or arguments i default) →
    list_any (bytes_eq (name_of argument)) names ≡ false →
    are_options names (map bytes (drop i arguments)) ≡ false
options_unknown bytes names arguments i default argument less is known =
    rw (left_next bytes arguments i default argument less is, known) refl

pub options_twice : {X : Type 0} (bytes : X → List ℕ) (names : List (List ℕ))
    (arguments : List X) (i : ℕ) (default : X) (argument : List ℕ) → i < length arguments →
    argument ≡ bytes (get_or arguments i default) →
    list_any (bytes_eq (name_of argument)) names ≡ true →
    is_some (value_in (name_of argument) (map bytes (drop (i + 1) arguments))) ≡ true →
    are_options names (map bytes (drop i arguments)) ≡ false
options_twice bytes names arguments i default argument less is known twice =
    rw (left_next bytes arguments i default argument less is, known, twice) refl

pub options_later : {X : Type 0} (bytes : X → List ℕ) (names : List (List ℕ))
    (arguments : List X) (i : ℕ) (default : X) (argument : List ℕ) → i < length arguments →
    argument ≡ bytes (get_or arguments i default) →
    list_any (bytes_eq (name_of argument)) names ≡ true →
    is_some (value_in (name_of argument) (map bytes (drop (i + 1) arguments))) ≡ false →
    are_options names (map bytes (drop i arguments))
    ≡ are_options names (map bytes (drop (i + 1) arguments))
options_later bytes names arguments i default argument less is known once =
    rw (left_next bytes arguments i default argument less is, known, once) refl

pub options_done : {X : Type 0} (bytes : X → List ℕ) (names : List (List ℕ)) (arguments : List X)
    (i : ℕ) → length arguments ≤ i → are_options names (map bytes (drop i arguments)) ≡ true
options_done bytes names arguments i past = rw (drop_all i arguments past) refl

-- whether there is a value is seen through what is made of it
pub some_seen : {X : Type 0} (bytes : X → List ℕ) (found : Option X) →
    is_some (option_map bytes found) ≡ is_some found
some_seen bytes None = refl
some_seen bytes (Some x) = refl
