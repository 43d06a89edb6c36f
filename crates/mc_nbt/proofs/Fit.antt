-- What all items of a list or a compound keep, one after another.
use Rattle.std.proofs.Common.{◌≡◌, ℕ, zero, suc, ◌+◌, ◌<◌, ◌≤◌, ◌^◌, List, [], ◌∷◌, length, get_or}
use Rattle.std.proofs.Common.{drop, map, add-one, arith, sym, ap, ◌∙◌}
use Rattle.std.proofs.lemmas.List.{length-map}
use Rattle.mc_nbt.specs.Tree.{Tree, kind_of, depth, trees_of, trees_depth, members_of}
use Rattle.mc_nbt.specs.Tree.{members_depth}
use Rattle.mc_nbt.specs.Nbt.{Fits, TreesFit, MembersFit, count_of}
use Rattle.mc_nbt.specs.NbtLaws.{count_of-trees_of}

-- an item, and the items
abbrev pub ItemFits : ℕ → ℕ → Tree → Type 0
ItemFits own room t = (kind_of t ≡ own) × (Fits t × (depth t ≤ room))

abbrev pub ItemsFit : ℕ → ℕ → List Tree → Type 0
ItemsFit own room ts = TreesFit own (trees_of ts) × (trees_depth (trees_of ts) ≤ room)

abbrev pub EntryFits : ℕ → List ℕ × Tree → Type 0
EntryFits room m = (length m.0 < 2 ^ 16) × (Fits m.1 × (depth m.1 ≤ room))

abbrev pub EntriesFit : ℕ → List (List ℕ × Tree) → Type 0
EntriesFit room ms = MembersFit (members_of ms) × (members_depth (members_of ms) ≤ room)

suc_item : {X : Type 0} (f : X → Tree) (own room : ℕ) (xs : List X) (i : ℕ) (d : X) →
    i < length xs → ItemFits own room (f (get_or xs i d)) →
    ItemsFit own room (map f (drop (suc i) xs)) → ItemsFit own room (map f (drop i xs))
suc_item f own room [] i d lt h rest = absurd (omega arith)
suc_item f own room (x ∷ xs) zero d lt h rest = ((h.0, h.1.0, rest.0), omega (arith, h.1.1, rest.1))
suc_item f own room (x ∷ xs) (suc i) d lt h rest = suc_item f own room xs i d (omega arith) h rest

pub item_before : {X : Type 0} (f : X → Tree) (own room : ℕ) (xs : List X) (i : ℕ) (d : X) →
    i < length xs → ItemFits own room (f (get_or xs i d)) →
    ItemsFit own room (map f (drop (i + 1) xs)) → ItemsFit own room (map f (drop i xs))
item_before f own room xs i d lt h rest = suc_item f own room xs i d lt h (rw add-one at rest)

pub item_at : {X : Type 0} (f : X → Tree) (own room : ℕ) (xs : List X) (i : ℕ) (d : X) →
    i < length xs → ItemsFit own room (map f xs) → ItemFits own room (f (get_or xs i d))
item_at f own room [] i d lt h = absurd (omega arith)
item_at f own room (x ∷ xs) zero d lt h = (h.0.0, (h.0.1, omega (arith, h.1)))
item_at f own room (x ∷ xs) (suc i) d lt h = item_at f own room xs i d (omega arith) (
  h.0.2,
  omega (arith, h.1),
)

suc_entry : {X : Type 0} (f : X → List ℕ × Tree) (room : ℕ) (xs : List X) (i : ℕ) (d : X) →
    i < length xs → EntryFits room (f (get_or xs i d)) → EntriesFit room (map f (drop (suc i) xs)) →
    EntriesFit room (map f (drop i xs))
suc_entry f room [] i d lt h rest = absurd (omega arith)
suc_entry f room (x ∷ xs) zero d lt h rest = ((h.0, h.1.0, rest.0), omega (arith, h.1.1, rest.1))
suc_entry f room (x ∷ xs) (suc i) d lt h rest = suc_entry f room xs i d (omega arith) h rest

pub entry_before : {X : Type 0} (f : X → List ℕ × Tree) (room : ℕ) (xs : List X) (i : ℕ) (d : X) →
    i < length xs → EntryFits room (f (get_or xs i d)) → EntriesFit room (map f (drop (i + 1) xs)) →
    EntriesFit room (map f (drop i xs))
entry_before f room xs i d lt h rest = suc_entry f room xs i d lt h (rw add-one at rest)

pub entry_at : {X : Type 0} (f : X → List ℕ × Tree) (room : ℕ) (xs : List X) (i : ℕ) (d : X) →
    i < length xs → EntriesFit room (map f xs) → EntryFits room (f (get_or xs i d))
entry_at f room [] i d lt h = absurd (omega arith)
entry_at f room (x ∷ xs) zero d lt h = (h.0.0, (h.0.1, omega (arith, h.1)))
entry_at f room (x ∷ xs) (suc i) d lt h = entry_at f room xs i d (omega arith) (
  h.0.2,
  omega (arith, h.1),
)

-- nothing is left
pub no_item : {X : Type 0} (f : X → Tree) (own room : ℕ) (xs : List X) (i : ℕ) → length xs ≤ i →
    ItemsFit own room (map f (drop i xs))
no_item f own room [] zero le = (tt, omega arith)
no_item f own room [] (suc i) le = (tt, omega arith)
no_item f own room (x ∷ xs) zero le = absurd (omega arith)
no_item f own room (x ∷ xs) (suc i) le = no_item f own room xs i (omega arith)

pub no_entry : {X : Type 0} (f : X → List ℕ × Tree) (room : ℕ) (xs : List X) (i : ℕ) →
    length xs ≤ i → EntriesFit room (map f (drop i xs))
no_entry f room [] zero le = (tt, omega arith)
no_entry f room [] (suc i) le = (tt, omega arith)
no_entry f room (x ∷ xs) zero le = absurd (omega arith)
no_entry f room (x ∷ xs) (suc i) le = no_entry f room xs i (omega arith)

-- how many items a list has
pub items_length : {X : Type 0} (f : X → Tree) (xs : List X) (ts : List Tree) → map f xs ≡ ts →
    length xs ≡ count_of (trees_of ts)
items_length f xs ts e = sym (length-map xs f) ∙ ap length e ∙ sym (count_of-trees_of ts)
