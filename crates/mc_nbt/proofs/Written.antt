-- What a writing loop has written, and what is left for it.
use Rattle.std.proofs.Common.{◌≡◌, ℕ, ℤ, ◌+◌, ◌<◌, List, [], ◌∷◌, ◌++◌, length, get_or, drop, take}
use Rattle.std.proofs.Common.{map, ap, sym, ◌∙◌, append_assoc, add-one}
use Rattle.std.specs.Prelude.{FitsSigned}
use Rattle.std.specs.Int.{Width, w8, w16, w32}
use Rattle.std.proofs.Math.Seq.{drop-cons, take-append_seam}
use Rattle.mc_bytes.specs.NumberBytes.{number_spelling}
use Rattle.mc_nbt.specs.Tree.{Tree, list, kind_of, trees_of, members_of}
use Rattle.mc_nbt.specs.Nbt.{signed_spelling, run_spelling, ints_spelling, payload, trees_payload}
use Rattle.mc_nbt.specs.Nbt.{members_payload, AllFitSigned}
use Rattle.mc_nbt.specs.NbtLaws.{count_of-trees_of}

pub AllFitSigned-push : (w : Width) (zs : List ℤ) (z : ℤ) → AllFitSigned w zs → FitsSigned w z →
    AllFitSigned w (zs ++ z ∷ [])
AllFitSigned-push w [] z h fits = (fits, tt)
AllFitSigned-push w (y ∷ zs) z h fits = (h.0, AllFitSigned-push w zs z h.1 fits)

next_drop : {X : Type 0} (xs : List X) (i : ℕ) (d : X) → i < length xs → drop i xs ≡ get_or xs i d ∷
    drop (i + 1) xs
next_drop xs i d lt = rw add-one (drop-cons xs i d lt)

-- the next part is written: what was written and what is left are together what they were
pub next_written : (before now part left rest total : List ℕ) → now ≡ before ++ part →
    left ≡ part ++ rest → before ++ left ≡ total → now ++ rest ≡ total
next_written before now part left rest total e f h =
    ap (λ (t : List ℕ). t ++ rest) e ∙ append_assoc before part rest ∙ ap (λ (t : List ℕ). before ++
    t) (sym f) ∙ h

pub ints_spelling-drop : (zs : List ℤ) (i : ℕ) (d : ℤ) → i < length zs → ints_spelling (drop i zs) ≡
    signed_spelling w32 (get_or zs i d) ++ ints_spelling (drop (i + 1) zs)
ints_spelling-drop zs i d lt = ap ints_spelling (next_drop zs i d lt)

pub trees_payload-drop : {X : Type 0} (f : X → Tree) (xs : List X) (i : ℕ) (d : X) → i < length xs →
    trees_payload (trees_of (map f (drop i xs))) ≡ payload (f (get_or xs i d)) ++
    trees_payload (trees_of (map f (drop (i + 1) xs)))
trees_payload-drop {X} f xs i d lt = ap (λ (ys : List X). trees_payload (trees_of (map f ys)))
    (next_drop xs i d lt)

-- the bytes of an entry
abbrev pub entry_payload : List ℕ × Tree → List ℕ
entry_payload m = number_spelling w8 (kind_of m.1) ++ (run_spelling w16 m.0 ++ payload m.1)

regroup : (a b c d : List ℕ) → a ++ (b ++ (c ++ d)) ≡ (a ++ (b ++ c)) ++ d
regroup a b c d = ap (λ (t : List ℕ). a ++ t) (sym (append_assoc b c d)) ∙
    sym (append_assoc a (b ++ c) d)

pub members_payload-drop : {X : Type 0} (f : X → List ℕ × Tree) (xs : List X) (i : ℕ) (d : X) →
    i < length xs → members_payload (members_of (map f (drop i xs))) ≡
    entry_payload (f (get_or xs i d)) ++ members_payload (members_of (map f (drop (i + 1) xs)))
members_payload-drop {X} f xs i d lt =
    let m = f (get_or xs i d) in
    ap (λ (ys : List X). members_payload (members_of (map f ys))) (next_drop xs i d lt)
    ∙ regroup (number_spelling w8 (kind_of m.1)) (run_spelling w16 m.0) (payload m.1)
    (members_payload (members_of (map f (drop (i + 1) xs))))

-- the tag byte and the number of a list are written
pub list_begins : (out mid now : List ℕ) (kind n : ℕ) (ts : List Tree) →
    mid ≡ out ++ number_spelling w8 kind → now ≡ mid ++ number_spelling w32 n → n ≡ length ts
    → (now ++ trees_payload (trees_of ts) ≡ out ++ payload (list kind (trees_of ts))) ×
    (take (length out) now ≡ out)
list_begins out mid now kind n ts e f h =
    let both : now ≡ out ++ (number_spelling w8 kind ++ number_spelling w32 n) =
    f ∙ ap (λ (t : List ℕ). t ++ number_spelling w32 n) e ∙
    append_assoc out (number_spelling w8 kind) (number_spelling w32 n) in (
      rw (both, count_of-trees_of ts, ← h) (simp append_assoc),
      ap (take (length out)) both ∙
          take-append_seam out (number_spelling w8 kind ++ number_spelling w32 n),
    )
