-- What is spelled is read: the value, and what follows it.
use Rattle.std.specs.Prelude.{◌≡◌, ℕ, ℤ, zero, suc, ◌<◌, ◌≤◌, ◌^◌, ◌==◌, true, false, nat_lt, List}
use Rattle.std.specs.Prelude.{[], ◌∷◌, ◌++◌, length, Ok, FitsSigned, refl}
use Rattle.std.specs.Int.{Width, w8, w16, w32, w64}
use mir.Val.{bits}
use Rattle.std.proofs.Common.{ap, ◌∙◌, append_assoc, arith}
use Rattle.std.proofs.Math.Facts.{Fits-of_z}
use Rattle.std.proofs.lemmas.Bool.{le-ltb, lt-ltb, le-leb, ne_eqb}
use Rattle.std.proofs.lemmas.List.{take_at, drop_at, length-append}
use Rattle.mc_bytes.specs.declared.fault.Kind.TheVariants.{BadTag, BadLength}
use Rattle.mc_bytes.specs.Reading.{Field}
use Rattle.mc_bytes.specs.Format.{Anything, IsOnly}
use Rattle.mc_bytes.specs.Combine.{tested}
use Rattle.mc_bytes.specs.NumberLaws.{IsWide, wide_8, wide_16, wide_32, wide_64, number_only}
use Rattle.mc_bytes.specs.Numbers.{number}
use Rattle.mc_bytes.specs.NumberBytes.{number_read, number_spelling}
use Rattle.mc_bytes.specs.Signed.{signed}
use Rattle.mc_bytes.specs.Times.{times_at, until_at}
use Rattle.mc_nbt.specs.Tree.{Tree, byte, short, int, long, float, double, byte_array, text, list}
use Rattle.mc_nbt.specs.Tree.{compound, int_array, Trees, no_trees, one_tree, trees_back, Members}
use Rattle.mc_nbt.specs.Tree.{no_members, one_member, members_of, members_back, kind_of, depth}
use Rattle.mc_nbt.specs.Tree.{trees_depth, members_depth}
use Rattle.mc_nbt.specs.TreeLaws.{trees_of-trees_back, members_back-members_of}
use Rattle.mc_nbt.specs.TreeLaws.{members_of-members_back}
use Rattle.mc_nbt.specs.Nbt.{signed_spelling, run_spelling, ints_spelling, count_of, payload}
use Rattle.mc_nbt.specs.Nbt.{trees_payload, members_payload, AllFitSigned, Fits, TreesFit}
use Rattle.mc_nbt.specs.Nbt.{MembersFit, Spells, SpellsNbt}
use Rattle.mc_nbt.specs.NbtReading.{signed_at, run_at, is_kind, kind_at, is_count_of, count_at}
use Rattle.mc_nbt.specs.NbtReading.{name_at, bytes_at, ints_at, leaf_at, list_at, named_at}
use Rattle.mc_nbt.specs.NbtReading.{member_at, members_at, compound_at, payload_at, value_at}
use Rattle.mc_nbt.specs.NbtReading.{is_compound, root_at, nbt_at}

-- ---- what values are made of

number_again : (w : Width) → IsWide w → (n : ℕ) (rest : List ℕ) → n < 2 ^ bits w
    → number_read w (number_spelling w n ++ rest) ≡ Ok (n, rest)
number_again w wide n rest lt =
    number_only w wide Anything n (number_spelling w n) rest tt (lt, refl)

signed_again : (w : Width) → IsWide w → (z : ℤ) (rest : List ℕ) → FitsSigned w z
    → signed_at w (signed_spelling w z ++ rest) ≡ Ok (z, rest)
unfolding signed_at
signed_again w wide z rest fits =
    (signed {Rest = Anything} w wide).only z (signed_spelling w z) rest tt (
      fits,
      ((Fits-of_z fits).fits, refl),
    )

kind_again : (kind : ℕ) (rest : List ℕ) → kind ≤ 11
    → kind_at (number_spelling w8 kind ++ rest) ≡ Ok (kind, rest)
unfolding kind_at
kind_again kind rest le =
    (tested {Rest = Anything} (number {Rest = Anything} w8 wide_8) is_kind BadTag).only kind
    (number_spelling w8 kind) rest tt ((omega arith, refl), le-leb _ _ le)

count_again : (kind n : ℕ) (rest : List ℕ) → n < 2 ^ 31 → is_count_of kind n ≡ true
    → count_at kind (number_spelling w32 n ++ rest) ≡ Ok (n, rest)
unfolding count_at
count_again kind n rest lt e =
    (tested {Rest = Anything} (number {Rest = Anything} w32 wide_32) (is_count_of kind)
    BadLength).only n (number_spelling w32 n) rest tt ((omega arith, refl), e)

run_again : (count : List ℕ → Field ℕ) (w : Width) (bytes rest : List ℕ)
    → count (number_spelling w (length bytes) ++ (bytes ++ rest)) ≡ Ok (length bytes, bytes ++ rest)
    → run_at count (run_spelling w bytes ++ rest) ≡ Ok (bytes, rest)
unfolding run_at
run_again count w bytes rest h =
    let long : nat_lt (length (bytes ++ rest)) (length bytes) ≡ false =
    le-ltb _ _ (omega (arith, length-append bytes rest)) in
    ap (run_at count) (append_assoc (number_spelling w (length bytes)) bytes rest) ∙
    rw (h, long, take_at bytes rest (length bytes) refl, drop_at bytes rest (length bytes) refl)
    refl

name_again : (bytes rest : List ℕ) → length bytes < 2 ^ 16
    → name_at (run_spelling w16 bytes ++ rest) ≡ Ok (bytes, rest)
unfolding name_at
name_again bytes rest lt =
    run_again (number_read w16) w16 bytes rest (number_again w16 wide_16 (length bytes) (bytes ++
    rest) lt)

bytes_again : (bytes rest : List ℕ) → length bytes < 2 ^ 31
    → bytes_at (run_spelling w32 bytes ++ rest) ≡ Ok (bytes, rest)
unfolding bytes_at
bytes_again bytes rest lt =
    run_again (count_at 7) w32 bytes rest (count_again 7 (length bytes) (bytes ++ rest) lt
    (lt-ltb _ _ lt))

ints_times : (zs : List ℤ) (rest : List ℕ) → AllFitSigned w32 zs
    → times_at (signed_at w32) (length zs) (ints_spelling zs ++ rest) ≡ Ok (zs, rest)
unfolding times_at
ints_times [] rest fits = refl
ints_times (z ∷ zs) rest fits =
    ap (times_at (signed_at w32) (suc (length zs))) (append_assoc (signed_spelling w32 z)
    (ints_spelling zs) rest) ∙ rw (
      signed_again w32 wide_32 z (ints_spelling zs ++ rest) fits.0,
      ints_times zs rest fits.1,
    ) refl

ints_again : (zs : List ℤ) (rest : List ℕ) → length zs < 2 ^ 31 → AllFitSigned w32 zs
    → ints_at ((number_spelling w32 (length zs) ++ ints_spelling zs) ++ rest) ≡ Ok (zs, rest)
unfolding ints_at
ints_again zs rest lt fits =
    ap ints_at (append_assoc (number_spelling w32 (length zs)) (ints_spelling zs) rest) ∙
    rw (
      count_again 11 (length zs) (ints_spelling zs ++ rest) lt (lt-ltb _ _ lt),
      ints_times zs rest fits,
    ) refl

-- ---- the kinds of values

kind_some : (t : Tree) → kind_of t ≡ 0 → ⊥
kind_some (byte z) e = absurd (omega arith)
kind_some (short z) e = absurd (omega arith)
kind_some (int z) e = absurd (omega arith)
kind_some (long z) e = absurd (omega arith)
kind_some (float n) e = absurd (omega arith)
kind_some (double n) e = absurd (omega arith)
kind_some (byte_array bytes) e = absurd (omega arith)
kind_some (text bytes) e = absurd (omega arith)
kind_some (list kind ts) e = absurd (omega arith)
kind_some (compound ms) e = absurd (omega arith)
kind_some (int_array zs) e = absurd (omega arith)

pub kind_below : (t : Tree) → kind_of t ≤ 11
kind_below (byte z) = omega arith
kind_below (short z) = omega arith
kind_below (int z) = omega arith
kind_below (long z) = omega arith
kind_below (float n) = omega arith
kind_below (double n) = omega arith
kind_below (byte_array bytes) = omega arith
kind_below (text bytes) = omega arith
kind_below (list kind ts) = omega arith
kind_below (compound ms) = omega arith
kind_below (int_array zs) = omega arith

kind_test : (t : Tree) → (kind_of t == 0) ≡ false
kind_test t = ne_eqb (kind_of t) 0 (kind_some t)

-- the number of items of a list of its own kind
is_count : (kind : ℕ) (ts : Trees) → TreesFit kind ts → count_of ts < 2 ^ 31
    → is_count_of kind (count_of ts) ≡ true
is_count zero no_trees fits lt = refl
is_count zero (one_tree t ts) fits lt = absurd (kind_some t fits.0)
is_count (suc kind) ts fits lt =
    let some : (suc kind == 0) ≡ false = ne_eqb (suc kind) 0 (λ e. absurd (omega arith)) in
    rw some (lt-ltb _ _ lt)

-- a kind that is no list and no compound
value_leaf : (room kind : ℕ) (bytes : List ℕ) → (kind == 9) ≡ false → (kind == 10) ≡ false
    → value_at room kind bytes ≡ leaf_at kind bytes
unfolding value_at payload_at
value_leaf zero kind bytes p q = rw (p, q) refl
value_leaf (suc room) kind bytes p q = rw (p, q) refl

-- how many entries a compound has
abbrev entries_of : Members → ℕ
entries_of no_members = 0
entries_of (one_member name t ms) = suc (entries_of ms)

spelled_byte : (n : ℕ) → length (number_spelling w8 n) ≡ 1
unfolding number_spelling
spelled_byte n = wide_8.len n

entries_few : (ms : Members) → entries_of ms ≤ length (members_payload ms)
entries_few no_members = omega arith
entries_few (one_member name t ms) =
    omega (
      arith,
      entries_few ms,
      length-append (number_spelling w8 (kind_of t))
          (run_spelling w16 name ++ (payload t ++ members_payload ms)),
      length-append (run_spelling w16 name) (payload t ++ members_payload ms),
      length-append (payload t) (members_payload ms),
      spelled_byte (kind_of t),
    )

-- ---- all values

mutual
  unfolding value_at payload_at leaf_at list_at compound_at members_at member_at named_at times_at
      until_at

  again : (t : Tree) (room : ℕ) (rest : List ℕ) → Fits t → depth t ≤ room →
      value_at room (kind_of t) (payload t ++ rest) ≡ Ok (t, rest)
  again (byte z) room rest fits deep = value_leaf room 1 _ refl refl ∙
      rw (signed_again w8 wide_8 z rest fits) refl
  again (short z) room rest fits deep = value_leaf room 2 _ refl refl ∙
      rw (signed_again w16 wide_16 z rest fits) refl
  again (int z) room rest fits deep = value_leaf room 3 _ refl refl ∙
      rw (signed_again w32 wide_32 z rest fits) refl
  again (long z) room rest fits deep = value_leaf room 4 _ refl refl ∙
      rw (signed_again w64 wide_64 z rest fits) refl
  again (float n) room rest fits deep = value_leaf room 5 _ refl refl ∙
      rw (number_again w32 wide_32 n rest fits) refl
  again (double n) room rest fits deep = value_leaf room 6 _ refl refl ∙
      rw (number_again w64 wide_64 n rest fits) refl
  again (byte_array bytes) room rest fits deep = value_leaf room 7 _ refl refl ∙
      rw (bytes_again bytes rest fits) refl
  again (text bytes) room rest fits deep = value_leaf room 8 _ refl refl ∙
      rw (name_again bytes rest fits) refl
  again (int_array zs) room rest fits deep = value_leaf room 11 _ refl refl ∙
      rw (ints_again zs rest fits.0 fits.1) refl
  again (list kind ts) zero rest fits deep = absurd (omega arith)
  again (list kind ts) (suc room) rest fits deep =
      let regrouped : payload (list kind ts) ++ rest ≡ number_spelling w8 kind ++
      (number_spelling w32 (count_of ts) ++ (trees_payload ts ++ rest)) = simp append_assoc in
      ap (value_at (suc room) 9) regrouped ∙
      rw (
        kind_again kind (number_spelling w32 (count_of ts) ++ (trees_payload ts ++ rest))
            fits.0,
        count_again kind (count_of ts) (trees_payload ts ++ rest) fits.1
            (is_count kind ts fits.2 fits.1),
        trees_again kind ts room rest fits.2 (omega arith),
        trees_of-trees_back ts,
      ) refl
  again (compound ms) zero rest fits deep = absurd (omega arith)
  again (compound ms) (suc room) rest fits deep =
      rw (
        members_again ms room rest (suc (length (members_payload ms ++ rest))) fits (omega arith)
            (omega (arith, entries_few ms, length-append (members_payload ms) rest)),
        members_of-members_back ms,
      ) refl

  trees_again : (kind : ℕ) (ts : Trees) (room : ℕ) (rest : List ℕ) → TreesFit kind ts →
      trees_depth ts ≤ room → times_at (value_at room kind) (count_of ts) (trees_payload ts ++ rest)
      ≡ Ok (trees_back ts, rest)
  trees_again kind no_trees room rest fits deep = refl
  trees_again kind (one_tree t ts) room rest fits deep =
      let one : value_at room kind (payload t ++ (trees_payload ts ++ rest)) ≡
      Ok (t, trees_payload ts ++ rest) =
      rw (← fits.0) (again t room (trees_payload ts ++ rest) fits.1 (omega arith)) in
      ap (times_at (value_at room kind) (suc (count_of ts))) (append_assoc (payload t)
      (trees_payload ts) rest) ∙ rw (one, trees_again kind ts room rest fits.2 (omega arith))
      refl

  members_again : (ms : Members) (room : ℕ) (rest : List ℕ) (fuel : ℕ) → MembersFit ms →
      members_depth ms ≤ room → entries_of ms < fuel →
      until_at (member_at (value_at room)) fuel (members_payload ms ++ rest) ≡
      Ok (members_back ms, rest)
  members_again ms room rest zero fits deep enough = absurd (omega arith)
  members_again no_members room rest (suc fuel) fits deep enough =
      rw (kind_again 0 rest (omega arith)) refl
  members_again (one_member name t ms) room rest (suc fuel) fits deep enough =
      let regrouped : members_payload (one_member name t ms) ++ rest ≡
      number_spelling w8 (kind_of t) ++ (run_spelling w16 name ++
      (payload t ++ (members_payload ms ++ rest))) = simp append_assoc in
      ap (until_at (member_at (value_at room)) (suc fuel)) regrouped ∙
      rw (
        kind_again (kind_of t) (run_spelling w16 name ++
            (payload t ++ (members_payload ms ++ rest))) (kind_below t),
        kind_test t,
        name_again name (payload t ++ (members_payload ms ++ rest)) fits.0,
        again t room (members_payload ms ++ rest) fits.1 (omega arith),
        members_again ms room rest fuel fits.2 (omega arith) (omega arith),
      ) refl

-- what is spelled as a value of a kind is read as that value
pub value_only : (room kind : ℕ) → IsOnly Anything (Spells room kind) (value_at room kind)
value_only room kind t front rest ends s =
    rw (← s.is_kind, s.bytes_are) (again t room rest s.fits s.nests)

root_again : (rest : List ℕ) → root_at (number_spelling w8 10 ++ rest) ≡ Ok (10, rest)
unfolding root_at
root_again rest =
    (tested {Rest = Anything} (number {Rest = Anything} w8 wide_8) is_compound BadTag).only 10
    (number_spelling w8 10) rest tt ((omega arith, refl), refl)

-- what is spelled as a named compound is read as that compound
pub nbt_only : IsOnly Anything SpellsNbt nbt_at
unfolding nbt_at members_at
nbt_only v front rest ends s =
    let ms = members_of v.entries in
    let regrouped : front ++ rest ≡ number_spelling w8 10 ++ (run_spelling w16 v.name ++
    (members_payload ms ++ rest)) = rw s.bytes_are (simp append_assoc) in
    rw (
      regrouped,
      root_again (run_spelling w16 v.name ++ (members_payload ms ++ rest)),
      name_again v.name (members_payload ms ++ rest) s.is_nbt.name,
      members_again ms 511 rest (suc (length (members_payload ms ++ rest))) s.is_nbt.fits
          (omega (arith, s.is_nbt.nests)) (omega (
            arith,
            entries_few ms,
            length-append (members_payload ms) rest,
          )),
      members_back-members_of v.entries,
    ) refl
