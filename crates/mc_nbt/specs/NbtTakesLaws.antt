-- What is read is spelled so, each byte of it.
use Rattle.std.specs.Prelude.{◌≡◌, ℕ, ℤ, zero, suc, ◌<◌, ◌≤◌, ◌^◌, ◌==◌, Bool, true, false, nat_lt}
use Rattle.std.specs.Prelude.{List, [], ◌∷◌, ◌++◌, length, take, drop, Option, Some, None, Ok, Err}
use Rattle.std.specs.Prelude.{FitsSigned, refl, if◌then◌else◌}
use Rattle.std.specs.Int.{Width, w8, w16, w32, w64}
use Rattle.std.proofs.Common.{sym, ap, subst, ◌∙◌, append_assoc, arith}
use Rattle.std.proofs.lemmas.Bool.{ltb-false, ltb-true, leb-true, eqb-true}
use Rattle.std.proofs.lemmas.List.{take-append-drop, length-take}
use Rattle.mc_bytes.specs.declared.fault.Kind.TheVariants.{Short, BadTag, BadLength}
use Rattle.mc_bytes.specs.declared.fault.Stop.{Stop}
use Rattle.mc_bytes.specs.Reading.{Field, ◌>>=◌, stop_at}
use Rattle.mc_bytes.specs.Format.{Anything, Found, IsFound}
use Rattle.mc_bytes.specs.CombineLaws.{bind_ok, ok_is, passed, Found-is}
use Rattle.mc_bytes.specs.Combine.{tested}
use Rattle.mc_bytes.specs.CombineBytes.{view_read}
use Rattle.mc_bytes.specs.NumberLaws.{IsWide, IsBytes-drop, wide_8, wide_16, wide_32, wide_64}
use Rattle.mc_bytes.specs.NumberLaws.{number_found}
use Rattle.mc_bytes.specs.Numbers.{number}
use Rattle.mc_bytes.specs.NumberBytes.{number_read, number_spelling}
use Rattle.mc_bytes.specs.Signed.{signed}
use Rattle.mc_bytes.specs.Times.{times_at, AllSpelled, SpelledUntil}
use Rattle.mc_bytes.specs.TimesLaws.{times_found, until_found}
use Rattle.mc_nbt.specs.Tree.{Tree, byte, short, int, long, float, double, byte_array, text, list}
use Rattle.mc_nbt.specs.Tree.{compound, int_array, trees_of, members_of, kind_of, depth}
use Rattle.mc_nbt.specs.Tree.{trees_depth, members_depth}
use Rattle.mc_nbt.specs.Nbt.{signed_spelling, run_spelling, ints_spelling, count_of, payload}
use Rattle.mc_nbt.specs.Nbt.{trees_payload, members_payload, AllFitSigned, Fits, TreesFit}
use Rattle.mc_nbt.specs.Nbt.{MembersFit, Spells, Named, SpellsNbt}
use Rattle.mc_nbt.specs.NbtLaws.{count_of-trees_of}
use Rattle.mc_nbt.specs.NbtReading.{signed_at, run_at, is_kind, kind_at, is_count_of, count_at}
use Rattle.mc_nbt.specs.NbtReading.{name_at, bytes_at, ints_at, leaf_at, list_at, named_at}
use Rattle.mc_nbt.specs.NbtReading.{member_at, members_at, compound_at, too_deep, payload_at}
use Rattle.mc_nbt.specs.NbtReading.{value_at, is_compound, root_at, nbt_at}

-- which way a test went
peel : {A P : Type 0} (b : Bool) (r s y : A) → (if b then r else s) ≡ y → (b ≡ true → r ≡ y → P)
    → (b ≡ false → s ≡ y → P) → P
peel true r s y e then_so else_so = then_so refl e
peel false r s y e then_so else_so = else_so refl e

-- ---- what values are made of

signed_found : (w : Width) → IsWide w
    → IsFound (λ (z : ℤ) (front : List ℕ). FitsSigned w z × (front ≡ signed_spelling w z))
    (signed_at w)
unfolding signed_at
signed_found w wide bytes x fits e =
    let f = (signed {Rest = Anything} w wide).found bytes x fits e in
    record {
      front = f.front;
      parts = f.parts;
      spelled = (f.spelled.0, f.spelled.1.1);
      rest_fits = f.rest_fits;
    }

kind_found : IsFound (λ (kind : ℕ) (front : List ℕ). (kind ≤ 11) ×
    (front ≡ number_spelling w8 kind)) kind_at
unfolding kind_at
kind_found bytes x fits e =
    let f = (tested {Rest = Anything} (number {Rest = Anything} w8 wide_8) is_kind BadTag).found
    bytes x fits e in
    record {
      front = f.front;
      parts = f.parts;
      spelled = (leb-true _ _ f.spelled.1, f.spelled.0.1);
      rest_fits = f.rest_fits;
    }

count_below : (kind n : ℕ) → is_count_of kind n ≡ true → n < 2 ^ 31
count_below kind n e =
    peel (kind == 0) (n == 0) (nat_lt n (2 ^ 31)) true e (λ t h. omega (arith, eqb-true n 0 h))
    (λ t h. ltb-true _ _ h)

count_found : (kind : ℕ)
    → IsFound (λ (n : ℕ) (front : List ℕ). (n < 2 ^ 31) × (front ≡ number_spelling w32 n))
    (count_at kind)
unfolding count_at
count_found kind bytes x fits e =
    let f = (tested {Rest = Anything} (number {Rest = Anything} w32 wide_32) (is_count_of kind)
    BadLength).found bytes x fits e in
    record {
      front = f.front;
      parts = f.parts;
      spelled = (
        count_below kind x.0 f.spelled.1,
        f.spelled.0.1,
      );
      rest_fits = f.rest_fits;
    }

-- a number below a limit, at the front
abbrev CountSpelled : Width → ℕ → ℕ → List ℕ → Type 0
CountSpelled w limit n front = (n < limit) × (front ≡ number_spelling w n)

abbrev RunSpelled : Width → ℕ → List ℕ → List ℕ → Type 0
RunSpelled w limit bytes front = (length bytes < limit) × (front ≡ run_spelling w bytes)

run_found : (count : List ℕ → Field ℕ) (w : Width) (limit : ℕ)
    → IsFound (CountSpelled w limit) count → IsFound (RunSpelled w limit) (run_at count)
unfolding run_at
run_found count w limit found bytes x fits e =
    let p = bind_ok (count bytes) (λ (n : ℕ × List ℕ). if nat_lt (length n.1) n.0 then
    Err (stop_at Short bytes) else Ok (take n.0 n.1, drop n.0 n.1)) x e in
    let g = passed (nat_lt (length p.0.1) p.0.0) (stop_at Short bytes) (Ok (
      take p.0.0 p.0.1,
      drop p.0.0 p.0.1,
    )) x p.2 in
    let f = found bytes p.0 fits p.1 in
    let long : p.0.0 ≤ length p.0.1 = ltb-false _ _ g.0 in
    let len : length (take p.0.0 p.0.1) ≡ p.0.0 = omega (arith, length-take p.0.0 p.0.1) in
    Found-is (RunSpelled w limit) bytes (take p.0.0 p.0.1, drop p.0.0 p.0.1) x (ok_is Stop _ _ g.1)
    (record {
      front = f.front ++ take p.0.0 p.0.1;
      parts = f.parts ∙ ap (λ (t : List ℕ). f.front ++ t) (sym (take-append-drop p.0.0 p.0.1)) ∙
          sym (append_assoc f.front (take p.0.0 p.0.1) (drop p.0.0 p.0.1));
      spelled = (
        omega (arith, f.spelled.0),
        ap (λ (t : List ℕ). t ++ take p.0.0 p.0.1)
            (f.spelled.1 ∙ ap (number_spelling w) (sym len)),
      );
      rest_fits = IsBytes-drop p.0.0 p.0.1 f.rest_fits;
    })

name_found : IsFound (RunSpelled w16 (2 ^ 16)) name_at
unfolding name_at
name_found bytes x fits e =
    run_found (number_read w16) w16 (2 ^ 16) (number_found w16 wide_16) bytes x fits e

bytes_found : IsFound (RunSpelled w32 (2 ^ 31)) bytes_at
unfolding bytes_at
bytes_found bytes x fits e = run_found (count_at 7) w32 (2 ^ 31) (count_found 7) bytes x fits e

-- the numbers of an array
ints_spelled : (zs : List ℤ) (front : List ℕ)
    → AllSpelled (λ (z : ℤ) (bytes : List ℕ). FitsSigned w32 z × (bytes ≡ signed_spelling w32 z)) zs
    front
    → AllFitSigned w32 zs × (front ≡ ints_spelling zs)
ints_spelled [] front s = (tt, s)
ints_spelled (z ∷ zs) front s =
    let others = ints_spelled zs s.1 s.4 in
    ((s.3.0, others.0), rw (s.2, s.3.1, others.1) refl)

abbrev IntsSpelled : List ℤ → List ℕ → Type 0
IntsSpelled zs front =
    ((length zs < 2 ^ 31) × AllFitSigned w32 zs) × (front ≡ number_spelling w32 (length zs) ++
    ints_spelling zs)

ints_found : IsFound IntsSpelled ints_at
unfolding ints_at
ints_found bytes x fits e =
    let p = bind_ok (count_at 11 bytes) (λ (n : ℕ × List ℕ). times_at (signed_at w32) n.0 n.1) x e
    in
    let f = count_found 11 bytes p.0 fits p.1 in
    let g = times_found (λ (z : ℤ) (front : List ℕ). FitsSigned w32 z ×
    (front ≡ signed_spelling w32 z)) (signed_at w32) (signed_found w32 wide_32) p.0.0 p.0.1 x
    f.rest_fits p.2 in
    let zs = ints_spelled x.0 g.front g.spelled.1 in
    record {
      front = f.front ++ g.front;
      parts = f.parts ∙ ap (λ (t : List ℕ). f.front ++ t) g.parts ∙
          sym (append_assoc f.front g.front x.1);
      spelled = (
        (omega (arith, f.spelled.0, g.spelled.0), zs.0),
        rw (f.spelled.1, zs.1, g.spelled.0) refl,
      );
      rest_fits = g.rest_fits;
    }

-- ---- values with no others in them

leaf_made : {A : Type 0} (S : A → List ℕ → Type 0) (read : List ℕ → Field A) (make : A
    → Tree) (room kind : ℕ) → IsFound S read → ((a : A) (front : List ℕ) → S a front
    → Spells room kind (make a) front) → IsFound (Spells room kind) (view_read read make)
leaf_made {A} S read make room kind found spell bytes x fits e =
    let p = bind_ok (read bytes) (λ (y : A × List ℕ). Ok (make y.0, y.1)) x e in
    let f = found bytes p.0 fits p.1 in
    Found-is (Spells room kind) bytes (make p.0.0, p.0.1) x (ok_is Stop _ _ p.2)
    (record {
      front = f.front;
      parts = f.parts;
      spelled = spell p.0.0 f.front f.spelled;
      rest_fits = f.rest_fits;
    })

leaf_found : (room kind : ℕ) → IsFound (Spells room kind) (leaf_at kind)
unfolding leaf_at
leaf_found room kind bytes x fits e =
    peel (kind == 1) _ _ (Ok x) e (λ t h. leaf_made _ (signed_at w8) byte room kind
    (signed_found w8 wide_8) (λ a front s. record {
      is_kind = sym (eqb-true _ _ t);
      fits = s.0;
      nests = omega arith;
      bytes_are = s.1;
    }) bytes x fits h) (λ t1 h1.
    peel (kind == 2) _ _ (Ok x) h1 (λ t h. leaf_made _ (signed_at w16) short room kind
    (signed_found w16 wide_16) (λ a front s. record {
      is_kind = sym (eqb-true _ _ t);
      fits = s.0;
      nests = omega arith;
      bytes_are = s.1;
    }) bytes x fits h) (λ t2 h2.
    peel (kind == 3) _ _ (Ok x) h2 (λ t h. leaf_made _ (signed_at w32) int room kind
    (signed_found w32 wide_32) (λ a front s. record {
      is_kind = sym (eqb-true _ _ t);
      fits = s.0;
      nests = omega arith;
      bytes_are = s.1;
    }) bytes x fits h) (λ t3 h3.
    peel (kind == 4) _ _ (Ok x) h3 (λ t h. leaf_made _ (signed_at w64) long room kind
    (signed_found w64 wide_64) (λ a front s. record {
      is_kind = sym (eqb-true _ _ t);
      fits = s.0;
      nests = omega arith;
      bytes_are = s.1;
    }) bytes x fits h) (λ t4 h4.
    peel (kind == 5) _ _ (Ok x) h4 (λ t h. leaf_made _ (number_read w32) float room kind
    (number_found w32 wide_32) (λ a front s. record {
      is_kind = sym (eqb-true _ _ t);
      fits = s.0;
      nests = omega arith;
      bytes_are = s.1;
    }) bytes x fits h) (λ t5 h5.
    peel (kind == 6) _ _ (Ok x) h5 (λ t h. leaf_made _ (number_read w64) double room kind
    (number_found w64 wide_64) (λ a front s. record {
      is_kind = sym (eqb-true _ _ t);
      fits = s.0;
      nests = omega arith;
      bytes_are = s.1;
    }) bytes x fits h) (λ t6 h6.
    peel (kind == 7) _ _ (Ok x) h6 (λ t h. leaf_made _ bytes_at byte_array room kind bytes_found
    (λ a front s. record {
      is_kind = sym (eqb-true _ _ t);
      fits = s.0;
      nests = omega arith;
      bytes_are = s.1;
    }) bytes x fits h) (λ t7 h7.
    peel (kind == 8) _ _ (Ok x) h7 (λ t h. leaf_made _ name_at text room kind name_found
    (λ a front s. record {
      is_kind = sym (eqb-true _ _ t);
      fits = s.0;
      nests = omega arith;
      bytes_are = s.1;
    }) bytes x fits h) (λ t8 h8.
    peel (kind == 11) _ _ (Ok x) h8 (λ t h. leaf_made _ ints_at int_array room kind ints_found
    (λ a front s. record {
      is_kind = sym (eqb-true _ _ t);
      fits = s.0;
      nests = omega arith;
      bytes_are = s.1;
    }) bytes x fits h) (λ t9 h9. absurd cc)))))))))

-- ---- lists

-- the items of a list
record ItemsSpelled (room kind : ℕ) (ts : List Tree) (front : List ℕ) : Type 0 where
  fits : TreesFit kind (trees_of ts)
  nests : trees_depth (trees_of ts) ≤ room
  bytes_are : front ≡ trees_payload (trees_of ts)

items_spelled : (room kind : ℕ) (ts : List Tree) (front : List ℕ)
    → AllSpelled (Spells room kind) ts front → ItemsSpelled room kind ts front
items_spelled room kind [] front s = record { fits = tt; nests = omega arith; bytes_are = s }
items_spelled room kind (t ∷ ts) front s =
    let others = items_spelled room kind ts s.1 s.4 in
    record {
      fits = (s.3.is_kind, s.3.fits, others.fits);
      nests = omega (
        arith,
        s.3.nests,
        others.nests,
      );
      bytes_are = rw (s.2, s.3.bytes_are, others.bytes_are) refl;
    }

list_found : (room : ℕ) (value : ℕ → List ℕ → Field Tree) → ((kind : ℕ)
    → IsFound (Spells room kind) (value kind)) → IsFound (Spells (suc room) 9) (list_at value)
unfolding list_at
list_found room value found bytes x fits e =
    let p = bind_ok (kind_at bytes) (λ (kind : ℕ × List ℕ). count_at kind.0 kind.1 >>=
    λ (count : ℕ × List ℕ). times_at (value kind.0) count.0 count.1 >>= λ (ts : List Tree ×
    List ℕ). Ok (list kind.0 (trees_of ts.0), ts.1)) x e in
    let q = bind_ok (count_at p.0.0 p.0.1) (λ (count : ℕ × List ℕ). times_at (value p.0.0) count.0
    count.1 >>= λ (ts : List Tree × List ℕ). Ok (list p.0.0 (trees_of ts.0), ts.1)) x p.2 in
    let r = bind_ok (times_at (value p.0.0) q.0.0 q.0.1) (λ (ts : List Tree × List ℕ).
    Ok (list p.0.0 (trees_of ts.0), ts.1)) x q.2 in
    let f = kind_found bytes p.0 fits p.1 in
    let g = count_found p.0.0 p.0.1 q.0 f.rest_fits q.1 in
    let h = times_found (Spells room p.0.0) (value p.0.0) (found p.0.0) q.0.0 q.0.1 r.0 g.rest_fits
    r.1 in
    let items = items_spelled room p.0.0 r.0.0 h.front h.spelled.1 in
    let count : count_of (trees_of r.0.0) ≡ q.0.0 = count_of-trees_of r.0.0 ∙ h.spelled.0 in
    Found-is (Spells (suc room) 9) bytes (list p.0.0 (trees_of r.0.0), r.0.1) x (ok_is Stop _ _ r.2)
    (record {
      front = f.front ++ (g.front ++ h.front);
      parts = f.parts ∙ ap (λ (t : List ℕ). f.front ++ t) (g.parts ∙ ap (λ (t : List ℕ). g.front ++
          t) h.parts) ∙ simp append_assoc;
      spelled = record {
        is_kind = refl;
        fits = (f.spelled.0, omega (arith, g.spelled.0), items.fits);
        nests = omega (arith, items.nests);
        bytes_are = rw (f.spelled.1, g.spelled.1, items.bytes_are, count) refl;
      };
      rest_fits = h.rest_fits;
    })

-- ---- compounds

record NamedSpelled (room kind : ℕ) (m : List ℕ × Tree) (front : List ℕ) : Type 0 where
  name : length m.0 < 2 ^ 16
  is_kind : kind_of m.1 ≡ kind
  fits : Fits m.1
  nests : depth m.1 ≤ room
  bytes_are : front ≡ run_spelling w16 m.0 ++ payload m.1

named_found : (room kind : ℕ) (value : List ℕ → Field Tree) → IsFound (Spells room kind) value
    → IsFound (NamedSpelled room kind) (named_at value)
unfolding named_at
named_found room kind value found bytes x fits e =
    let p = bind_ok (name_at bytes) (λ (name : List ℕ × List ℕ). value name.1 >>= λ (t : Tree ×
    List ℕ). Ok ((name.0, t.0), t.1)) x e in
    let q = bind_ok (value p.0.1) (λ (t : Tree × List ℕ). Ok ((p.0.0, t.0), t.1)) x p.2 in
    let f = name_found bytes p.0 fits p.1 in
    let g = found p.0.1 q.0 f.rest_fits q.1 in
    Found-is (NamedSpelled room kind) bytes ((p.0.0, q.0.0), q.0.1) x (ok_is Stop _ _ q.2) (record {
      front = f.front ++ g.front;
      parts = f.parts ∙ ap (λ (t : List ℕ). f.front ++ t) g.parts ∙
          sym (append_assoc f.front g.front q.0.1);
      spelled = record {
        name = f.spelled.0;
        is_kind = g.spelled.is_kind;
        fits = g.spelled.fits;
        nests = g.spelled.nests;
        bytes_are = rw (f.spelled.1, g.spelled.bytes_are) refl;
      };
      rest_fits = g.rest_fits;
    })

-- an entry with its tag byte, or the byte of the end
record EntrySpelled (room : ℕ) (m : List ℕ × Tree) (front : List ℕ) : Type 0 where
  name : length m.0 < 2 ^ 16
  fits : Fits m.1
  nests : depth m.1 ≤ room
  bytes_are : front ≡ number_spelling w8 (kind_of m.1) ++ (run_spelling w16 m.0 ++ payload m.1)

abbrev MemberSpelled : ℕ → Option (List ℕ × Tree) → List ℕ → Type 0
MemberSpelled room None front = front ≡ number_spelling w8 0
MemberSpelled room (Some m) front = EntrySpelled room m front

member_found : (room : ℕ) (value : ℕ → List ℕ → Field Tree) → ((kind : ℕ)
    → IsFound (Spells room kind) (value kind)) → IsFound (MemberSpelled room) (member_at value)
unfolding member_at
member_found room value found bytes x fits e =
    let p = bind_ok (kind_at bytes) (λ (kind : ℕ × List ℕ). if kind.0 == 0 then
    Ok (None, kind.1) else view_read (named_at (value kind.0)) (λ (m : List ℕ × Tree). Some m)
    kind.1) x e in
    let f = kind_found bytes p.0 fits p.1 in
    peel (p.0.0 == 0) _ _ (Ok x) p.2
    (λ t h. Found-is (MemberSpelled room) bytes (None, p.0.1) x (ok_is Stop _ _ h)
    (record {
      front = f.front;
      parts = f.parts;
      spelled = f.spelled.1 ∙
          ap (number_spelling w8) (eqb-true _ _ t);
      rest_fits = f.rest_fits;
    }))
    (λ t h.
    let q = bind_ok (named_at (value p.0.0) p.0.1) (λ (m : (List ℕ × Tree) × List ℕ). Ok (
      Some m.0,
      m.1,
    )) x h in
    let g = named_found room p.0.0 (value p.0.0) (found p.0.0) p.0.1 q.0 f.rest_fits q.1 in
    Found-is (MemberSpelled room) bytes (Some q.0.0, q.0.1) x (ok_is Stop _ _ q.2) (record {
      front = f.front ++ g.front;
      parts = f.parts ∙ ap (λ (t : List ℕ). f.front ++ t) g.parts ∙
          sym (append_assoc f.front g.front q.0.1);
      spelled = record {
        name = g.spelled.name;
        fits = g.spelled.fits;
        nests = g.spelled.nests;
        bytes_are = rw (f.spelled.1, g.spelled.bytes_are, g.spelled.is_kind) refl;
      };
      rest_fits = g.rest_fits;
    }))

-- the entries of a compound, and its end
record EntriesSpelled (room : ℕ) (ms : List (List ℕ × Tree)) (front : List ℕ) : Type 0 where
  fits : MembersFit (members_of ms)
  nests : members_depth (members_of ms) ≤ room
  bytes_are : front ≡ members_payload (members_of ms)

entries_spelled : (room : ℕ) (ms : List (List ℕ × Tree)) (front : List ℕ)
    → SpelledUntil (MemberSpelled room) ms front → EntriesSpelled room ms front
entries_spelled room [] front s = record { fits = tt; nests = omega arith; bytes_are = s }
entries_spelled room (m ∷ ms) front s =
    let others = entries_spelled room ms s.1 s.4 in
    record {
      fits = (s.3.name, s.3.fits, others.fits);
      nests = omega (
        arith,
        s.3.nests,
        others.nests,
      );
      bytes_are = rw (s.2, s.3.bytes_are, others.bytes_are) (simp append_assoc);
    }

entries_found : (room : ℕ) (value : ℕ → List ℕ → Field Tree) → ((kind : ℕ)
    → IsFound (Spells room kind) (value kind)) → IsFound (EntriesSpelled room) (members_at value)
unfolding members_at
entries_found room value found bytes x fits e =
    let f = until_found (MemberSpelled room) (member_at value) (member_found room value found)
    (suc (length bytes)) bytes x fits e in
    record {
      front = f.front;
      parts = f.parts;
      spelled = entries_spelled room x.0 f.front f.spelled;
      rest_fits = f.rest_fits;
    }

compound_found : (room : ℕ) (value : ℕ → List ℕ → Field Tree) → ((kind : ℕ)
    → IsFound (Spells room kind) (value kind)) → IsFound (Spells (suc room) 10) (compound_at value)
unfolding compound_at
compound_found room value found bytes x fits e =
    leaf_made (EntriesSpelled room) (members_at value) (λ (ms : List (List ℕ × Tree)).
    compound (members_of ms)) (suc room) 10 (entries_found room value found) (λ ms front s.
    record {
      is_kind = refl;
      fits = s.fits;
      nests = omega (arith, s.nests);
      bytes_are = s.bytes_are;
    }) bytes x fits e

-- ---- all values

payload_found : (room kind : ℕ) (list_read compound_read : List ℕ → Field Tree)
    → IsFound (Spells room 9) list_read → IsFound (Spells room 10) compound_read
    → IsFound (Spells room kind) (payload_at list_read compound_read kind)
unfolding payload_at
payload_found room kind list_read compound_read lists compounds bytes x fits e =
    let P : ℕ → Type 0 = λ k. Found (Spells room k) bytes x in
    peel (kind == 9) _ _ (Ok x) e (λ t h. subst P (sym (eqb-true _ _ t)) (lists bytes x fits h))
    (λ t9 h9.
    peel (kind == 10) _ _ (Ok x) h9 (λ t h. subst P (sym (eqb-true _ _ t))
    (compounds bytes x fits h)) (λ t10 h10. leaf_found room kind bytes x fits h10))

-- what is read as a value of a kind is spelled so
pub value_found : (room kind : ℕ) → IsFound (Spells room kind) (value_at room kind)
unfolding value_at
value_found zero kind bytes x fits e =
    payload_found 0 kind too_deep too_deep (λ b y f h. absurd cc) (λ b y f h. absurd cc) bytes x
    fits e
value_found (suc room) kind bytes x fits e =
    payload_found (suc room) kind (list_at (value_at room)) (compound_at (value_at room))
    (list_found room (value_at room) (value_found room)) (compound_found room (value_at room)
    (value_found room)) bytes x fits e

root_found : IsFound (λ (kind : ℕ) (front : List ℕ). front ≡ number_spelling w8 10) root_at
unfolding root_at
root_found bytes x fits e =
    let f = (tested {Rest = Anything} (number {Rest = Anything} w8 wide_8) is_compound BadTag).found
    bytes x fits e in
    record {
      front = f.front;
      parts = f.parts;
      spelled = f.spelled.0.1 ∙
          ap (number_spelling w8) (eqb-true _ _ f.spelled.1);
      rest_fits = f.rest_fits;
    }

-- what is read as a named compound is spelled so
pub nbt_found : IsFound SpellsNbt nbt_at
unfolding nbt_at
nbt_found bytes x fits e =
    let p = bind_ok (root_at bytes) (λ (kind : ℕ × List ℕ). name_at kind.1 >>= λ (name : List ℕ ×
    List ℕ). members_at (value_at 511) name.1 >>= λ (ms : List (List ℕ × Tree) × List ℕ).
    let v : Named = record { name = name.0; entries = ms.0 } in Ok (v, ms.1)) x e in
    let q = bind_ok (name_at p.0.1) (λ (name : List ℕ × List ℕ). members_at (value_at 511) name.1
    >>= λ (ms : List (List ℕ × Tree) × List ℕ). let v : Named =
    record { name = name.0; entries = ms.0 } in Ok (v, ms.1)) x p.2 in
    let r = bind_ok (members_at (value_at 511) q.0.1) (λ (ms : List (List ℕ × Tree) × List ℕ).
    let v : Named = record { name = q.0.0; entries = ms.0 } in Ok (v, ms.1)) x q.2 in
    let f = root_found bytes p.0 fits p.1 in
    let g = name_found p.0.1 q.0 f.rest_fits q.1 in
    let h = entries_found 511 (value_at 511) (value_found 511) q.0.1 r.0 g.rest_fits r.1 in
    let made : Named = record { name = q.0.0; entries = r.0.0 } in
    Found-is SpellsNbt bytes (made, r.0.1) x (ok_is Stop _ _ r.2) (record {
      front = f.front ++ (g.front ++ h.front);
      parts = f.parts ∙ ap (λ (t : List ℕ). f.front ++ t) (g.parts ∙ ap (λ (t : List ℕ). g.front ++
          t) h.parts) ∙ simp append_assoc;
      spelled = record {
        is_nbt = record {
          name = g.spelled.0;
          fits = h.spelled.fits;
          nests = omega (arith, h.spelled.nests);
        };
        bytes_are = rw (f.spelled, g.spelled.1, h.spelled.bytes_are) refl;
      };
      rest_fits = h.rest_fits;
    })
