-- Laws of bytes as they are and of whole numbers: what is read is spelled so, and what is spelled
-- so is read.
use Rattle.std.specs.Prelude.{◌≡◌, ℕ, ◌+◌, ◌^◌, ◌<◌, ◌≤◌, ◌%◌, false, List, [], ◌∷◌, ◌++◌, length}
use Rattle.std.specs.Prelude.{take, drop, nat_lt, Ok, refl}
use mir.Val.{bits}
use Rattle.std.specs.Int.{Width, w8, w16, w32, w64, byte_len, from_be_bytes, to_be_bytes}
use Rattle.std.proofs.Common.{sym, subst, ap, ◌∙◌, arith, inl, inr, get_or}
use Rattle.std.proofs.lemmas.Bool.{cases_lt, ltb-false, le-ltb}
use Rattle.std.proofs.lemmas.List.{take_at, drop_at, take-append-drop, length-append, length-take}
use Rattle.std.proofs.lemmas.List.{get_or-drop, get_or-take, get_or_past}
use Rattle.std.proofs.lemmas.Nat.{be_bytes_2, be_bytes_4, be_bytes_8, from_be_bytes-to_be_bytes_2}
use Rattle.std.proofs.lemmas.Nat.{from_be_bytes-to_be_bytes_4, from_be_bytes-to_be_bytes_8}
use Rattle.mc_bytes.specs.declared.fault.Kind.TheVariants.{Short}
use Rattle.mc_bytes.specs.declared.fault.Stop.{Stop}
use Rattle.mc_bytes.specs.Reading.{IsBytes, stop_at}
use Rattle.mc_bytes.specs.Format.{IsFound, IsOnly, IsBounded}
use Rattle.mc_bytes.specs.CombineLaws.{ok_is, passed, Found-is}
use Rattle.mc_bytes.specs.NumberBytes.{octets_spells, octets_read, number_spelling, number_read}
use Rattle.mc_bytes.specs.NumberBytes.{number_spells}

pub IsBytes-drop : (n : ℕ) (bytes : List ℕ) → IsBytes bytes → IsBytes (drop n bytes)
IsBytes-drop n bytes h i = rw get_or-drop (h (n + i))

pub IsBytes-take : (n : ℕ) (bytes : List ℕ) → IsBytes bytes → IsBytes (take n bytes)
IsBytes-take n bytes h i =
    elim (cases_lt i n) [
      | inl lt ↦ rw (get_or-take n bytes i 0 lt) (h i)
      | inr le ↦ rw (get_or_past (take n bytes) i 0 (omega (arith, length-take n bytes)))
          (omega arith)
    ]

-- the bytes after a front are bytes
pub IsBytes-after : (bytes front rest : List ℕ) → bytes ≡ front ++ rest → IsBytes bytes
    → IsBytes rest
IsBytes-after bytes front rest parts h =
    let after : drop (length front) bytes ≡ rest = rw parts (drop_at front rest (length front) refl)
    in
    subst IsBytes after (IsBytes-drop (length front) bytes h)

-- ---- bytes as they are

pub octets_found : (n : ℕ) → IsFound (octets_spells n) (octets_read n)
unfolding octets_read
octets_found n bytes x fits e =
    let g = passed (nat_lt (length bytes) n) (stop_at Short bytes) (Ok (take n bytes, drop n bytes))
    x e in
    let long : n ≤ length bytes = ltb-false _ _ g.0 in
    Found-is (octets_spells n) bytes (take n bytes, drop n bytes) x (ok_is Stop _ _ g.1) (record {
      front = take n bytes;
      parts = sym (take-append-drop n bytes);
      spelled = (refl, omega (arith, length-take n bytes));
      rest_fits = IsBytes-drop n bytes fits;
    })

pub octets_only : (n : ℕ) (Rest : List ℕ → Type 0) → IsOnly Rest (octets_spells n) (octets_read n)
unfolding octets_read
octets_only n Rest value front rest ends s =
    let len : length front ≡ n = ap length s.0 ∙ s.1 in
    let long : nat_lt (length (front ++ rest)) n ≡ false =
    le-ltb _ _ (omega (arith, length-append front rest)) in
    rw (long, take_at front rest n len, drop_at front rest n len, s.0) refl

pub octets_bounded : (n : ℕ) → IsBounded (octets_spells n) (λ value. n)
octets_bounded n value bytes s = let len : length bytes ≡ n = ap length s.0 ∙ s.1 in
    omega (arith, len)

-- ---- whole numbers

-- what is known of the bytes of a number, at one width
pub record IsWide (w : Width) : Type 0 where
  pub len : (n : ℕ) → length (to_be_bytes w n) ≡ byte_len w
  pub back : (bytes : List ℕ) → length bytes ≡ byte_len w → IsBytes bytes →
      to_be_bytes w (from_be_bytes w bytes) ≡ bytes
  pub again : (n : ℕ) → n < 2 ^ bits w → from_be_bytes w (to_be_bytes w n) ≡ n
  pub below : (bytes : List ℕ) → IsBytes bytes → from_be_bytes w bytes < 2 ^ bits w

pub number_found : (w : Width) → IsWide w → IsFound (number_spells w) (number_read w)
unfolding number_read number_spelling
number_found w wide bytes x fits e =
    let g = passed (nat_lt (length bytes) (byte_len w)) (stop_at Short bytes)
    (Ok (from_be_bytes w (take (byte_len w) bytes), drop (byte_len w) bytes)) x e in
    let long : byte_len w ≤ length bytes = ltb-false _ _ g.0 in
    let front_fits : IsBytes (take (byte_len w) bytes) = IsBytes-take (byte_len w) bytes fits in
    let len : length (take (byte_len w) bytes) ≡ byte_len w =
    omega (arith, length-take (byte_len w) bytes) in
    Found-is (number_spells w) bytes (
      from_be_bytes w (take (byte_len w) bytes),
      drop (byte_len w) bytes,
    ) x (ok_is Stop _ _ g.1) (record {
      front = take (byte_len w) bytes;
      parts = sym (take-append-drop (byte_len w) bytes);
      spelled = (wide.below _ front_fits, sym (wide.back _ len front_fits));
      rest_fits = IsBytes-drop (byte_len w) bytes fits;
    })

pub number_only : (w : Width) → IsWide w → (Rest : List ℕ → Type 0)
    → IsOnly Rest (number_spells w) (number_read w)
unfolding number_read number_spelling
number_only w wide Rest n front rest ends s =
    let len = wide.len n in
    let long : nat_lt (length (to_be_bytes w n ++ rest)) (byte_len w) ≡ false =
    le-ltb _ _ (omega (arith, length-append (to_be_bytes w n) rest)) in
    rw (
      s.1,
      long,
      take_at (to_be_bytes w n) rest (byte_len w) len,
      drop_at (to_be_bytes w n) rest
          (byte_len w) len,
      wide.again n s.0,
    ) refl

pub number_bounded : (w : Width) → IsWide w → IsBounded (number_spells w) (λ n. byte_len w)
unfolding number_spelling
number_bounded w wide n bytes s =
    let len : length bytes ≡ byte_len w = ap length s.1 ∙ wide.len n in
    omega (arith, len)

-- what is written of a number is read as it again, whatever follows
pub number_again : (w : Width) → IsWide w → (n : ℕ) → n < 2 ^ bits w → (rest : List ℕ)
    → number_read w (number_spelling w n ++ rest) ≡ Ok (n, rest)
number_again w wide n fits rest =
    number_only w wide (λ (bytes : List ℕ). Unit {0}) n (number_spelling w n) rest tt (fits, refl)

-- a list of one byte is what that byte spells
one_byte : (bytes : List ℕ) → length bytes ≡ 1 → get_or bytes 0 0 < 256
    → (get_or bytes 0 0 % 256) ∷ [] ≡ bytes
one_byte [] len lt = absurd cc
one_byte (b ∷ []) len lt = let low : b % 256 ≡ b = omega arith in ap (λ (x : ℕ). x ∷ []) low
one_byte (b ∷ c ∷ bytes) len lt = absurd (omega arith)

pub wide_8 : IsWide w8
wide_8 = record {
  len = λ n. refl;
  back = λ bytes len fits. one_byte bytes len (fits 0);
  again = λ n lt. omega arith;
  below = λ bytes fits. omega (arith, fits 0);
}

pub wide_16 : IsWide w16
wide_16 = record {
  len = λ n. refl;
  back = λ bytes len fits. be_bytes_2 bytes _ len fits refl;
  again = λ n lt. from_be_bytes-to_be_bytes_2 n lt;
  below = λ bytes fits. omega (arith, fits 0, fits 1);
}

pub wide_32 : IsWide w32
wide_32 = record {
  len = λ n. refl;
  back = λ bytes len fits. be_bytes_4 bytes _ len fits refl;
  again = λ n lt. from_be_bytes-to_be_bytes_4 n lt;
  below = λ bytes fits. omega (arith, fits 0, fits 1, fits 2, fits 3);
}

pub wide_64 : IsWide w64
wide_64 = record {
  len = λ n. refl;
  back = λ bytes len fits. be_bytes_8 bytes _ len fits refl;
  again = λ n lt. from_be_bytes-to_be_bytes_8 n lt;
  below = λ bytes fits. omega (
    arith,
    fits 0,
    fits 1,
    fits 2,
    fits 3,
    fits 4,
    fits 5,
    fits 6,
    fits 7,
  );
}
