-- Whole numbers of sixteen bytes: eight high ones, and eight low ones.
use Rattle.std.specs.Prelude.{◌≡◌, ℕ, ◌+◌, ◌*◌, ◌/◌, ◌%◌, List, [], ◌∷◌, ◌++◌, length, take, drop}
use Rattle.std.specs.Prelude.{refl}
use Rattle.std.specs.Int.{w64, w128, from_be_bytes, to_be_bytes}
use Rattle.std.proofs.Common.{sym, ap, ◌∙◌, arith, lit<}
use Rattle.std.proofs.Math.Nat.{div-div-eq-div-mul}
use Rattle.std.proofs.lemmas.List.{take-append-drop, length-take, length-drop, get_or-drop}
use Rattle.std.proofs.lemmas.List.{get_or-take}
use Rattle.mc_bytes.specs.NumberLaws.{IsWide, IsBytes-take, IsBytes-drop, wide_64}

-- the bytes of the high half, and those of the low half
halves : (n : ℕ)
    → to_be_bytes w128 n ≡ to_be_bytes w64 (n / 18446744073709551616) ++
    to_be_bytes w64 (n % 18446744073709551616)
halves n =
    let at_0 : n % 256 ≡ n % 18446744073709551616 % 256 = omega arith in
    let at_1 : n / 256 % 256 ≡ n % 18446744073709551616 / 256 % 256 = omega arith in
    let at_2 : n / 65536 % 256 ≡ n % 18446744073709551616 / 65536 % 256 = omega arith in
    let at_3 : n / 16777216 % 256 ≡ n % 18446744073709551616 / 16777216 % 256 = omega arith in
    let at_4 : n / 4294967296 % 256 ≡ n % 18446744073709551616 / 4294967296 % 256 = omega arith in
    let at_5 : n / 1099511627776 % 256 ≡ n % 18446744073709551616 / 1099511627776 % 256 =
    omega arith in
    let at_6 : n / 281474976710656 % 256 ≡ n % 18446744073709551616 / 281474976710656 % 256 =
    omega arith in
    let at_7 : n / 72057594037927936 % 256 ≡ n % 18446744073709551616 / 72057594037927936 % 256 =
    omega arith in
    let at_9 : n / 4722366482869645213696 % 256 ≡ n / 18446744073709551616 / 256 % 256 =
    ap (λ (m : ℕ). m % 256) (sym (div-div-eq-div-mul n 18446744073709551616 256)) in
    let at_10 : n / 1208925819614629174706176 % 256 ≡ n / 18446744073709551616 / 65536 % 256 =
    ap (λ (m : ℕ). m % 256) (sym (div-div-eq-div-mul n 18446744073709551616 65536)) in
    let at_11 : n / 309485009821345068724781056 % 256 ≡ n / 18446744073709551616 / 16777216 % 256 =
    ap (λ (m : ℕ). m % 256) (sym (div-div-eq-div-mul n 18446744073709551616 16777216)) in
    let at_12 : n / 79228162514264337593543950336 % 256 ≡ n / 18446744073709551616 / 4294967296 %
    256 = ap (λ (m : ℕ). m % 256) (sym (div-div-eq-div-mul n 18446744073709551616 4294967296))
    in
    let at_13 : n / 20282409603651670423947251286016 % 256 ≡ n / 18446744073709551616 /
    1099511627776 % 256 =
    ap (λ (m : ℕ). m % 256) (sym (div-div-eq-div-mul n 18446744073709551616 1099511627776)) in
    let at_14 : n / 5192296858534827628530496329220096 % 256 ≡ n / 18446744073709551616 /
    281474976710656 % 256 =
    ap (λ (m : ℕ). m % 256) (sym (div-div-eq-div-mul n 18446744073709551616 281474976710656)) in
    let at_15 : n / 1329227995784915872903807060280344576 % 256 ≡ n / 18446744073709551616 /
    72057594037927936 % 256 =
    ap (λ (m : ℕ). m % 256) (sym (div-div-eq-div-mul n 18446744073709551616 72057594037927936))
    in
    λ i. at_15 i ∷ at_14 i ∷ at_13 i ∷ at_12 i ∷ at_11 i ∷ at_10 i ∷ at_9 i ∷
    (n / 18446744073709551616 % 256) ∷ at_7 i ∷ at_6 i ∷ at_5 i ∷ at_4 i ∷ at_3 i ∷ at_2 i ∷
    at_1 i ∷ at_0 i ∷ []

-- what the bytes of both halves are worth
worth : (bytes : List ℕ)
    → from_be_bytes w128 bytes ≡ from_be_bytes w64 (take 8 bytes) * 18446744073709551616 +
    from_be_bytes w64 (drop 8 bytes)
worth bytes =
    omega (
      arith,
      get_or-take 8 bytes 0 0 (lit< tt),
      get_or-take 8 bytes 1 0 (lit< tt),
      get_or-take 8 bytes 2 0 (lit< tt),
      get_or-take 8 bytes 3 0 (lit< tt),
      get_or-take 8 bytes 4 0 (lit< tt),
      get_or-take 8 bytes 5 0 (lit< tt),
      get_or-take 8 bytes 6 0 (lit< tt),
      get_or-take 8 bytes 7 0 (lit< tt),
      get_or-drop 8 bytes 0 0,
      get_or-drop 8 bytes 1 0,
      get_or-drop 8 bytes 2 0,
      get_or-drop 8 bytes 3 0,
      get_or-drop 8 bytes 4 0,
      get_or-drop 8 bytes 5 0,
      get_or-drop 8 bytes 6 0,
      get_or-drop 8 bytes 7 0,
    )

pub wide_128 : IsWide w128
wide_128 = record {
  len = λ n. refl;
  back = λ bytes len fits.
      let high : length (take 8 bytes) ≡ 8 = omega (arith, length-take 8 bytes) in
      let low : length (drop 8 bytes) ≡ 8 = omega (arith, length-drop 8 bytes) in
      let below = wide_64.below (drop 8 bytes) (IsBytes-drop 8 bytes fits) in
      let is = worth bytes in
      let upper : from_be_bytes w128 bytes / 18446744073709551616 ≡
      from_be_bytes w64 (take 8 bytes) = omega (arith, is, below) in
      let lower : from_be_bytes w128 bytes % 18446744073709551616 ≡
      from_be_bytes w64 (drop 8 bytes) = omega (arith, is, below) in
      halves (from_be_bytes w128 bytes)
      ∙ ap (λ (m : ℕ). to_be_bytes w64 m ++ to_be_bytes w64 (from_be_bytes w128 bytes %
      18446744073709551616)) upper
      ∙ ap (λ (m : ℕ). to_be_bytes w64 (from_be_bytes w64 (take 8 bytes)) ++ to_be_bytes w64 m)
      lower
      ∙ ap (λ (t : List ℕ). t ++ to_be_bytes w64 (from_be_bytes w64 (drop 8 bytes)))
      (wide_64.back (take 8 bytes) high (IsBytes-take 8 bytes fits))
      ∙ ap (λ (t : List ℕ). take 8 bytes ++ t) (wide_64.back (drop 8 bytes) low
      (IsBytes-drop 8 bytes fits))
      ∙ take-append-drop 8 bytes;
  again = λ n lt.
      let is = ap (from_be_bytes w128) (halves n) ∙
      worth (to_be_bytes w64 (n / 18446744073709551616) ++
      to_be_bytes w64 (n % 18446744073709551616)) in
      let upper = wide_64.again (n / 18446744073709551616) (omega arith) in
      let lower = wide_64.again (n % 18446744073709551616) (omega arith) in
      is ∙ omega (arith, upper, lower);
  below = λ bytes fits. omega (
    arith,
    worth bytes,
    wide_64.below (take 8 bytes) (IsBytes-take 8 bytes fits),
    wide_64.below (drop 8 bytes) (IsBytes-drop 8 bytes fits),
  );
}
