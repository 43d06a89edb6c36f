-- The status is short, whatever numbers are in it.
use Rattle.std.proofs.Common.{◌≡◌, ℕ, ◌^◌, ◌<◌, List, refl, sym, subst, arith}
use Rattle.std.specs.Prelude.{codes, decimal}
use Rattle.std.proofs.lemmas.Bool.{leb-true}
use Rattle.std.proofs.lemmas.Fmt.{IsAscii-decimal, length-decimal-le}
use Rattle.serde_json.proofs.OnLiterals.{serde_json_on_literals}
use Rattle.mc_model.specs.Texts.{status_json}
use Rattle.mc_model.proofs.FitsText.{IsShort, short_less, short_joined, short_where, status_around}

status_parts : (most online : ℕ) → status_json most online ≡ status_around (decimal most)
    (decimal online) (decimal 47)
unfolding status_json serde_json_on_literals
status_parts most online = refl

-- a number of 32 bits has ten digits at most
short_number : (n : ℕ) → n < 2 ^ 32 → IsShort 10 (decimal n)
short_number n small = record {
  ascii = IsAscii-decimal n (omega arith);
  few =
      length-decimal-le 10 n (omega arith) (omega arith) (omega arith);
}

short_around : (most online protocol : List ℕ) → IsShort 10 most → IsShort 10 online →
    IsShort 10 protocol → IsShort 200 (status_around most online protocol)
short_around most online protocol m o p =
    short_less _ 200 _ (leb-true 134 200 refl) (
    short_joined 53 81 _ _ (short_where 53
    (codes "{\"description\":{\"text\":\"craft47\"},\"players\":{\"max\":") refl) (
    short_joined 31 50 _ _
    (short_joined 10 21 _ _ m (short_joined 10 11 _ _ (short_where 10 (codes ",\"online\":") refl)
    (short_joined 10 1 _ _ o (short_where 1 (codes "}") refl))))
    (short_joined 38 12 _ _ (short_where 38
    (codes ",\"version\":{\"name\":\"1.8\",\"protocol\":") refl)
    (short_joined 11 1 _ _ (short_joined 10 1 _ _ p (short_where 1 (codes "}") refl))
    (short_where 1 (codes "}") refl)))))

pub status_short : (most online : ℕ) → most < 2 ^ 32 → online < 2 ^ 32 →
    IsShort 200 (status_json most online)
status_short most online small fewer =
    subst (IsShort 200) (sym (status_parts most online))
    (short_around (decimal most) (decimal online) (decimal 47) (short_number most small)
    (short_number online fewer) (short_number 47 (omega arith)))
