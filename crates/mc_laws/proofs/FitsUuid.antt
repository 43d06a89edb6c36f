-- The identifier that goes with a name has 128 bits.
use Rattle.std.proofs.Common.{ℕ, zero, suc, ◌/◌, ◌^◌, ◌<◌, List, [], ◌∷◌, length, arith}
use Rattle.std.specs.Prelude.{slice_set}
use Rattle.std.specs.Int.{to_le_bytes, w32}
use Rattle.std.proofs.lemmas.Bool.Decides.{nat_tests}
use Rattle.uuid.specs.declared.Version.TheVariants.{Md5}
use Rattle.uuid.specs.declared.Variant.TheVariants.{RFC4122}
use Rattle.md5.specs.Md5.{padded_message, hash_after, digest_bytes, md5}
use Rattle.uuid.specs.Parts.{with_version, with_variant}
use Rattle.mc_bytes.specs.Reading.{IsBytes}
use Rattle.mc_bytes.specs.SixteenLaws.{wide_128}
use Rattle.mc_model.specs.Names.{offline_uuid}
use Rattle.mc_model.proofs.FitsBytes.{bytes_joined}

-- a number of 32 bits is written as bytes
word_bytes : (n : ℕ) → IsBytes (to_le_bytes w32 n)
word_bytes n i = grind (arith, nat_tests)

-- nothing is bytes
no_bytes : IsBytes []
no_bytes i = omega arith

-- a digest is bytes
digest_is_bytes : (h : List ℕ) (n : ℕ) → IsBytes (digest_bytes h n)
unfolding digest_bytes
digest_is_bytes h zero = no_bytes
digest_is_bytes h (suc n) = grind (arith, nat_tests, bytes_joined, word_bytes, digest_is_bytes h n)

-- and so is an MD5
md5_bytes : (m : List ℕ) → IsBytes (md5 m)
unfolding md5
md5_bytes m = digest_is_bytes (hash_after (padded_message m) (length (padded_message m) / 64)) 4

-- bytes with a byte set are bytes
set_bytes : (xs : List ℕ) (k v : ℕ) → v < 256 → IsBytes xs → IsBytes (slice_set xs k v)
set_bytes [] k v low b i = b i
set_bytes (x ∷ xs) zero v low b zero = low
set_bytes (x ∷ xs) zero v low b (suc i) = b (suc i)
set_bytes (x ∷ xs) (suc k) v low b zero = b 0
set_bytes (x ∷ xs) (suc k) v low b (suc i) = set_bytes xs k v low (λ j. b (suc j)) i

-- also with the marks of a version and a variant
marked_bytes : (xs : List ℕ) → IsBytes xs → IsBytes (with_variant (with_version xs Md5) RFC4122)
marked_bytes xs b = grind (arith, nat_tests, set_bytes)

-- so the identifier has 128 bits
pub offline_small : (name : List ℕ) → offline_uuid name < 2 ^ 128
unfolding offline_uuid
offline_small name = grind (arith, nat_tests, marked_bytes, md5_bytes, wide_128)
