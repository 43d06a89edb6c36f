-- Names of players, and the identifiers that go with them.
use Rattle.std.specs.Prelude.{ℕ, Bool, ◌&&◌, ◌||◌, ◌==◌, nat_lt, nat_le, List, ◌++◌, length, codes}
use Rattle.std.specs.List.{list_all}
use Rattle.std.specs.Int.{from_be_bytes, to_be_bytes, w128}
use Rattle.uuid.specs.declared.Version.TheVariants.{Md5}
use Rattle.uuid.specs.declared.Variant.TheVariants.{RFC4122}
use Rattle.md5.specs.Md5.{md5}
use Rattle.uuid.specs.Parts.{with_version, with_variant}
use Rattle.uuid.specs.Text.{hyphenated_text, lower}

abbrev pub is_between : ℕ → ℕ → ℕ → Bool
is_between low high n = nat_le low n && nat_le n high

-- a digit, a letter or _
abbrev pub is_name_byte : ℕ → Bool
is_name_byte byte =
    is_between 48 57 byte || is_between 65 90 byte || is_between 97 122 byte || byte == 95

-- 1 to 16 of these (a rule of this project, after the names of accounts)
unfoldable pub is_name : List ℕ → Bool
is_name text = nat_lt 0 (length text) && nat_le (length text) 16 && list_all is_name_byte text

-- The identifier of a player whose account nobody asked about: the MD5 of `OfflinePlayer:` and the
-- name, marked as version 3 and as a variant of RFC 4122. The page 'Protocol' of wiki.vg, packet
-- 'Login Success', has the identifier; servers that ask nobody make it so.
unfoldable pub offline_uuid : List ℕ → ℕ
offline_uuid name =
    from_be_bytes w128
    (with_variant (with_version (md5 (codes "OfflinePlayer:" ++ name)) Md5) RFC4122)

-- the identifier as a text, with hyphens
unfoldable pub uuid_text : ℕ → List ℕ
uuid_text uuid = hyphenated_text lower (to_be_bytes w128 uuid)
