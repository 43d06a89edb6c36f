-- Lists behind their number of values, and bytes behind their number. A negative number is
-- BadLength at it (a rule of this project).
use Rattle.std.specs.Prelude.{ℕ, List, length}
use lib.IntN.{ℤ, pos}
use Rattle.mc_bytes.specs.declared.fault.Kind.TheVariants.{BadLength}
use Rattle.mc_bytes.specs.Format.{Format, Anything}
use Rattle.mc_bytes.specs.Combine.{◌then◌, tested, via}
use Rattle.mc_bytes.specs.Numbers.{octets}
use Rattle.mc_bytes.specs.Many.{times}
use Rattle.mc_fields.specs.VarintFormat.{varint}
use Rattle.mc_fields.specs.Integers.{short}
use Rattle.mc_fields.specs.CountedLaws.{natural_view, listed_view, sized_view}
use Rattle.mc_bytes.specs.Naturals.{is_natural, natural_of}

-- a number that is not negative, in a field that has negative ones
abbrev pub natural : Format Anything ℤ → Format Anything ℕ
natural f = via (tested f is_natural BadLength) (λ n. Unit {0}) natural_of pos (natural_view f.fits)

-- how many follow
abbrev pub count : Format Anything ℕ
count = natural varint

abbrev pub short_count : Format Anything ℕ
short_count = natural short

-- a list behind the number of its values
abbrev pub listed : {Rest : List ℕ → Type 0} {A : Type 0} → Format Anything ℕ → Format Anything A
    → Format Rest (List A)
listed {Rest} {A} count f =
    via (count then λ n. times {Rest = Rest} n f) (λ xs. Unit {0}) (λ v. v.1)
    (λ xs. (length xs, xs))
    (listed_view count.fits f.fits)

-- a list behind the VarInt of the number of its values
abbrev pub counted : {Rest : List ℕ → Type 0} {A : Type 0} → Format Anything A
    → Format Rest (List A)
counted {Rest} f = listed {Rest = Rest} count f

-- bytes behind the VarInt of their number
abbrev pub sized : {Rest : List ℕ → Type 0} → Format Rest (List ℕ)
sized {Rest} =
    via (count then λ n. octets {Rest = Rest} n) (λ bytes. Unit {0}) (λ v. v.1)
    (λ bytes. (length bytes, bytes)) (sized_view count.fits)
