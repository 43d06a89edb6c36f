-- Laws of reading a capture: bytes that begin with a record begin with nothing that is wrong, and
-- other bytes have one fault.
use Rattle.std.specs.Prelude.{◌≡◌, ℕ, ◌^◌, ◌<◌, ◌≤◌, Bool, true, false, List, [], ◌++◌, length}
use Rattle.std.specs.Prelude.{◌∷◌, drop, refl, if◌then◌else◌}
use Rattle.std.specs.Int.{w32}
use Rattle.std.proofs.Common.{sym, ap, ◌∙◌, arith, get_or, append_assoc}
use Rattle.std.proofs.lemmas.List.{drop_at, length-append}
use Rattle.mc_bytes.specs.declared.fault.Stop.{Stop}
use Rattle.mc_bytes.specs.CombineLaws.{ok_is}
use Rattle.mc_bytes.specs.NumberLaws.{wide_32, number_again}
use Rattle.mc_bytes.specs.NumberBytes.{number_read, number_spelling}
use Rattle.mc_capture.specs.declared.fault.CaptureKind.{CaptureKind}
use Rattle.mc_capture.specs.declared.fault.CaptureKind.TheVariants.{BadHead, BadKind, Short, TooLong}
use Rattle.mc_capture.specs.declared.record.Record.{Record}
use Rattle.mc_capture.specs.declared.record.TheConstants.{BYTES_MAX, KINDS}
use Rattle.mc_capture.specs.Grammar.{IsRecord, has_bytes, heading, most_bytes, record_bytes}
use Rattle.mc_capture.specs.Reading.{IsCut, IsWrong}
use Rattle.mc_capture.specs.Reading.IsCut.{in_heading, in_bytes}

spelling_len : (n : ℕ) → length (number_spelling w32 n) ≡ 4
unfolding number_spelling
spelling_len n = wide_32.len n

pub heading_len : (kind connection size : ℕ) → length (heading kind connection size) ≡ 9
heading_len kind connection size =
    let joined = length-append (number_spelling w32 connection) (number_spelling w32 size) in
    omega (arith, joined, spelling_len connection, spelling_len size)

-- behind five bytes stands the size
size_behind : (kind connection size : ℕ) (rest : List ℕ)
    → drop 5 (heading kind connection size ++ rest) ≡ number_spelling w32 size ++ rest
size_behind kind connection size rest =
    ap (λ (xs : List ℕ). drop 4 xs)
    (append_assoc (number_spelling w32 connection) (number_spelling w32 size) rest)
    ∙ drop_at (number_spelling w32 connection) (number_spelling w32 size ++ rest) 4
    (spelling_len connection)

-- two numbers that are spelled alike, and what follows them
pub one_number : (n m : ℕ) (after later : List ℕ)
    → n < 2 ^ 32
    → m < 2 ^ 32
    → number_spelling w32 n ++ after ≡ number_spelling w32 m ++ later
    → (n ≡ m) × (after ≡ later)
one_number n m after later fits fits' same =
    let both : (n, after) ≡ (m, later) = ok_is Stop _ _ (
    sym (number_again w32 wide_32 n fits after)
    ∙ ap (λ (xs : List ℕ). number_read w32 xs) same
    ∙ number_again w32 wide_32 m fits' later) in
    (ap (λ p. p.0) both, ap (λ p. p.1) both)

pub most_in : (carries : Bool) → (if carries then BYTES_MAX else 0) < 2 ^ 32
most_in true = omega arith
most_in false = omega arith

-- the sizes of two headings of the same bytes, and what follows them
pub one_size : (kind connection size kind' connection' size' : ℕ) (after later : List ℕ)
    → size ≤ most_bytes kind
    → size' < 2 ^ 32
    → heading kind connection size ++ after ≡ heading kind' connection' size' ++ later
    → (size ≡ size') × (after ≡ later)
one_size kind connection size kind' connection' size' after later within fits same =
    let below = most_in (has_bytes kind) in
    one_number size size' after later (omega (arith, within, below)) fits (
    sym (size_behind kind connection size after)
    ∙ ap (λ (xs : List ℕ). drop 5 xs) same
    ∙ size_behind kind' connection' size' later)

-- where bytes begin with a record, no first part of them is wrong, nor are all of them cut
pub no_fault : (r : Record) (bytes after more : List ℕ) (kind : CaptureKind) (before : ℕ)
    → IsRecord r
    → record_bytes r ++ after ≡ bytes ++ more
    → (kind ≡ Short → more ≡ [])
    → ((size : ℕ) → kind ≡ TooLong size → size < 2 ^ 32)
    → IsWrong bytes kind before
    → ⊥
no_fault r bytes after more BadHead before known parts end fits wrong = wrong
no_fault r bytes after more (BadKind kind) before known parts end fits (rest, is, high, zero) =
    let same : r.kind ≡ kind =
    ap (λ (xs : List ℕ). get_or xs 0 0) (parts ∙ ap (λ (xs : List ℕ). xs ++ more) is) in
    absurd (omega (arith, known.kind, high, same))
no_fault r bytes after more Short before known parts end fits
    (in_heading kind rest is low short, zero) =
    let front = heading_len r.kind r.connection (length r.bytes) in
    let len1 = length-append (heading r.kind r.connection (length r.bytes)) r.bytes in
    let len2 = length-append (record_bytes r) after in
    let len3 = length-append bytes more in
    let same : length (record_bytes r ++ after) ≡ length (bytes ++ more) = ap length parts in
    let none : length more ≡ 0 = ap length (end refl) in
    absurd (omega (arith, front, len1, len2, len3, same, none, short))
no_fault r bytes after more Short before known parts end fits
    (in_bytes kind connection size carried low within is short, zero) =
    let whole : heading r.kind r.connection (length r.bytes) ++ (r.bytes ++ after)
    ≡ heading kind connection size ++ (carried ++ more) =
    sym (append_assoc (heading r.kind r.connection (length r.bytes)) r.bytes after)
    ∙ parts
    ∙ ap (λ (xs : List ℕ). xs ++ more) is
    ∙ append_assoc (heading kind connection size) carried more in
    let below = most_in (has_bytes kind) in
    let one = one_size r.kind r.connection (length r.bytes) kind connection size (r.bytes ++ after)
    (carried ++ more) known.size (omega (arith, within, below)) whole in
    let len1 = length-append r.bytes after in
    let len2 = length-append carried more in
    let same : length (r.bytes ++ after) ≡ length (carried ++ more) = ap length one.1 in
    let none : length more ≡ 0 = ap length (end refl) in
    absurd (omega (arith, one.0, len1, len2, same, none, short))
no_fault r bytes after more (TooLong size) before known parts end fits
    (kind, connection, low, long, is, five) =
    let whole : heading r.kind r.connection (length r.bytes) ++ (r.bytes ++ after)
    ≡ heading kind connection size ++ more =
    sym (append_assoc (heading r.kind r.connection (length r.bytes)) r.bytes after)
    ∙ parts
    ∙ ap (λ (xs : List ℕ). xs ++ more) is in
    let one = one_size r.kind r.connection (length r.bytes) kind connection size (r.bytes ++ after)
    more known.size (fits size refl) whole in
    let same : r.kind ≡ kind = ap (λ (xs : List ℕ). get_or xs 0 0) whole in
    let most : most_bytes r.kind ≡ most_bytes kind = ap most_bytes same in
    absurd (omega (arith, one.0, known.size, long, most))

-- the first byte of the same bytes
one_first : (bytes more bytes' more' rest rest' : List ℕ) (first first' : ℕ)
    → bytes ++ more ≡ bytes' ++ more'
    → bytes ≡ first ∷ rest
    → bytes' ≡ first' ∷ rest'
    → first ≡ first'
one_first bytes more bytes' more' rest rest' first first' same is is' =
    ap (λ (xs : List ℕ). get_or xs 0 0) (
    sym (ap (λ (xs : List ℕ). xs ++ more) is)
    ∙ same
    ∙ ap (λ (xs : List ℕ). xs ++ more') is')

-- what is cut begins with a kind that there is
abbrev IsKnown : List ℕ → Type 0
IsKnown bytes = (kind : ℕ) × (rest : List ℕ) × (bytes ≡ kind ∷ rest) × (kind < KINDS)

cut_known : (bytes : List ℕ) → IsCut bytes → IsKnown bytes
cut_known bytes (in_heading kind more is low short) = (kind, more, is, low)
cut_known bytes (in_bytes kind connection size carried low within is short) =
    (kind, _, is, low)

high_known : (bytes more bytes' more' rest : List ℕ) (kind : ℕ)
    → bytes ++ more ≡ bytes' ++ more'
    → bytes ≡ kind ∷ rest
    → KINDS ≤ kind
    → IsKnown bytes'
    → ⊥
high_known bytes more bytes' more' rest kind same is high (kind', rest', is', low) =
    let one : kind ≡ kind' = one_first bytes more bytes' more' rest rest' kind kind' same is is' in
    omega (arith, one, high, low)

-- what is cut says no size that is too long
cut_long : (bytes more bytes' more' : List ℕ) (kind' connection' size' : ℕ)
    → bytes ++ more ≡ bytes' ++ more'
    → more ≡ []
    → IsCut bytes
    → most_bytes kind' < size'
    → size' < 2 ^ 32
    → bytes' ≡ heading kind' connection' size'
    → ⊥
cut_long bytes more bytes' more' kind' connection' size' same none
    (in_heading kind rest is low short) long fits is' =
    let front = heading_len kind' connection' size' in
    let len : length bytes' ≡ length (heading kind' connection' size') = ap length is' in
    let len1 = length-append bytes more in
    let len2 = length-append bytes' more' in
    let sizes : length (bytes ++ more) ≡ length (bytes' ++ more') = ap length same in
    let zero : length more ≡ 0 = ap length none in
    omega (arith, front, len, len1, len2, sizes, zero, short)
cut_long bytes more bytes' more' kind' connection' size' same none
    (in_bytes kind connection size carried low within is short) long fits is' =
    let whole : heading kind connection size ++ (carried ++ more)
    ≡ heading kind' connection' size' ++ more' =
    sym (append_assoc (heading kind connection size) carried more)
    ∙ sym (ap (λ (xs : List ℕ). xs ++ more) is)
    ∙ same
    ∙ ap (λ (xs : List ℕ). xs ++ more') is' in
    let sizes = one_size kind connection size kind' connection' size' (carried ++ more) more' within
    fits whole in
    let kinds : kind ≡ kind' = ap (λ (xs : List ℕ). get_or xs 0 0) whole in
    let most : most_bytes kind ≡ most_bytes kind' = ap most_bytes kinds in
    omega (arith, sizes.0, most, within, long)

-- the same bytes have one fault
pub one_fault : (bytes more bytes' more' : List ℕ) (kind kind' : CaptureKind)
    (before before' : ℕ)
    → bytes ++ more ≡ bytes' ++ more'
    → (kind ≡ Short → more ≡ [])
    → (kind' ≡ Short → more' ≡ [])
    → ((size : ℕ) → kind ≡ TooLong size → size < 2 ^ 32)
    → ((size : ℕ) → kind' ≡ TooLong size → size < 2 ^ 32)
    → IsWrong bytes kind before
    → IsWrong bytes' kind' before'
    → (kind ≡ kind') × (before ≡ before')
one_fault bytes more bytes' more' BadHead kind' before before' same end end' fits fits' wrong
    wrong' =
    absurd wrong
one_fault bytes more bytes' more' (BadKind kind) BadHead before before' same end end' fits fits'
    wrong wrong' =
    absurd wrong'
one_fault bytes more bytes' more' (BadKind kind) (BadKind kind') before before' same end end' fits
    fits' (rest, is, high, zero) (rest', is', high', zero') = (
      ap BadKind (one_first bytes more bytes' more' rest rest' kind kind' same is is'),
      zero ∙ sym zero',
    )
one_fault bytes more bytes' more' (BadKind kind) Short before before' same end end' fits fits'
    (rest, is, high, zero) (cut, zero') =
    absurd (high_known bytes more bytes' more' rest kind same is high (cut_known bytes' cut))
one_fault bytes more bytes' more' (BadKind kind) (TooLong size) before before' same end end' fits
    fits' (rest, is, high, zero) (kind', connection, low, long, is', five) =
    absurd (high_known bytes more bytes' more' rest kind same is high (kind', _, is', low))
one_fault bytes more bytes' more' Short BadHead before before' same end end' fits fits' wrong
    wrong' =
    absurd wrong'
one_fault bytes more bytes' more' Short (BadKind kind) before before' same end end' fits fits'
    (cut, zero) (rest, is, high, zero') =
    absurd (high_known bytes' more' bytes more rest kind (sym same) is high (cut_known bytes cut))
one_fault bytes more bytes' more' Short Short before before' same end end' fits fits' (cut, zero)
    (cut', zero') =
    (refl, zero ∙ sym zero')
one_fault bytes more bytes' more' Short (TooLong size) before before' same end end' fits fits'
    (cut, zero) (kind, connection, low, long, is, five) =
    absurd (cut_long bytes more bytes' more' kind connection size same (end refl) cut long
    (fits' size refl) is)
one_fault bytes more bytes' more' (TooLong size) BadHead before before' same end end' fits fits'
    wrong wrong' =
    absurd wrong'
one_fault bytes more bytes' more' (TooLong size) (BadKind kind) before before' same end end' fits
    fits' (kind', connection, low, long, is', five) (rest, is, high, zero) =
    absurd (high_known bytes' more' bytes more rest kind (sym same) is high (kind', _, is', low))
one_fault bytes more bytes' more' (TooLong size) Short before before' same end end' fits fits'
    (kind, connection, low, long, is, five) (cut, zero) =
    absurd (cut_long bytes' more' bytes more kind connection size (sym same) (end' refl) cut long
    (fits size refl) is)
one_fault bytes more bytes' more' (TooLong size) (TooLong size') before before' same end end' fits
    fits' (kind, connection, low, long, is, five) (kind', connection', low', long', is', five') =
    let whole : heading kind connection size ++ more ≡ heading kind' connection' size' ++ more' =
    sym (ap (λ (xs : List ℕ). xs ++ more) is)
    ∙ same
    ∙ ap (λ (xs : List ℕ). xs ++ more') is' in
    let sizes = one_number size size' more more' (fits size refl) (fits' size' refl) (
    sym (size_behind kind connection size more)
    ∙ ap (λ (xs : List ℕ). drop 5 xs) whole
    ∙ size_behind kind' connection' size' more') in
    (ap TooLong sizes.0, five ∙ sym five')
