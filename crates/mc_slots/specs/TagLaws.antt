-- Laws of the tag of a stack: what is read is spelled, and what is spelled is read.
use Rattle.std.specs.Prelude.{◌≡◌, ℕ, ◌==◌, Bool, true, false, List, ◌++◌, Option, Some, None, Ok}
use Rattle.std.specs.Prelude.{refl, if◌then◌else◌}
use Rattle.std.specs.Int.{w8, w16}
use Rattle.std.proofs.Common.{subst, ap, ◌∙◌, arith, append_assoc, eqb-true}
use Rattle.mc_bytes.specs.declared.fault.Stop.{Stop}
use Rattle.mc_bytes.specs.Reading.{IsBytes}
use Rattle.mc_bytes.specs.Format.{Found, IsFound, IsOnly, IsBounded, Anything}
use Rattle.mc_bytes.specs.CombineLaws.{bind_ok, ok_is, Found-is}
use Rattle.mc_bytes.specs.NumberBytes.{number_read, number_spelling}
use Rattle.mc_bytes.specs.NumberLaws.{number_found, number_only, number_bounded, wide_8}
use Rattle.mc_nbt.specs.Nbt.{Named, nbt_spelling, run_spelling, payload, root_of}
use Rattle.mc_nbt.specs.NbtReading.{nbt_at}
use Rattle.mc_nbt.specs.NbtFormat.{nbt}
use Rattle.mc_slots.specs.Slot.{SpellsTag, FitsTag, tag_spelling, tag_most, compound_read}
use Rattle.mc_slots.specs.Slot.{tag_read}

-- what was read of a tag whose first byte is known
tag_found_by : (bytes : List ℕ) (x : Option Named × List ℕ) (first : ℕ × List ℕ) → IsBytes bytes →
    number_read w8 bytes ≡ Ok first
    → (t : Bool) → (if t then Ok (None, first.1) else compound_read bytes) ≡ Ok x →
    (t ≡ true → first.0 ≡ 0) → Found SpellsTag bytes x
tag_found_by bytes x first fits e true taken zero =
    let f = number_found w8 wide_8 bytes first fits e in
    let P : ℕ → Type 0 = λ n. f.front ≡ number_spelling w8 n in
    Found-is SpellsTag bytes (None, first.1) x (ok_is Stop _ _ taken) (record {
      front = f.front;
      parts = f.parts;
      spelled = subst P (zero refl) f.spelled.1;
      rest_fits = f.rest_fits;
    })
tag_found_by bytes x first fits e false taken zero =
    let p = bind_ok (nbt_at bytes) (λ (tag : Named × List ℕ). Ok (Some tag.0, tag.1)) x taken in
    let f = (nbt {Rest = Anything}).found bytes p.0 fits p.1 in
    Found-is SpellsTag bytes (Some p.0.0, p.0.1) x (ok_is Stop _ _ p.2) (record {
      front = f.front;
      parts = f.parts;
      spelled = f.spelled;
      rest_fits = f.rest_fits;
    })

pub tag_found : IsFound SpellsTag tag_read
tag_found bytes x fits e =
    let p = bind_ok (number_read w8 bytes) (λ (first : ℕ × List ℕ). if first.0 == 0 then
    Ok (None, first.1) else compound_read bytes) x e in
    tag_found_by bytes x p.0 fits p.1 (p.0.0 == 0) p.2 (λ h. eqb-true p.0.0 0 h)

-- the first byte of a compound is 0A
compound_first : (tag : Named) (rest : List ℕ) → number_read w8 (nbt_spelling tag ++ rest) ≡
    Ok (10, (run_spelling w16 tag.name ++ payload (root_of tag)) ++ rest)
compound_first tag rest =
    ap (number_read w8) (append_assoc (number_spelling w8 10) (run_spelling w16 tag.name ++
    payload (root_of tag)) rest)
    ∙ number_only w8 wide_8 Anything 10 (number_spelling w8 10) ((run_spelling w16 tag.name ++
    payload (root_of tag)) ++ rest) tt (omega arith, refl)

pub tag_only : (Rest : List ℕ → Type 0) → IsOnly Rest SpellsTag tag_read
tag_only Rest None front rest ends s =
    rw (s, number_only w8 wide_8 Anything 0 (number_spelling w8 0) rest tt (omega arith, refl)) refl
tag_only Rest (Some tag) front rest ends s =
    let whole = (nbt {Rest = Anything}).only tag (nbt_spelling tag) rest tt
    (record { is_nbt = s.is_nbt; bytes_are = refl }) in
    rw (s.bytes_are, compound_first tag rest, whole) refl

pub tag_fit : (tag : Option Named) (bytes : List ℕ) → SpellsTag tag bytes → FitsTag tag
tag_fit None bytes s = tt
tag_fit (Some tag) bytes s = s.is_nbt

pub tag_spelled : (tag : Option Named) → FitsTag tag → SpellsTag tag (tag_spelling tag)
tag_spelled None fits = refl
tag_spelled (Some tag) fits = record { is_nbt = fits; bytes_are = refl }

pub tag_bounded : IsBounded SpellsTag tag_most
tag_bounded None bytes s = number_bounded w8 wide_8 0 bytes (omega arith, s)
tag_bounded (Some tag) bytes s = (nbt {Rest = Anything}).bounded tag bytes s
