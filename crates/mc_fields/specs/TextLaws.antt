-- Laws of texts: what is read is spelled so, and what is spelled so is read.
use Rattle.std.specs.Prelude.{◌≡◌, ℕ, ◌+◌, ◌*◌, ◌^◌, ◌<◌, ◌≤◌, Bool, true, false, List, ◌++◌}
use Rattle.std.specs.Prelude.{length, take, drop, nat_lt, not, Result, Ok, Err, refl}
use Rattle.std.specs.Str.{is_utf8, chars}
use Rattle.std.proofs.Common.{sym, subst, ap, ◌∙◌, arith, le-ltb, ltb-false, append_assoc}
use Rattle.std.proofs.lemmas.List.{take_at, drop_at, take-append-drop, length-append, length-take}
use Rattle.std.proofs.lemmas.Str.{IsUtf8-from_is_utf8, is_utf8-from_IsUtf8}
use lib.IntN.{ℤ, pos, negsuc}
use Rattle.mc_bytes.specs.declared.fault.Kind.{Kind}
use Rattle.mc_bytes.specs.declared.fault.Kind.TheVariants.{Short, BadText, TooLong}
use Rattle.mc_bytes.specs.declared.fault.Stop.{Stop}
use Rattle.mc_bytes.specs.Format.{IsFound, IsOnly, IsBounded, Anything}
use Rattle.mc_bytes.specs.CombineLaws.{ok_is, passed, Found-is, bind_ok, joined, joined_length}
use Rattle.mc_bytes.specs.NumberLaws.{IsBytes-drop}
use Rattle.mc_fields.specs.Varint.{SpellsVarint, varint_read, varint_spelling}
use Rattle.mc_fields.specs.VarintLaws.{varint_found, varint_only, varint_fit, varint_spelled}
use Rattle.mc_fields.specs.VarintLaws.{varint-fits, five}
use Rattle.mc_fields.specs.Text.{FitsText, SpellsText, text_front, text_at, text_read}
use Rattle.mc_fields.specs.Text.{text_spelling}
use Rattle.mc_fields.specs.Text.{SpellableText}

-- the text that was read at the front
pub record Fronted (points : ℕ) (size : ℤ) (bytes text : List ℕ) : Type 0 where
  pub sized : size ≡ pos (length text)
  pub parts : bytes ≡ text ++ drop (length text) bytes
  pub fits : FitsText points text

Fronted-is : (points : ℕ) (size : ℤ) (bytes text other : List ℕ) → text ≡ other
    → Fronted points size bytes text → Fronted points size bytes other
Fronted-is points size bytes text other e f =
    let P : List ℕ → Type 0 = λ t. Fronted points size bytes t in subst P e f

not_false : (b : Bool) → not b ≡ false → b ≡ true
not_false true e = refl
not_false false e = absurd cc

front_found : (points : ℕ) (size : ℤ) (bytes text : List ℕ) → text_front points size bytes ≡ Ok text
    → Fronted points size bytes text
front_found points (negsuc n) bytes text e = absurd cc
front_found points (pos len) bytes text e =
    let a = passed (nat_lt (4 * points) len) TooLong _ text e in
    let b = passed (nat_lt (length bytes) len) Short _ text a.1 in
    let c = passed (not (is_utf8 (take len bytes))) BadText _ text b.1 in
    let d = passed (nat_lt points (length (chars (take len bytes)))) TooLong _ text c.1 in
    let few : len ≤ 4 * points = ltb-false _ _ a.0 in
    let there : len ≤ length bytes = ltb-false _ _ b.0 in
    let size : length (take len bytes) ≡ len = omega (arith, length-take len bytes) in
    Fronted-is points (pos len) bytes (take len bytes) text (ok_is Kind _ _ d.1) (record {
      sized = ap pos (sym size);
      parts = rw size (sym (take-append-drop len bytes));
      fits = record {
        utf8 = IsUtf8-from_is_utf8 _ (not_false _ c.0);
        few_bytes = omega arith;
        few_points = ltb-false _ _ d.0;
      };
    })

front_only : (points : ℕ) (text rest : List ℕ) → FitsText points text
    → text_front points (pos (length text)) (text ++ rest) ≡ Ok text
front_only points text rest fits =
    let few : nat_lt (4 * points) (length text) ≡ false = le-ltb _ _ fits.few_bytes in
    let there : nat_lt (length (text ++ rest)) (length text) ≡ false =
    le-ltb _ _ (omega (arith, length-append text rest)) in
    let short : nat_lt points (length (chars text)) ≡ false = le-ltb _ _ fits.few_points in
    rw (few, there, take_at text rest (length text) refl, is_utf8-from_IsUtf8 text fits.utf8, short)
    refl

-- a text that was read was read at the front
text_ok : (start bytes : List ℕ) (read : Result (List ℕ) Kind) (x : List ℕ × List ℕ)
    → text_at start bytes read ≡ Ok x
    → (text : List ℕ) × (read ≡ Ok text) × ((text, drop (length text) bytes) ≡ x)
text_ok start bytes (Ok text) x e = (text, refl, ok_is Stop _ _ e)
text_ok start bytes (Err kind) x e = absurd cc

pub text_found : (points : ℕ) → IsFound (SpellsText points) (text_read points)
unfolding text_read
text_found points bytes x fits e =
    let p = bind_ok (varint_read 5 bytes) (λ (size : ℤ × List ℕ). text_at bytes size.1
    (text_front points size.0 size.1)) x e in
    let q = text_ok bytes p.0.1 (text_front points p.0.0 p.0.1) x p.2 in
    let s = varint_found 5 bytes p.0 fits p.1 in
    let f = front_found points p.0.0 p.0.1 q.0 q.1 in
    let P : ℤ → Type 0 = λ z. SpellsVarint 5 z s.front in
    Found-is (SpellsText points) bytes (q.0, drop (length q.0) p.0.1) x q.2 (record {
      front = s.front ++ q.0;
      parts = joined bytes s.front p.0.1 q.0 (drop (length q.0) p.0.1) s.parts f.parts;
      spelled = record {
        size = s.front;
        sized = subst P f.sized s.spelled;
        parts = refl;
        fits = f.fits;
      };
      rest_fits = IsBytes-drop (length q.0) p.0.1 s.rest_fits;
    })

pub text_only : (points : ℕ) (Rest : List ℕ → Type 0)
    → IsOnly Rest (SpellsText points) (text_read points)
unfolding text_read
text_only points Rest text front rest ends s =
    let parts : front ++ rest ≡ s.size ++ (text ++ rest) = ap (λ (t : List ℕ). t ++ rest) s.parts ∙
    append_assoc s.size text rest in
    rw (
      parts,
      varint_only 5 Anything (pos (length text)) s.size (text ++ rest) tt s.sized,
      front_only points text rest s.fits,
      drop_at text rest (length text) refl,
    ) refl

pub text_fit : (points : ℕ) (text bytes : List ℕ) → SpellsText points text bytes
    → SpellableText points text
text_fit points text bytes s =
    record { fits = s.fits; sized = (varint_fit 5 (pos (length text)) s.size s.sized).0.sfits }

pub text_spelled : (points : ℕ) (text : List ℕ) → SpellableText points text
    → SpellsText points text (text_spelling text)
unfolding text_spelling
text_spelled points text fits = record {
  size = varint_spelling (pos (length text));
  sized = varint_spelled 5 five (pos (length text)) (varint-fits (pos (length text))
      (record { sfits = fits.sized }));
  parts = refl;
  fits = fits.fits;
}

pub text_bounded : (points : ℕ) → IsBounded (SpellsText points) (λ text. 5 + length text)
text_bounded points text bytes s = joined_length bytes s.size text 5 (length text) s.parts
    s.sized.within (omega arith)

-- a text whose length fits its VarInt
pub text_written : (points : ℕ) (text : List ℕ) → FitsText points text → length text < 2 ^ 31
    → SpellsText points text (text_spelling text)
text_written points text fits sized =
    text_spelled points text (record { fits = fits; sized = sized })
