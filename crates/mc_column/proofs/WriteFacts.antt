-- A body is appended part by part.
use Rattle.std.proofs.Common.{◌≡◌, ℕ, suc, ◌+◌, ◌*◌, ◌<◌, ◌≤◌, Bool, true, false, cond, List, []}
use Rattle.std.proofs.Common.{◌++◌, length, take, drop, replicate, Vec, Global, vec_len}
use Rattle.std.proofs.Common.{vec_capacity, refl, sym, ap, ◌∙◌, arith, append_assoc}
use Rattle.std.proofs.lemmas.Bool.Decides.{nat_tests}
use Rattle.std.proofs.lemmas.List.{append-nil, length-append, drop_all, drop-drop, take-append-drop}
use Rattle.std.proofs.lemmas.List.{length-replicate}
use Rattle.mc_column.specs.Sizes.{section_count, section_cells, light_bytes, row_bytes}
use Rattle.mc_column.specs.Cells.{joined, picked, rank, wire}
use Rattle.mc_column.specs.Light.{sky_bytes, section_sky}
use Rattle.mc_column.proofs.Pairs.{wire-append, length-wire}
use Rattle.mc_column.proofs.Pieces.{AreSized, piece, length-joined}
use Rattle.mc_column.proofs.LightFacts.{length-sky_bytes, sky_bytes_past}

-- the states of the sections below i that are named are appended
pub record AreAppended (named : ℕ → Bool) (sections : ℕ → List ℕ) (old now : Vec ℕ Global) (i : ℕ) :
    Type 0 where
  pub items : now.items ≡ old.items ++ wire (joined (picked named sections) i)
  pub room : vec_capacity old ≤ vec_capacity now
  pub len : vec_len now ≡ vec_len old + rank named i * (2 * section_cells)

-- the sky light of the named sections from i on is written, and the light is that of the lowest
-- layer of section i
pub record IsSky (named : ℕ → Bool) (states light sky : List ℕ) (i : ℕ) : Type 0 where
  pub light_is : length light ≡ row_bytes
  pub now : light ≡ sky_bytes states (i * section_cells) row_bytes
  pub sky_is : length sky ≡ rank named section_count * light_bytes
  pub done : drop (rank named i * light_bytes) sky ≡ drop (rank named i * light_bytes)
      (joined (picked named (section_sky states)) section_count)

pub appended_none : (named : ℕ → Bool) (sections : ℕ → List ℕ) (old : Vec ℕ Global) →
    AreAppended named sections old old 0
appended_none named sections old = grind (arith, nat_tests, append-nil)

pub appended_more : (named : ℕ → Bool) (sections : ℕ → List ℕ) (old now new : Vec ℕ Global) (i : ℕ)
    → AreAppended named sections old now i → length (sections i) ≡ section_cells →
    new.items ≡ now.items ++ wire (cond (named i) (sections i) []) →
    vec_capacity now ≤ vec_capacity new → AreAppended named sections old new (i + 1)
appended_more named sections old now new i appended sized put room =
    let next : i + 1 ≡ suc i = omega arith in
    record {
      items = put ∙ rw (
        appended.items,
        next,
        wire-append (joined (picked named sections) i)
            (cond (named i) (sections i) []),
      )
          (append_assoc old.items (wire (joined (picked named sections) i))
          (wire (cond (named i) (sections i) [])));
      room = omega (arith, appended.room);
      len = grown (named i) (ap length put ∙
          length-append now.items (wire (cond (named i) (sections i) []))) next refl;
    }
  where
    more : (r n : ℕ) → (r + 1) * n ≡ r * n + n
    more r n = grind arith

    grown : (b : Bool) → length new.items ≡ length now.items +
        length (wire (cond b (sections i) [])) → i + 1 ≡ suc i → named i ≡ b →
        vec_len new ≡ vec_len old + rank named (i + 1) * (2 * section_cells)
    grown b len next named' = grind (arith, nat_tests, length-wire, more)

-- ---- sky light

sky_sized : (states : List ℕ) → AreSized (section_sky states) light_bytes section_count
sky_sized states = record { at = λ k lt. length-sky_bytes states (k * section_cells) light_bytes }

pub sky_none : (named : ℕ → Bool) (states light sky : List ℕ) (i : ℕ) → i ≡ section_count →
    length states ≡ section_count * section_cells → light ≡ replicate row_bytes 255 →
    length sky ≡ rank named section_count * light_bytes → IsSky named states light sky i
sky_none named states light sky i top len full sized =
    grind (arith, nat_tests, length-replicate, sky_bytes_past, drop_all, length-joined, sky_sized)

-- a list is its first piece and the rest
split_at : (xs first : List ℕ) (a n : ℕ) → take n (drop a xs) ≡ first → drop a xs ≡ first ++
    drop (a + n) xs
split_at xs first a n is = rw (← is, ← drop-drop n a xs) (sym (take-append-drop n (drop a xs)))

pub sky_more : (named : ℕ → Bool) (states light sky light' sky' : List ℕ) (i z : ℕ) → z ≡ i + 1 →
    i < section_count → IsSky named states light sky z → length sky' ≡ length sky →
    light' ≡ sky_bytes states (i * section_cells) row_bytes →
    (named i ≡ true → drop (rank named i * light_bytes) sky' ≡ section_sky states i ++
    drop (rank named i * light_bytes + light_bytes) sky) → (named i ≡ false → sky' ≡ sky) →
    IsSky named states light' sky' i
sky_more named states light sky light' sky' i z step lt lit len now written kept =
    grind (arith, length-sky_bytes, split_at, piece, next)
  where
    next : i + 1 ≡ suc i
    next = omega arith

    more : (r n : ℕ) → (r + 1) * n ≡ r * n + n
    more r n = grind arith
