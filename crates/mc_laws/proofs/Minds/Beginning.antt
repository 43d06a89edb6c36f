-- The game that begins with mobs is good: their numbers rise from 1, none is a player or lies
-- there, and packets can tell each.
use Rattle.std.proofs.Common.{◌≡◌, ℕ, ◌+◌, ◌<◌, ◌≤◌, zero, suc, false, List, [], ◌∷◌, length, map}
use Rattle.std.proofs.Common.{None, refl, arith}
use Rattle.std.specs.Prelude.{◌≤ℤ◌}
use Rattle.std.specs.List.{AllByRecursion, range_with_len}
use Rattle.std.specs.Ordering.{nat_cmp}
use Rattle.std.specs.FinMap.{get-empty}
use Rattle.std.proofs.lemmas.Bool.Decides.{nat_tests}
use Rattle.std.proofs.lemmas.Int.{ints}
use Rattle.std.proofs.lemmas.List.{length-take}
use Rattle.std.proofs.lemmas.List.FromFn.{length-map-range_with_len}
use Rattle.std.proofs.lemmas.List.Sums.{sum_by-cons}
use lib.IntN.{pos}
use Rattle.mc_slots.specs.Pile.{Sort}
use Rattle.mc_land.specs.declared.terrain.Terrain.{Terrain}
use Rattle.mc_land.specs.Places.{key_cmp}
use Rattle.mc_entities.specs.declared.entity.Entity.{Entity}
use Rattle.mc_entities.specs.Folk.{dropped_in, eid_of}
use Rattle.mc_entities.specs.Numbers.{Rise, numbered}
use Rattle.mc_model.specs.declared.mobs.TheConstants.{MOBS_MAX}
use Rattle.mc_model.specs.declared.seen.SeenKind.TheVariants as seen_kinds
use Rattle.mc_model.specs.declared.settings.Settings.{Settings}
use Rattle.mc_model.specs.Balance.{in_entities, lying}
use Rattle.mc_model.specs.Fitting.{EntityFits, HasKind, SpotFits, Told}
use Rattle.mc_model.specs.Game.{new_game}
use Rattle.mc_model.specs.Minds.{Start, plans_of}
use Rattle.mc_model.specs.Good.{Good, is_body}
use Rattle.mc_model.specs.Mobs.{mob_at, mob_spot, mobs_at}
use Rattle.mc_model.proofs.AllFacts.{all_mapped, all_range}
use Rattle.mc_model.proofs.Maps.Options.{none_some, not_both}
use Rattle.mc_model.proofs.ThingFacts.{spawn_low}
use Rattle.mc_laws.proofs.Fits.Told.{found_fits}

-- ---- some mobs

-- what holds of each of so many holds of all
each_mob : (P : Entity → Type 0) (terrain : Terrain) (n : ℕ) →
    ((i : ℕ) → i < n → P (mob_at terrain i)) → AllByRecursion P (mobs_at terrain n)
each_mob P terrain n each = all_mapped (λ (i : ℕ). i < n) P (mob_at terrain) each
    (range_with_len 0 n) (all_range (λ (i : ℕ). i < n) 0 n
    (λ i less. omega (arith, less)))

-- each stands where packets can tell it
mob_fits : (terrain : Terrain) (i : ℕ) → i < MOBS_MAX → SpotFits (mob_spot terrain i)
mob_fits terrain i few = let low = spawn_low terrain in record {
  x = omega (arith, few);
  y = omega (arith, low);
  z = omega (arith, few);
  yaw = omega arith;
  pitch = omega arith;
}

mobs_rise : (terrain : Terrain) (n : ℕ) → Rise eid_of (pos 0) (mobs_at terrain n) (pos n)
mobs_rise terrain n = rises 0 n (omega arith)
  where
    rises : (a m : ℕ) → a + m ≤ n →
        Rise eid_of (pos a) (map (mob_at terrain) (range_with_len a m)) (pos n)
    rises a zero le = omega (arith, ints, le)
    rises a (suc m) le = (omega (arith, ints), rises (a + 1) m (omega (arith, le)))

-- none has a number above theirs
none_above : (n m : ℕ) (es : List Entity) → n < m →
    AllByRecursion (λ (e : Entity). e.eid ≤ℤ pos n) es → numbered eid_of (pos m) es ≡ None
none_above n m [] above a = refl
none_above n m (e ∷ es) above a = grind (arith, nat_tests, ints, none_above n m es above a.1)

-- none lies there
none_lie : (terrain : Terrain) (n : ℕ) → dropped_in (mobs_at terrain n) ≡ 0
none_lie terrain n = none 0 n
  where
    none : (a m : ℕ) → dropped_in (map (mob_at terrain) (range_with_len a m)) ≡ 0
    none a zero = refl
    none a (suc m) = none (a + 1) m

-- and none is an item
pub none_weigh : (sort : Sort) (terrain : Terrain) (n : ℕ) →
    in_entities sort (mobs_at terrain n) ≡ 0
none_weigh sort terrain n = none 0 n
  where
    none : (a m : ℕ) → in_entities sort (map (mob_at terrain) (range_with_len a m)) ≡ 0
    none a zero = refl
    none a (suc m) =
        let first = sum_by-cons (λ (e : Entity). lying sort e.kind) (mob_at terrain a)
        (map (mob_at terrain) (range_with_len (a + 1) m)) in
        let rest = none (a + 1) m in
        omega (arith, first, rest)

-- ---- the game

pub few_mobs : (start : Start) → length (plans_of start) ≤ MOBS_MAX
few_mobs start = let size = length-take MOBS_MAX start.plans in omega (arith, size)

pub new_few : (settings : Settings) (n : ℕ) → n ≤ MOBS_MAX →
    length (new_game settings n).entities ≤ MOBS_MAX
new_few settings n few =
    let size = length-map-range_with_len (mob_at settings.terrain) 0 n in omega (arith, few, size)

pub new_told : (settings : Settings) (n : ℕ) → n ≤ MOBS_MAX → Told (new_game settings n)
new_told settings n few =
    let terrain = settings.terrain in
    let none = none_lie terrain n in
    record {
      states = λ key state there. absurd (none_some _ state (get-empty key_cmp key) there);
      fits = each_mob EntityFits terrain n (λ i less. record {
        low = omega (arith, ints);
        high = omega (arith, ints, few, less);
        spot = mob_fits terrain i (omega (arith, few, less));
        kind = tt;
        named = tt;
      });
      kinds = record {
        kind_at = λ eid. seen_kinds.Mob;
        entities = each_mob (HasKind (record { given = n; kind_at = λ eid. seen_kinds.Mob }))
            terrain n (λ i less. (omega (arith, ints, less), refl));
      };
      lying = omega (arith, none);
      few = omega (arith, few);
    }

pub new_whole : (settings : Settings) (n : ℕ) → Good (new_game settings n)
new_whole settings n =
    let terrain = settings.terrain in
    record {
      own = λ k p is. absurd (none_some _ p (get-empty nat_cmp k) is);
      apart = λ j k p q is too ne. absurd (none_some _ p (get-empty nat_cmp j) is);
      piles = λ name pack is. absurd (none_some _ pack (get-empty _ name) is);
      fresh = λ m above. none_above n m (mobs_at terrain n) above
          (each_mob (λ (e : Entity). e.eid ≤ℤ pos n) terrain n
          (λ i less. omega (arith, ints, less)));
      rise = mobs_rise terrain n;
      bodies = λ m e found is. absurd (not_both (is_body e.kind) is
          (found_fits (λ (x : Entity). is_body x.kind ≡ false) (pos m) (mobs_at terrain n)
          (each_mob (λ (x : Entity). is_body x.kind ≡ false) terrain n (λ i less. refl)) e found));
    }
