-- What can be shown so that its packets fit, and that all that is projected can.
use Rattle.std.proofs.Common.{◌≡◌, ℕ, zero, suc, ◌+◌, ◌≤◌, Bool, true, false, cond, List, [], ◌∷◌}
use Rattle.std.proofs.Common.{length, refl, sym, subst, ◌∙◌, arith}
use Rattle.std.specs.Prelude.{Some, unsigned_abs, replicate}
use Rattle.std.specs.Int.{w32, w64, int_div_euclid}
use Rattle.std.specs.List.{AllByRecursion}
use Rattle.std.specs.declared.cmp.Ordering.{Ordering}
use Rattle.std.specs.declared.cmp.Ordering.TheVariants.{Less, Equal, Greater}
use Rattle.std.specs.Ordering.{nat_cmp, int_cmp}
use Rattle.std.specs.Cmp.{IsTotalOrder, nat_cmp_total, int_cmp_total}
use Rattle.std.specs.FinMap.{IsAntisymmetric, nat_cmp-IsAntisymmetric, entries, empty}
use Rattle.std.specs.FinMap.{int_cmp-IsAntisymmetric, from_entries, contains_key, len, len-empty}
use Rattle.std.specs.FinMap.{len-entries, len-insert, entries-insert}
use Rattle.std.specs.FinMap.Entries.{put, by_order}
use Rattle.std.proofs.lemmas.List.{nil_from_length}
use lib.IntN.{ℤ, pos, negsuc}
use mir.Val.{SFits}
use Rattle.mc_slots.specs.declared.slot.Slot.TheVariants as slots
use Rattle.mc_slots.specs.declared.pile.Pile.TheVariants.{Empty}
use Rattle.mc_land.specs.Places.{place_cmp}
use Rattle.mc_land.proofs.Orders.{places_total, exact_places}
use Rattle.mc_windows.specs.Pack.{pack_size}
use Rattle.mc_view.specs.declared.view_set.TheConstants.{MIDDLE_BORDER}
use Rattle.mc_view.specs.Views.{view_size}
use Rattle.mc_model.specs.Sight.{ChestWindow, Seen, Sight, nothing_seen}
use Rattle.mc_model.specs.Fitting.{SpotFits}
use Rattle.mc_model.proofs.FitsBeats.{ToldFits}
use Rattle.mc_model.proofs.FitsChat.{LineFits}
use Rattle.mc_model.proofs.FitsDue.{WindowFits}
use Rattle.mc_model.proofs.FitsList.{PairFits}
use Rattle.mc_model.proofs.FitsChunk.{ColumnFits}
use Rattle.mc_model.proofs.FitsSlots.{SlotFits, pile_slot_fits}
use Rattle.mc_model.proofs.FitsEntities.{KindFits}

-- ---- the entries of a map that was made of a list

module _ {K X : Type 0} (R : K → K →
    Ordering) (o : IsTotalOrder R) (exact : IsAntisymmetric R) (P : K × X → Type 0) where
  -- of what is put in
  all_put : (k : K) (v : X) → P (k, v) → (es : List (K × X)) → AllByRecursion P es →
      AllByRecursion P (put R k v es)
  all_put k v p [] a = (p, tt)
  all_put k v p (e ∷ es) a =
      elim (R k e.0) as (λ r. R k e.0 ≡ r →
      AllByRecursion P (by_order r ((k, v) ∷ e ∷ es) ((e.0, v) ∷ es) (e ∷ put R k v es))) [
        | Less ↦ λ t. (p, (a.0, a.1))
        | Equal ↦ λ t. (let Q : K → Type 0 = λ j. P (j, v) in subst Q (exact k e.0 t) p, a.1)
        | Greater ↦ λ t. (a.0, all_put k v p es a.1)
      ] refl

  -- of what a map is made of
  pub all_entries : (es : List (K × X)) → AllByRecursion P es →
      AllByRecursion P (entries (from_entries {R = R} es))
  all_entries [] a =
      let none : entries (empty {X = X} {R = R}) ≡ [] =
      nil_from_length _ (sym (len-entries empty) ∙ len-empty R X) in
      subst (AllByRecursion P) (sym none) tt
  all_entries (e ∷ es) a =
      subst (AllByRecursion P) (sym (entries-insert o (from_entries es) e.0 e.1))
      (all_put e.0 e.1 a.0 (entries (from_entries es)) (all_entries es a.1))

-- inserting adds one at most
few_inserted : (b : Bool) (n m : ℕ) → n ≤ m → cond b n (n + 1) ≤ suc m
few_inserted true n m le = omega (arith, le)
few_inserted false n m le = omega (arith, le)

-- the map of a list has no more entries than the list
few_entries : {K X : Type 0} (R : K → K → Ordering) (o : IsTotalOrder R) (es : List (K × X))
    → len (from_entries {R = R} es) ≤ length es
few_entries {X = X} R o [] = rw (len-empty R X) (omega arith)
few_entries R o (e ∷ es) = rw (len-insert o (from_entries es) e.0 e.1)
    (few_inserted (contains_key (from_entries es) e.0) (len (from_entries es)) (length es)
    (few_entries R o es))

-- and so has that of some
pub few_shown : {K X : Type 0} (R : K → K → Ordering) (o : IsTotalOrder R) (most : ℕ)
    (es : List (K × X)) → length es ≤ most → length (entries (from_entries {R = R} es)) ≤ most
few_shown R o most es few =
    let le = few_entries R o es in
    let size = rw len-entries at le in
    omega (arith, size, few)

-- the number of a place's column
pub column_near : (x : ℤ) → unsigned_abs x ≤ 960000016 →
    unsigned_abs (int_div_euclid x (pos 512)) ≤ MIDDLE_BORDER + 1
column_near (pos n) small = omega (arith, small)
column_near (negsuc n) small = omega (arith, small)

-- how far is seen at most
pub size_few : (cap : ℕ) (byte : ℤ) → cap ≤ 8 → view_size cap byte ≤ 8
size_few cap (pos n) few = omega (arith, few)
size_few cap (negsuc n) few = omega arith

-- ---- entities that are seen

-- an entity that packets can carry
pub record SeenFits (e : ℤ × Seen) : Type 0 where
  pub eid : SFits w32 e.0
  pub kind : KindFits e.1.kind
  pub spot : SpotFits e.1.spot
  pub pile : SlotFits e.1.pile

-- ---- sights

-- what is shown, so that packets can carry it
pub record SightFits (p : Sight) : Type 0 where
  pub pairs : AllByRecursion PairFits (entries p.pairs)
  pub few : length (entries p.pairs) ≤ 50
  pub columns : AllByRecursion ColumnFits (entries p.columns)
  pub entities : AllByRecursion SeenFits (entries p.entities)
  pub crowd : length (entries p.entities) ≤ 4210
  pub window : (w : ChestWindow) → p.window ≡ Some w → WindowFits w
  pub pack : AllByRecursion SlotFits p.pack
  pub slots : length p.pack ≡ pack_size
  pub cursor : SlotFits p.cursor
  pub beat : ToldFits w32 p.beat
  pub age : ToldFits w64 p.age
  pub chat : AllByRecursion LineFits p.chat

-- empty slots fit
empty_fit : (n : ℕ) → AllByRecursion SlotFits (replicate n slots.Empty)
empty_fit zero = tt
empty_fit (suc n) = (pile_slot_fits Empty tt, empty_fit n)

-- nothing that is seen fits
pub nothing_fits : SightFits nothing_seen
nothing_fits = record {
  pairs = all_entries nat_cmp nat_cmp_total nat_cmp-IsAntisymmetric PairFits [] tt;
  few = few_shown {X = List ℕ} nat_cmp nat_cmp_total 50 [] (omega arith);
  columns = all_entries place_cmp places_total exact_places ColumnFits [] tt;
  entities = all_entries int_cmp int_cmp_total int_cmp-IsAntisymmetric SeenFits [] tt;
  crowd = few_shown {X = Seen} int_cmp int_cmp_total 4210 [] (omega arith);
  window = λ w is. absurd cc;
  pack = empty_fit pack_size;
  slots = refl;
  cursor = pile_slot_fits Empty tt;
  beat = tt;
  age = tt;
  chat = tt;
}
