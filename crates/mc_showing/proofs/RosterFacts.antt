-- A roster with one more player, and with one less.
use Rattle.std.proofs.Common.{◌≡◌, ℕ, ◌+◌, ◌-◌, ◌<◌, ◌≤◌, Bool, true, false, cond, List, [], ◌∷◌}
use Rattle.std.proofs.Common.{IsTrue, length, not, refl, sym, subst, ap, ◌∙◌, arith}
use Rattle.std.proofs.lemmas.Bool.Decides.{nat_tests}
use Rattle.std.proofs.lemmas.List.{nil_from_length}
use Rattle.std.specs.Prelude.{Option, None}
use Rattle.std.specs.List.{AllByRecursion}
use Rattle.std.specs.Cmp.{eq_by_cmp_equiv, nat_cmp_total}
use Rattle.std.specs.Ordering.{eq_by_cmp, nat_cmp}
use Rattle.std.specs.FinMap.{FinMap, contains_key, empty, entries, entries-insert, entries_sorted}
use Rattle.std.specs.FinMap.{find, get, get-entries, get-remove, insert, len, len-empty}
use Rattle.std.specs.FinMap.{len-entries, len-insert, len-remove, nat_cmp-IsAntisymmetric, put}
use Rattle.std.specs.FinMap.{remove}
use Rattle.std.specs.FinMap.Entries.{find-where_key, is_sorted-where_key, same_entries, where_key}
use Rattle.mc_model.specs.Names.{is_name}
use Rattle.mc_model.proofs.FitsText.{name_short}
use Rattle.mc_sending.proofs.Pieces.{all_filtered}
use Rattle.mc_flush.specs.Lists.{ListValue, new_list, with_name, without_name}
use Rattle.mc_flush.specs.Seeing.{IsNamed}
use Rattle.mc_showing.specs.Rosters.{IsRoster}

-- a name is short enough to be listed
pub name_few : (name : List ℕ) → IsTrue (is_name name) → length name ≤ 64
name_few name is = let short = name_short name is in omega (arith, short.few)

-- ---- nobody

no_names : AllByRecursion IsNamed (entries (empty {X = List ℕ} {R = nat_cmp}))
no_names = subst (AllByRecursion IsNamed)
    (sym (nil_from_length _ (sym (len-entries empty) ∙ len-empty nat_cmp (List ℕ)))) tt

none_few : len (empty {X = List ℕ} {R = nat_cmp}) ≤ 50
none_few = let none = len-empty nat_cmp (List ℕ) in omega (arith, none)

pub nobody : IsRoster new_list
nobody = record { few = none_few; few_before = none_few; named = no_names }

-- ---- one more

named_put : (k : ℕ) (name : List ℕ) (es : List (ℕ × List ℕ)) → length name ≤ 64 →
    AllByRecursion IsNamed es → AllByRecursion IsNamed (put nat_cmp k name es)
named_put k name [] short all = (short, tt)
named_put k name (e ∷ es) short all = grind (arith, nat_tests, named_put k name es short all.1)

pub name_added : (list : ListValue) (uuid : ℕ) (name : List ℕ) → len list.present < 50 →
    length name ≤ 64 → IsRoster list → IsRoster (with_name list uuid name)
name_added list uuid name room short is = record {
  few = few_more (contains_key list.present uuid) (len list.present)
      (len (insert list.present uuid name)) room (len-insert nat_cmp_total list.present uuid name);
  few_before = is.few_before;
  named = subst (AllByRecursion IsNamed) (sym (entries-insert nat_cmp_total list.present uuid name))
      (named_put uuid name (entries list.present) short is.named);
}
  where
    few_more : (there : Bool) (old new : ℕ) → old < 50 → new ≡ cond there old (old + 1) → new ≤ 50
    few_more true old new lt e = omega (arith, lt, e)
    few_more false old new lt e = omega (arith, lt, e)

-- ---- one less

turned : {A : Type 0} (b : Bool) (x y : A) → cond b y x ≡ cond (not b) x y
turned true x y = refl
turned false x y = refl

-- the entries without a key
pub entries_removed : {X : Type 0} (m : FinMap nat_cmp X) (k : ℕ) →
    entries (remove m k) ≡ where_key nat_cmp (λ (x : ℕ). not (eq_by_cmp nat_cmp k x)) (entries m)
entries_removed {X} m k =
    let test : ℕ → Bool = λ (x : ℕ). not (eq_by_cmp nat_cmp k x) in
    same_entries nat_cmp nat_cmp_total nat_cmp-IsAntisymmetric _ _ (entries_sorted (remove m k))
    (is_sorted-where_key nat_cmp test (entries m) (entries_sorted m)) (λ q.
    sym (get-entries (remove m k) q) ∙ get-remove nat_cmp_total m k q
    ∙ ap (λ (b : Bool). cond b None (get m q)) ((eq_by_cmp_equiv nat_cmp_total).symm q k)
    ∙ ap (λ (v : Option X). cond (eq_by_cmp nat_cmp k q) None v) (get-entries m q)
    ∙ turned (eq_by_cmp nat_cmp k q) (find nat_cmp q (entries m)) None
    ∙ sym (find-where_key nat_cmp test q
    (λ x t. ap test (sym (nat_cmp-IsAntisymmetric q x t))) (entries m)))

pub name_gone : (list : ListValue) (uuid : ℕ) → IsRoster list → IsRoster (without_name list uuid)
name_gone list uuid is = record {
  few = few_less (contains_key list.present uuid) (len list.present)
      (len (remove list.present uuid)) is.few (len-remove nat_cmp_total list.present uuid);
  few_before = is.few_before;
  named = subst (AllByRecursion IsNamed) (sym (entries_removed list.present uuid))
      (all_filtered IsNamed (λ (e : ℕ × List ℕ). not (eq_by_cmp nat_cmp uuid e.0))
      (entries list.present) is.named);
}
  where
    few_less : (there : Bool) (old new : ℕ) → old ≤ 50 → new ≡ cond there (old - 1) old → new ≤ 50
    few_less true old new le e = omega (arith, le, e)
    few_less false old new le e = omega (arith, le, e)
