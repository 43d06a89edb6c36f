-- A loop over the numbers of connections by their places: each is looked up and changed in its
-- turn, and none comes or goes.
use Rattle.std.proofs.Common.{◌≡◌, ℕ, ◌+◌, ◌<◌, List, ◌∷◌, drop, length, get_or, refl, sym, subst}
use Rattle.std.proofs.Common.{◌∙◌}
use Rattle.std.proofs.lemmas.List.{drop_more}
use Rattle.std.specs.Prelude.{Some, None}
use Rattle.std.specs.Ordering.{nat_cmp}
use Rattle.std.specs.FinMap.{FinMap, get, insert, keys}
use Rattle.mc_links.specs.Kept.{ConnectionValue}
use Rattle.mc_events.proofs.Loops.{SoFar, loop_first, loop_here, loop_next, loop_skip}
use Rattle.mc_events.proofs.Numbers.{keys_kept, keys_once}

-- those from a place on are as they were, each before it is as it should be
pub record Walks (R : ℕ → ConnectionValue → ConnectionValue → Type 0) (ids : List ℕ) (i : ℕ)
    (old new : FinMap nat_cmp ConnectionValue) : Type 0 where
  pub far : SoFar R (drop i ids) old new
  pub same : keys new ≡ keys old

pub walk_first : {R : ℕ → ConnectionValue → ConnectionValue → Type 0} {ids : List ℕ}
    {m : FinMap nat_cmp ConnectionValue} → ids ≡ keys m → Walks R ids 0 m m
walk_first {R} {ids} {m} are = record {
  far = subst (λ (ks : List ℕ). SoFar R ks m m) (sym are) (loop_first R m (keys_once m));
  same = refl;
}

module _ {R : ℕ → ConnectionValue → ConnectionValue → Type 0} {ids : List ℕ} {i : ℕ}
    {old mid : FinMap nat_cmp ConnectionValue} (lt : i < length ids)
    (walks : Walks R ids i old mid) where
  next : SoFar R (get_or ids i 0 ∷ drop (i + 1) ids) old mid
  next = subst (λ (ks : List ℕ). SoFar R ks old mid) (drop_more ids i 0 lt) walks.far

  pub walk_next : {c : ConnectionValue} (d : ConnectionValue) →
      get mid (get_or ids i 0) ≡ Some c → R (get_or ids i 0) c d →
      Walks R ids (i + 1) old (insert mid (get_or ids i 0) d)
  walk_next {c} d there is = record {
    far = loop_next next d there is;
    same = keys_kept mid (get_or ids i 0) c d there ∙ walks.same;
  }

  pub walk_skip : get mid (get_or ids i 0) ≡ None → Walks R ids (i + 1) old mid
  walk_skip none = record { far = loop_skip next none; same = walks.same }

  -- one that is still to come is as it was
  pub to_come : get mid (get_or ids i 0) ≡ get old (get_or ids i 0)
  to_come = loop_here next
