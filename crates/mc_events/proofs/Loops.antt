-- A loop over the numbers of connections, in which each is looked up and changed in its turn.
use Rattle.std.proofs.Common.{◌≡◌, ◌≢◌, ℕ, Bool, true, false, List, [], ◌∷◌, refl, sym, subst, ap}
use Rattle.std.proofs.Common.{◌∙◌, inl, inr}
use Rattle.std.specs.Prelude.{Option, Some, None, is_some}
use Rattle.std.specs.List.{list_any}
use Rattle.std.specs.Ordering.{eq_by_cmp, nat_cmp}
use Rattle.std.proofs.lemmas.Bool.{cases_eq}
use Rattle.std.specs.FinMap.{FinMap, contains_key-keys, get, insert, keys}
use Rattle.mc_model.proofs.Maps.Lookups.{put_same, put_other, tied_number, untied_number}
use Rattle.mc_links.specs.Kept.{ConnectionValue}
use Rattle.mc_events.specs.Served.{Both}

-- a number is one of these
abbrev pub is_of : ℕ → List ℕ → Bool
is_of k ids = list_any (eq_by_cmp nat_cmp k) ids

-- no number stands twice
abbrev pub AreOnce : List ℕ → Type 0
AreOnce [] = Unit {0}
AreOnce (k ∷ ks) = (is_of k ks ≡ false) × AreOnce ks

-- those of the numbers that are still to come are as they were, and each other is as it should be
pub record SoFar (R : ℕ → ConnectionValue → ConnectionValue → Type 0) (later : List ℕ)
    (old new : FinMap nat_cmp ConnectionValue) : Type 0 where
  pub once : AreOnce later
  pub done : (k : ℕ) → is_of k later ≡ false → Both (R k) (get old k) (get new k)
  pub same : (k : ℕ) → is_of k later ≡ true → get new k ≡ get old k

none_both : (R : ConnectionValue → ConnectionValue → Type 0) (o : Option ConnectionValue) →
    is_some o ≡ false → Both R o o
none_both R None e = tt
none_both R (Some c) e = absurd cc

-- before the first one, of all that are there
pub loop_first : (R : ℕ → ConnectionValue → ConnectionValue → Type 0)
    (m : FinMap nat_cmp ConnectionValue) → AreOnce (keys m) → SoFar R (keys m) m m
loop_first R m once = record {
  once = once;
  done = λ k no. none_both (R k) (get m k) (contains_key-keys m k ∙ no);
  same = λ k is. refl;
}

module _ {R : ℕ → ConnectionValue → ConnectionValue → Type 0} {k : ℕ} {later : List ℕ}
    {old mid : FinMap nat_cmp ConnectionValue} (so : SoFar R (k ∷ later) old mid) where
  -- the next one is as it was
  pub loop_here : get mid k ≡ get old k
  loop_here = so.same k (rw (tied_number k) refl)

  -- once it is as it should be, and all others are as they were
  loop_past : (new : FinMap nat_cmp ConnectionValue) → Both (R k) (get old k) (get new k) →
      ((j : ℕ) → j ≢ k → get new j ≡ get mid j) → SoFar R later old new
  loop_past new here others = record {
    once = so.once.1;
    done = λ j no. elim (cases_eq j k) [
      | inl same ↦ subst (λ (n : ℕ). Both (R n) (get old n) (get new n)) (sym same) here
      | inr ne ↦ rw (others j ne) (so.done j (rw (untied_number j k ne) no))
    ];
    same = λ j is. others j (apart j is)
        ∙ so.same j (rw (untied_number j k (apart j is)) is);
  }
    where
      apart : (j : ℕ) → is_of j later ≡ true → j ≢ k
      apart j is same = (let clash : true ≡ false =
          sym is ∙ ap (λ (n : ℕ). is_of n later) same ∙ so.once.0 in absurd cc)

  -- it is changed
  pub loop_next : {c : ConnectionValue} (d : ConnectionValue) → get mid k ≡ Some c → R k c d →
      SoFar R later old (insert mid k d)
  loop_next d there is = loop_past (insert mid k d)
      (rw (put_same mid k d, sym loop_here ∙ there) is) (λ j ne. put_other mid k j d ne)

  -- it is not there
  pub loop_skip : get mid k ≡ None → SoFar R later old mid
  loop_skip none = loop_past mid (rw (none, sym loop_here ∙ none) tt) (λ j ne. refl)
