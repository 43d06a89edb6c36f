-- What one connection is handed of what a step hands out.
use Rattle.std.proofs.Common.{◌≡◌, ◌≢◌, ℕ, Bool, true, cond, T, List, [], ◌∷◌, ◌++◌, map, Option}
use Rattle.std.proofs.Common.{Some, None, refl, sym, ap, ◌∙◌, inl, inr}
use Rattle.std.proofs.lemmas.Bool.{cases_eq, eq-eqb, ne_eqb}
use Rattle.std.proofs.lemmas.List.{append-nil}
use Rattle.std.specs.Ordering.{nat_cmp, eq_by_cmp}
use Rattle.std.specs.Cmp.{nat_cmp_total}
use Rattle.std.specs.FinMap.{FinMap, entries, entries_sorted, find, get, get-entries, is_sorted}
use Rattle.mc_model.specs.Packets.{Sent}
use Rattle.mc_model.specs.Run.{to}
use Rattle.mc_model.proofs.Maps.Sorted.{find_again, second}
use Rattle.mc_model.proofs.Maps.Lookups.{tied_number, untied_number}

pub to_own : (k : ℕ) (ps : List Sent) → to k ((k, ps) ∷ []) ≡ ps
to_own k ps = ap (λ (b : Bool). cond b ps [] ++ []) (eq-eqb k k refl) ∙ append-nil ps

pub to_other : (k j : ℕ) (ps : List Sent) → j ≢ k → to j ((k, ps) ∷ []) ≡ []
to_other k j ps ne =
    ap (λ (b : Bool). cond b ps [] ++ []) (ne_eqb k j (λ same. ne (sym same)))

-- what a connection is handed by what each of a map's is
abbrev pub handed_by : {X : Type 0} → (ℕ → X → List Sent) → ℕ → Option X → List Sent
handed_by h k None = []
handed_by h k (Some x) = h k x

module _ {X : Type 0} (h : ℕ → X → List Sent) (k : ℕ) where
  abbrev outs : List (ℕ × X) → List (ℕ × List Sent)
  outs es = map (λ (e : ℕ × X). (e.0, h e.0 e.1)) es

  to_found : (es : List (ℕ × X)) → T (is_sorted nat_cmp es) →
      to k (outs es) ≡ handed_by h k (find nat_cmp k es)
  to_found [] sorted = refl
  to_found (e ∷ es) sorted = elim (cases_eq e.0 k) [
    | inl same ↦ here same (to_found es (second _ _ sorted))
    | inr ne ↦ there ne (to_found es (second _ _ sorted))
  ]
    where
      here : e.0 ≡ k → to k (outs es) ≡ handed_by h k (find nat_cmp k es) →
          to k (outs (e ∷ es)) ≡ handed_by h k (find nat_cmp k (e ∷ es))
      here same rest =
          let tie : eq_by_cmp nat_cmp k e.0 ≡ true =
          ap (eq_by_cmp nat_cmp k) same ∙ tied_number k in
          let none = find_again nat_cmp_total k e es sorted tie in
          ap (λ (b : Bool). cond b (h e.0 e.1) [] ++ to k (outs es)) (eq-eqb e.0 k same)
          ∙ ap (λ (qs : List Sent). h e.0 e.1 ++ qs) (rest ∙ ap (handed_by h k) none)
          ∙ append-nil (h e.0 e.1) ∙ ap (λ (n : ℕ). h n e.1) same
          ∙ sym (ap (λ (b : Bool). handed_by h k (cond b (Some e.1) (find nat_cmp k es))) tie)

      there : e.0 ≢ k → to k (outs es) ≡ handed_by h k (find nat_cmp k es) →
          to k (outs (e ∷ es)) ≡ handed_by h k (find nat_cmp k (e ∷ es))
      there ne rest =
          ap (λ (b : Bool). cond b (h e.0 e.1) [] ++ to k (outs es)) (ne_eqb e.0 k ne)
          ∙ rest ∙ sym (ap (λ (b : Bool). handed_by h k (cond b (Some e.1) (find nat_cmp k es)))
          (untied_number k e.0 (λ same. ne (sym same))))

  pub to_each : (m : FinMap nat_cmp X) →
      to k (outs (entries m)) ≡ handed_by h k (get m k)
  to_each m = to_found (entries m) (entries_sorted m)
      ∙ ap (handed_by h k) (sym (get-entries m k))
