-- What packets make of what a client sees: one list of packets after another, and the packets of
-- one entry of a map after another.
use Rattle.std.proofs.Common.{◌≡◌, true, false, cond, T, List, [], ◌∷◌, ◌++◌, Option, Some, refl}
use Rattle.std.proofs.Common.{map, sym, ap, subst, ◌∙◌, arith}
use Rattle.std.proofs.lemmas.Bool.Decides.{nat_tests}
use Rattle.std.specs.List.{flat_map, fold}
use Rattle.std.specs.declared.cmp.Ordering.{Ordering}
use Rattle.std.specs.Ordering.{is_eq, eq_by_cmp}
use Rattle.std.specs.Cmp.{IsTotalOrder, tied_itself}
use Rattle.std.specs.FinMap.{FinMap, find, is_sorted, get, insert, get-insert}
use Rattle.std.proofs.lemmas.List.Sums.{fold-append}
use Rattle.mc_packets.specs.declared.down.Down.{Down}
use Rattle.mc_model.specs.Sight.{Sight}
use Rattle.mc_model.specs.Replica.{replay, seeing}
use Rattle.mc_model.proofs.Maps.Sorted.{second, find_again, put_in}

-- the packets make of a replica that sees one thing a replica that sees another
pub record Leads (s : Sight) (packets : List Down) (t : Sight) : Type 0 where
  pub is : replay (seeing s) packets ≡ seeing t

-- one after the other
pub onward : {s t u : Sight} {xs ys : List Down} → Leads s xs t → Leads t ys u →
    Leads s (xs ++ ys) u
onward {s} {t} {u} {xs} {ys} first later = grind (arith, nat_tests, fold-append)

-- no packets change nothing
pub no_packets : (s : Sight) → Leads s [] s
no_packets s = record { is = refl }

-- nor do those of a list, where the packet of each changes nothing
pub mapped_keep : {A : Type 0} (s : Sight) (packet : A → Down) →
    ((a : A) → Leads s (packet a ∷ []) s) → (xs : List A) → Leads s (map packet xs) s
mapped_keep s packet each [] = no_packets s
mapped_keep s packet each (x ∷ xs) = onward (each x) (mapped_keep s packet each xs)

-- the same from and to equal sights
pub led : {s t u v : Sight} {packets : List Down} → s ≡ t → u ≡ v → Leads t packets u →
    Leads s packets v
led {packets} from to leads = record {
  is = ap (λ (s : Sight). replay (seeing s) packets) from ∙ leads.is ∙ ap seeing to;
}

-- ---- entry by entry

-- Where the packets of each entry put it into a map that has before it what they ask for, those of
-- all put all of them in.
module _ {K X : Type 0} {R : K → K → Ordering} (o : IsTotalOrder R) (at : FinMap R X → Sight)
    (packets : K × X → List Down) (Before : K → X → Option X → Type 0)
    (each : (m : FinMap R X) (k : K) (v : X) → Before k v (get m k) →
    Leads (at m) (packets (k, v)) (at (insert m k v))) where
  pub walked : (es : List (K × X)) → T (is_sorted R es) → (m : FinMap R X) →
      ((q : K) (v : X) → find R q es ≡ Some v → Before q v (get m q)) →
      Leads (at m) (flat_map packets es) (at (fold put_in m es))
  walked [] h m before = no_packets (at m)
  walked (e ∷ es) h m before =
      onward (each m e.0 e.1 (before e.0 e.1 here))
      (walked es (second _ _ h) (insert m e.0 e.1) later)
    where
      here : find R e.0 (e ∷ es) ≡ Some e.1
      here = ap (λ r. cond (is_eq r) (Some e.1) (find R e.0 es)) (tied_itself o e.0)

      later : (q : K) (v : X) → find R q es ≡ Some v → Before q v (get (insert m e.0 e.1) q)
      later q v found = elim (eq_by_cmp R q e.0) as (λ b. eq_by_cmp R q e.0 ≡ b →
          Before q v (get (insert m e.0 e.1) q)) [
            | true ↦ λ t. let none = find_again o q e es h t in absurd cc
            | false ↦ λ t. subst (Before q v) (sym (get-insert o m e.0 e.1 q
                ∙ ap (λ b. cond b (Some e.1) (get m q)) t))
                (before q v (ap (λ b. cond b (Some e.1) (find R q es)) t ∙ found))
          ] refl
