-- What the packets about the list of players make of what a client sees.
use Rattle.std.proofs.Common.{◌≡◌, ℕ, List, [], ◌∷◌, map, refl, ap, ◌∙◌, arith}
use Rattle.std.proofs.lemmas.Bool.Decides.{nat_tests}
use Rattle.std.specs.List.{fold}
use Rattle.std.specs.Cmp.{nat_cmp_total}
use Rattle.std.specs.FinMap.{insert, remove}
use Rattle.std.proofs.lemmas.Slice.Eq.{bytes_eq-Decides}
use lib.IntN.{pos}
use Rattle.mc_model.specs.Sight.{Sight}
use Rattle.mc_model.specs.Replica.{apply, replay, seeing, with_players}
use Rattle.mc_model.specs.Delta.{Pairs, missing, leaver, joiner, about, leavers_point}
use Rattle.mc_model.specs.Delta.{joiners_point}
use Rattle.mc_model.proofs.Maps.Sorted.{take_out, put_in, remade}
use Rattle.mc_laws.proofs.Leading.{Leads}

-- the pairs that are missing in the other are exchanged: that is the other
pub pairs_exchanged : (m n : Pairs) → fold put_in (fold take_out m (missing m n)) (missing n m) ≡ n
pairs_exchanged m n = grind (arith, nat_tests, remade, nat_cmp_total, bytes_eq-Decides)

-- players that leave are taken out of the list
left : (m : Pairs) (es : List (ℕ × List ℕ)) → with_players m (map leaver es) ≡ fold take_out m es
left m [] = refl
left m (e ∷ es) = left (remove m e.0) es

-- and those that join put in
came : (m : Pairs) (es : List (ℕ × List ℕ)) → with_players m (map joiner es) ≡ fold put_in m es
came m [] = refl
came m (e ∷ es) = came (insert m e.0 e.1) es

-- a packet about players changes the list of players alone
pub leavers_lead : (s : Sight) (es : List (ℕ × List ℕ)) →
    replay (seeing s) (about (pos 4) (map leaver es)) ≡ seeing
    (record s { pairs = fold take_out s.pairs es })
unfolding apply
leavers_lead s [] = refl
leavers_lead s (e ∷ es) = ap (λ (pairs : Pairs). seeing (record s { pairs = pairs }))
    (left s.pairs (e ∷ es))

-- likewise one about those that join
pub joiners_lead : (s : Sight) (es : List (ℕ × List ℕ)) →
    replay (seeing s) (about (pos 0) (map joiner es)) ≡ seeing
    (record s { pairs = fold put_in s.pairs es })
unfolding apply
joiners_lead s [] = refl
joiners_lead s (e ∷ es) = ap (λ (pairs : Pairs). seeing (record s { pairs = pairs }))
    (came s.pairs (e ∷ es))

-- the pairs that are missing in the second are taken out
pub leavers_point_leads : (p q : Sight) →
    Leads p (leavers_point p q) (record p {
      pairs =
          fold take_out p.pairs (missing p.pairs q.pairs);
    })
leavers_point_leads p q = record { is = leavers_lead p (missing p.pairs q.pairs) }

-- and those that are missing in the first are put in
pub joiners_point_leads : (p q : Sight) →
    Leads (record p { pairs = fold take_out p.pairs (missing p.pairs q.pairs) }) (joiners_point p q)
    (record p { pairs = q.pairs })
joiners_point_leads p q = record {
  is = joiners_lead (record p { pairs = fold take_out p.pairs (missing p.pairs q.pairs) })
      (missing q.pairs p.pairs)
      ∙ ap (λ (pairs : Pairs). seeing (record p { pairs = pairs }))
      (pairs_exchanged p.pairs q.pairs);
}
