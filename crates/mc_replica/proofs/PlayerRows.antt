-- The rows of the list of players as pairs: what edits and searches of the one are of the other.
use Rattle.std.proofs.Common.{Result, Ok, Err, ◌≡◌, ℕ, zero, suc, ◌<◌, ◌≤◌, List, [], ◌∷◌, length}
use Rattle.std.proofs.Common.{get_or, refl, sym, subst, ap, ◌∙◌}
use Rattle.std.proofs.Math.ListN.{get_or-map}
use Rattle.std.proofs.lemmas.List.{length-map}
use Rattle.std.specs.List.{insert, remove}
use Rattle.std.specs.List.Sorted.{IsSearchInRange, IsBinarySearchResult}
use Rattle.std.specs.Ordering.{nat_cmp, ordering_index}
use Rattle.mc_replica.specs.declared.player_list.Listed.{Listed}
use Rattle.mc_replica.specs.KeptPlayers.{row_of, rows_of}

pub inserted : (rows : List Listed) (i : ℕ) (new : Listed) →
    rows_of (insert rows i new) ≡ insert (rows_of rows) i (row_of new)
inserted rows zero new = refl
inserted [] (suc i) new = refl
inserted (row ∷ rows) (suc i) new =
    ap (λ (ps : List (ℕ × List ℕ)). row_of row ∷ ps) (inserted rows i new)

pub removed : (rows : List Listed) (i : ℕ) →
    rows_of (remove rows i) ≡ remove (rows_of rows) i
removed [] zero = refl
removed [] (suc i) = refl
removed (row ∷ rows) zero = refl
removed (row ∷ rows) (suc i) =
    ap (λ (ps : List (ℕ × List ℕ)). row_of row ∷ ps) (removed rows i)

abbrev listed_of : ℕ × List ℕ → Listed
listed_of p = record { uuid = p.0; name = p.1 }

-- a search of the ones is one of the others
pub searched_pairs : (rows : List Listed) (uuid : ℕ) (r : Result ℕ ℕ) →
    IsBinarySearchResult (λ (l : Listed). nat_cmp l.uuid uuid) rows r →
    IsBinarySearchResult (λ (e : ℕ × List ℕ). nat_cmp e.0 uuid) (rows_of rows) r
searched_pairs rows uuid (Ok i) is = λ d.
    ap (λ (e : ℕ × List ℕ). nat_cmp e.0 uuid) (get_or-map row_of rows i (listed_of d))
    ∙ is (listed_of d)
searched_pairs rows uuid (Err i) is = λ rising.
    let point = is (λ i j d le lt. subst (λ (x : ℕ). ordering_index
    (nat_cmp (get_or rows i d).uuid uuid) ≤ x)
    (ap (λ (e : ℕ × List ℕ). ordering_index (nat_cmp e.0 uuid)) (get_or-map row_of rows j d))
    (subst (λ (x : ℕ). x ≤ ordering_index (nat_cmp (get_or (rows_of rows) j (row_of d)).0 uuid))
    (ap (λ (e : ℕ × List ℕ). ordering_index (nat_cmp e.0 uuid)) (get_or-map row_of rows i d))
    (rising i j (row_of d) le (subst (λ (n : ℕ). j < n) (sym (length-map rows row_of)) lt)))) in (
      λ k d low high. ap (λ (e : ℕ × List ℕ). nat_cmp e.0 uuid)
          (get_or-map row_of rows k (listed_of d))
          ∙ point.0 k (listed_of d) low high,
      λ k d low high. ap (λ (e : ℕ × List ℕ). nat_cmp e.0 uuid)
          (get_or-map row_of rows k (listed_of d))
          ∙ point.1 k (listed_of d) low (subst (λ (n : ℕ). k < n) (length-map rows row_of) high),
    )

pub in_range : (rows : List Listed) (r : Result ℕ ℕ) → IsSearchInRange r (length rows) →
    IsSearchInRange r (length (rows_of rows))
in_range rows r is = subst (λ (n : ℕ). IsSearchInRange r n) (sym (length-map rows row_of)) is
