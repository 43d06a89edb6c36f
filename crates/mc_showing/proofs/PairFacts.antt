-- The names of those in play by their identifiers, once a player came, went or changed.
use Rattle.std.proofs.Common.{◌≡◌, ◌≢◌, ℕ, ◌+◌, ◌≤◌, Bool, true, false, cond, List, [], ◌∷◌, map}
use Rattle.std.proofs.Common.{length, is_some, refl, sym, subst, ap, ◌∙◌, arith, not}
use Rattle.std.proofs.lemmas.Bool.Decides.{nat_tests}
use Rattle.std.specs.Prelude.{◌==◌, Some, None, option_map}
use Rattle.std.specs.List.{AllByRecursion, filter, list_any}
use Rattle.std.specs.Cmp.{nat_cmp_total}
use Rattle.std.specs.Ordering.{eq_by_cmp, nat_cmp}
use Rattle.std.specs.FinMap.{FinMap, contains_key, entries, entries-insert, entries_sorted, find}
use Rattle.std.specs.FinMap.{from_entries, get, get-entries, get-from_entries, get-insert}
use Rattle.std.specs.FinMap.{get-remove, insert, len, len-empty, len-entries, len-insert, put}
use Rattle.std.specs.FinMap.{remove, nat_cmp-IsAntisymmetric, same_map, values}
use Rattle.std.specs.FinMap.Entries.{where_key}
use Rattle.mc_model.proofs.Maps.Sorted.{each_found, equal}
use Rattle.mc_model.specs.declared.player.Player.{Player}
use Rattle.mc_model.specs.Game.{Game, players_of}
use Rattle.mc_model.proofs.Maps.Lookups.{tied_number}
use Rattle.mc_showing.specs.Shown.{pairs_of}
use Rattle.mc_showing.proofs.Mapped.{values_alike}
use Rattle.mc_showing.proofs.RosterFacts.{entries_removed}

-- the name of a player, by its identifier
abbrev pair : Player → ℕ × List ℕ
pair p = (p.uuid, p.name)

abbrev pairs : List (ℕ × Player) → List (ℕ × List ℕ)
pairs es = map (λ (e : ℕ × Player). pair e.1) es

-- those of a map, one after another
mapped : (es : List (ℕ × Player)) → map pair (map (λ (e : ℕ × Player). e.1) es) ≡ pairs es
mapped [] = refl
mapped (e ∷ es) = ap (λ (ps : List (ℕ × List ℕ)). pair e.1 ∷ ps) (mapped es)

found_pair : (m : FinMap nat_cmp Player) (q : ℕ) →
    get (from_entries {R = nat_cmp} (map pair (values m))) q ≡ find nat_cmp q (pairs (entries m))
found_pair m q =
    get-from_entries nat_cmp_total (map pair (values m)) q
    ∙ ap (find nat_cmp q) (mapped (entries m))

-- ---- who is there

has_pair : (q : ℕ) (es : List (ℕ × Player)) → is_some (find nat_cmp q (pairs es)) ≡
    list_any (λ (p : Player). p.uuid == q) (map (λ (e : ℕ × Player). e.1) es)
has_pair q [] = refl
has_pair q (e ∷ es) = grind (arith, nat_tests, has_pair q es)

-- an identifier is listed that one of the players has
pub pairs_has : (g : Game) (uuid : ℕ) → contains_key (pairs_of g) uuid ≡
    list_any (λ (p : Player). p.uuid == uuid) (players_of g)
pairs_has g uuid = ap is_some (found_pair g.players uuid) ∙ has_pair uuid (entries g.players)

-- ---- how many are there

few_pairs : (es : List (ℕ × List ℕ)) → len (from_entries {R = nat_cmp} es) ≤ length es
few_pairs [] = let none = len-empty nat_cmp (List ℕ) in omega (arith, none)
few_pairs (e ∷ es) =
    more (contains_key (from_entries {R = nat_cmp} es) e.0) _ _ (few_pairs es)
    (len-insert nat_cmp_total (from_entries es) e.0 e.1)
  where
    more : (b : Bool) (old new : ℕ) → old ≤ length es → new ≡ cond b old (old + 1) →
        new ≤ length (e ∷ es)
    more true old new le is = omega (arith, le, is)
    more false old new le is = omega (arith, le, is)

length_mapped : {A B : Type 0} (f : A → B) (xs : List A) → length (map f xs) ≡ length xs
length_mapped f [] = refl
length_mapped f (x ∷ xs) = grind (arith, nat_tests, length_mapped f xs)

-- no more than players
pub pairs_few : (g : Game) → len (pairs_of g) ≤ len g.players
pairs_few g =
    let few = few_pairs (map pair (values g.players)) in
    let first = length_mapped pair (values g.players) in
    let second = length_mapped (λ (e : ℕ × Player). e.1) (entries g.players) in
    omega (arith, few, first, second, len-entries g.players)

-- ---- one more

-- the pair of one that was put in is found under its identifier, all others as before
pair_put : (k q : ℕ) (p : Player) (es : List (ℕ × Player)) → find nat_cmp k es ≡ None →
    list_any (λ (o : Player). o.uuid == p.uuid) (map (λ (e : ℕ × Player). e.1) es) ≡ false →
    find nat_cmp q (pairs (put nat_cmp k p es)) ≡
    cond (eq_by_cmp nat_cmp q p.uuid) (Some p.name) (find nat_cmp q (pairs es))
pair_put k q p [] none other = refl
pair_put k q p (e ∷ es) none other = grind (arith, nat_tests, pair_put k q p es)

-- a player whose identifier no other has
pub pairs_entered : (g h : Game) (k : ℕ) (p : Player) → h.players ≡ insert g.players k p →
    get g.players k ≡ None →
    list_any (λ (o : Player). o.uuid == p.uuid) (players_of g) ≡ false →
    pairs_of h ≡ insert (pairs_of g) p.uuid p.name
pairs_entered g h k p is none other =
    same_map nat_cmp_total nat_cmp-IsAntisymmetric (pairs_of h)
    (insert (pairs_of g) p.uuid p.name) (λ q.
    found_pair h.players q
    ∙ ap (λ (es : List (ℕ × Player)). find nat_cmp q (pairs es))
    (ap entries is ∙ entries-insert nat_cmp_total g.players k p)
    ∙ pair_put k q p (entries g.players) (sym (get-entries g.players k) ∙ none) other
    ∙ ap (cond (eq_by_cmp nat_cmp q p.uuid) (Some p.name)) (sym (found_pair g.players q))
    ∙ sym (get-insert nat_cmp_total (pairs_of g) p.uuid p.name q))

-- ---- one less

-- a test that all pass
all_pass : (es : List (ℕ × Player)) → filter (λ (e : ℕ × Player). true) es ≡ es
all_pass [] = refl
all_pass (e ∷ es) = ap (λ (rest : List (ℕ × Player)). e ∷ rest) (all_pass es)

-- an entry is of a player's identifier just where it is of its connection
abbrev Parts : ℕ → Player → ℕ × Player → Type 0
Parts k p e = (eq_by_cmp nat_cmp k e.0 ≡ true → e.1.uuid ≡ p.uuid)
    × (eq_by_cmp nat_cmp k e.0 ≡ false → e.1.uuid ≢ p.uuid)

-- without the entry of a player its identifier is not found, all others as before
pair_gone : (k q : ℕ) (p : Player) (es : List (ℕ × Player)) → AllByRecursion (Parts k p) es →
    find nat_cmp q (pairs (where_key nat_cmp (λ (x : ℕ). not (eq_by_cmp nat_cmp k x)) es)) ≡
    cond (eq_by_cmp nat_cmp q p.uuid) None (find nat_cmp q (pairs es))
pair_gone k q p [] all = grind (arith, nat_tests)
pair_gone k q p (e ∷ es) all = grind (arith, nat_tests, pair_gone k q p es all.1)

entries_part : (m : FinMap nat_cmp Player) (k : ℕ) (p : Player) → get m k ≡ Some p →
    ((j : ℕ) (o : Player) → get m j ≡ Some o → j ≢ k → o.uuid ≢ p.uuid) →
    AllByRecursion (Parts k p) (entries m)
entries_part m k p here apart =
    subst (AllByRecursion (Parts k p)) (all_pass (entries m))
    (each_found nat_cmp_total (Parts k p) (λ (e : ℕ × Player). true) (entries m)
    (entries_sorted m) (λ j o found. parts j o (get-entries m j ∙ found)))
  where
    parts : (j : ℕ) (o : Player) → get m j ≡ Some o → Parts k p (j, o)
    parts j o there = (
      λ same. (let is : k ≡ j = nat_cmp-IsAntisymmetric k j (equal (nat_cmp k j) same) in
          let both : Some o ≡ Some p = sym there ∙ ap (get m) (sym is) ∙ here in
          ap (λ (x : Player). x.uuid) (some_same o p both)),
      λ other. apart j o there (λ is. differs j other is),
    )
      where
        some_same : (x y : Player) → Some x ≡ Some y → x ≡ y
        some_same x y e = cc

        differs : (i : ℕ) → eq_by_cmp nat_cmp k i ≡ false → i ≡ k → ⊥
        differs i other is =
            let clash : true ≡ false =
            sym (tied_number k) ∙ ap (eq_by_cmp nat_cmp k) (sym is) ∙ other in
            cc

-- a player whose identifier no other has
pub pairs_left : (g h : Game) (k : ℕ) (p : Player) → h.players ≡ remove g.players k →
    get g.players k ≡ Some p →
    ((j : ℕ) (o : Player) → get g.players j ≡ Some o → j ≢ k → o.uuid ≢ p.uuid) →
    pairs_of h ≡ remove (pairs_of g) p.uuid
pairs_left g h k p is here apart =
    same_map nat_cmp_total nat_cmp-IsAntisymmetric (pairs_of h) (remove (pairs_of g) p.uuid) (λ q.
    found_pair h.players q
    ∙ ap (λ (es : List (ℕ × Player)). find nat_cmp q (pairs es))
    (ap entries is ∙ entries_removed g.players k)
    ∙ pair_gone k q p (entries g.players) (entries_part g.players k p here apart)
    ∙ ap (cond (eq_by_cmp nat_cmp q p.uuid) None) (sym (found_pair g.players q))
    ∙ sym (get-remove nat_cmp_total (pairs_of g) p.uuid q))

-- ---- others, of the same names

-- all players have the identifiers and names that they had
pub pairs_alike : (g h : Game) →
    ((k : ℕ) → option_map pair (get h.players k) ≡ option_map pair (get g.players k)) →
    pairs_of h ≡ pairs_of g
pairs_alike g h same = ap from_entries (values_alike pair pair h.players g.players same)
