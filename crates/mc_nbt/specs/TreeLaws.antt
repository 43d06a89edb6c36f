-- Laws of trees: rows are lists, both ways.
use Rattle.std.specs.Prelude.{◌≡◌, ℕ, List, [], ◌∷◌, refl}
use Rattle.std.proofs.Common.{ap}
use Rattle.mc_nbt.specs.Tree.{Tree, Trees, no_trees, one_tree, Members, no_members, one_member}
use Rattle.mc_nbt.specs.Tree.{trees_of, members_of, trees_back, members_back}

pub trees_back-trees_of : (ts : List Tree) → trees_back (trees_of ts) ≡ ts
trees_back-trees_of [] = refl
trees_back-trees_of (t ∷ ts) = ap (λ (l : List Tree). t ∷ l) (trees_back-trees_of ts)

pub trees_of-trees_back : (ts : Trees) → trees_of (trees_back ts) ≡ ts
trees_of-trees_back no_trees = refl
trees_of-trees_back (one_tree t ts) = ap (one_tree t) (trees_of-trees_back ts)

pub members_back-members_of : (ms : List (List ℕ × Tree)) → members_back (members_of ms) ≡ ms
members_back-members_of [] = refl
members_back-members_of (m ∷ ms) =
    ap (λ (l : List (List ℕ × Tree)). m ∷ l) (members_back-members_of ms)

pub members_of-members_back : (ms : Members) → members_of (members_back ms) ≡ ms
members_of-members_back no_members = refl
members_of-members_back (one_member name t ms) = ap (one_member name t) (members_of-members_back ms)
