-- How a tree is stored, which the model of a value that holds trees needs, and no statement speaks
-- of: as the list of its signs, each before its parts, which is read back from the right.
use Rattle.std.specs.Prelude.{◌≡◌, ℕ, ℤ, pos, negsuc, ◌==◌, List, [], ◌∷◌, ◌++◌, refl}
use Rattle.std.specs.Prelude.{if◌then◌else◌}
use Rattle.std.specs.Coded.{Coded, code_by, coded_list, coded×, coded_ℕ, coded_ℤ}
use Rattle.std.proofs.Common.{ap, ◌∙◌, sym, append_assoc}
use Rattle.std.proofs.lemmas.List.{append-nil}
use Rattle.mc_nbt.specs.Tree.{Tree, byte, short, int, long, float, double, byte_array, text, list}
use Rattle.mc_nbt.specs.Tree.{compound, int_array, Trees, no_trees, one_tree, Members, no_members}
use Rattle.mc_nbt.specs.Tree.{one_member}

-- which case it is, and what it holds of numbers
abbrev pub Sign : Type 0
Sign = ℕ × (ℤ × (List ℕ × List ℤ))

abbrev sign : ℕ → ℤ → Sign
sign case z = (case, (z, ([], [])))

abbrev sign_bytes : ℕ → List ℕ → Sign
sign_bytes case bytes = (case, (pos 0, (bytes, [])))

abbrev mutual
  pub signs : Tree → List Sign
  signs (byte z) = sign 1 z ∷ []
  signs (short z) = sign 2 z ∷ []
  signs (int z) = sign 3 z ∷ []
  signs (long z) = sign 4 z ∷ []
  signs (float n) = sign 5 (pos n) ∷ []
  signs (double n) = sign 6 (pos n) ∷ []
  signs (byte_array bytes) = sign_bytes 7 bytes ∷ []
  signs (text bytes) = sign_bytes 8 bytes ∷ []
  signs (list kind ts) = sign 9 (pos kind) ∷ trees_signs ts
  signs (compound ms) = sign 10 (pos 0) ∷ members_signs ms
  signs (int_array zs) = (11, (pos 0, ([], zs))) ∷ []

  pub trees_signs : Trees → List Sign
  trees_signs no_trees = sign 12 (pos 0) ∷ []
  trees_signs (one_tree t ts) = sign 13 (pos 0) ∷ (signs t ++ trees_signs ts)

  pub members_signs : Members → List Sign
  members_signs no_members = sign 14 (pos 0) ∷ []
  members_signs (one_member name t ms) = sign_bytes 15 name ∷ (signs t ++ members_signs ms)

-- what the signs to the right have made
pub data Part : Type 0 where
  a_tree : Tree → Part
  some_trees : Trees → Part
  some_members : Members → Part

abbrev pub top_tree : List Part → Tree
top_tree (a_tree t ∷ parts) = t
top_tree parts = byte (pos 0)

abbrev top_trees : List Part → Trees
top_trees (some_trees ts ∷ parts) = ts
top_trees parts = no_trees

abbrev top_members : List Part → Members
top_members (some_members ms ∷ parts) = ms
top_members parts = no_members

abbrev below : List Part → List Part
below [] = []
below (part ∷ parts) = parts

abbrev of_pos : ℤ → ℕ
of_pos (pos n) = n
of_pos (negsuc n) = n

-- one sign more
abbrev push : Sign → List Part → List Part
push (case, (z, (bytes, zs))) parts =
    if case == 1 then a_tree (byte z) ∷ parts
    else if case == 2 then a_tree (short z) ∷ parts
    else if case == 3 then a_tree (int z) ∷ parts
    else if case == 4 then a_tree (long z) ∷ parts
    else if case == 5 then a_tree (float (of_pos z)) ∷ parts
    else if case == 6 then a_tree (double (of_pos z)) ∷ parts
    else if case == 7 then a_tree (byte_array bytes) ∷ parts
    else if case == 8 then a_tree (text bytes) ∷ parts
    else if case == 9 then a_tree (list (of_pos z) (top_trees parts)) ∷ below parts
    else if case == 10 then a_tree (compound (top_members parts)) ∷ below parts
    else if case == 11 then a_tree (int_array zs) ∷ parts
    else if case == 12 then some_trees no_trees ∷ parts
    else if case == 13 then some_trees (one_tree (top_tree parts) (top_trees (below parts))) ∷
    below (below parts)
    else if case == 14 then some_members no_members ∷ parts
    else some_members (one_member bytes (top_tree parts) (top_members (below parts))) ∷
    below (below parts)

abbrev pub parts_of : List Sign → List Part
parts_of [] = []
parts_of (s ∷ ss) = push s (parts_of ss)

mutual
  parts_of-signs : (t : Tree) (rest : List Sign) → parts_of (signs t ++ rest) ≡ a_tree t ∷
      parts_of rest
  parts_of-signs (byte z) rest = refl
  parts_of-signs (short z) rest = refl
  parts_of-signs (int z) rest = refl
  parts_of-signs (long z) rest = refl
  parts_of-signs (float n) rest = refl
  parts_of-signs (double n) rest = refl
  parts_of-signs (byte_array bytes) rest = refl
  parts_of-signs (text bytes) rest = refl
  parts_of-signs (list kind ts) rest = ap (push (sign 9 (pos kind))) (parts_of-trees_signs ts rest)
  parts_of-signs (compound ms) rest = ap (push (sign 10 (pos 0))) (parts_of-members_signs ms rest)
  parts_of-signs (int_array zs) rest = refl

  parts_of-trees_signs : (ts : Trees) (rest : List Sign) → parts_of (trees_signs ts ++ rest) ≡
      some_trees ts ∷ parts_of rest
  parts_of-trees_signs no_trees rest = refl
  parts_of-trees_signs (one_tree t ts) rest =
      ap (λ (ss : List Sign). push (sign 13 (pos 0)) (parts_of ss))
      (append_assoc (signs t) (trees_signs ts) rest)
      ∙ ap (push (sign 13 (pos 0))) (parts_of-signs t (trees_signs ts ++ rest) ∙
      ap (λ (parts : List Part). a_tree t ∷ parts) (parts_of-trees_signs ts rest))

  parts_of-members_signs : (ms : Members) (rest : List Sign) → parts_of (members_signs ms ++ rest) ≡
      some_members ms ∷ parts_of rest
  parts_of-members_signs no_members rest = refl
  parts_of-members_signs (one_member name t ms) rest =
      ap (λ (ss : List Sign). push (sign_bytes 15 name) (parts_of ss))
      (append_assoc (signs t) (members_signs ms) rest)
      ∙ ap (push (sign_bytes 15 name)) (parts_of-signs t (members_signs ms ++ rest) ∙
      ap (λ (parts : List Part). a_tree t ∷ parts) (parts_of-members_signs ms rest))

abbrev tree_back : List Sign → Tree
tree_back ss = top_tree (parts_of ss)

pub tree_back-signs : (t : Tree) → tree_back (signs t) ≡ t
tree_back-signs t =
    ap (λ (ss : List Sign). top_tree (parts_of ss)) (sym (append-nil (signs t))) ∙
    ap top_tree (parts_of-signs t [])

abbrev pub coded_tree : Coded Tree
coded_tree =
    code_by (List Sign)
    (coded_list (coded× coded_ℕ
    (coded× coded_ℤ (coded× (coded_list coded_ℕ) (coded_list coded_ℤ))))) signs tree_back
    tree_back-signs
