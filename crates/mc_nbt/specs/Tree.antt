-- A value of NBT as a tree, without where it lies in memory: the eleven cases of a tag. (The page
-- 'NBT' of wiki.vg.)
use Rattle.std.specs.Prelude.{ℕ, ℤ, List, [], ◌∷◌, max, suc}

mutual
  pub data Tree : Type 0 where
    byte : ℤ → Tree
    short : ℤ → Tree
    int : ℤ → Tree
    long : ℤ → Tree
    float : ℕ → Tree
    double : ℕ → Tree
    byte_array : List ℕ → Tree
    text : List ℕ → Tree
    list : ℕ → Trees → Tree
    compound : Members → Tree
    int_array : List ℤ → Tree

  -- the values of a list
  pub data Trees : Type 0 where
    no_trees : Trees
    one_tree : Tree → Trees → Trees

  -- the names and values of a compound
  pub data Members : Type 0 where
    no_members : Members
    one_member : List ℕ → Tree → Members → Members

abbrev pub trees_of : List Tree → Trees
trees_of [] = no_trees
trees_of (t ∷ ts) = one_tree t (trees_of ts)

abbrev pub members_of : List (List ℕ × Tree) → Members
members_of [] = no_members
members_of (m ∷ ms) = one_member m.0 m.1 (members_of ms)

-- trees and members as lists again
abbrev pub trees_back : Trees → List Tree
trees_back no_trees = []
trees_back (one_tree t ts) = t ∷ trees_back ts

abbrev pub members_back : Members → List (List ℕ × Tree)
members_back no_members = []
members_back (one_member name t ms) = (name, t) ∷ members_back ms

-- the byte that says which case a tree is
abbrev pub kind_of : Tree → ℕ
kind_of (byte z) = 1
kind_of (short z) = 2
kind_of (int z) = 3
kind_of (long z) = 4
kind_of (float n) = 5
kind_of (double n) = 6
kind_of (byte_array bytes) = 7
kind_of (text bytes) = 8
kind_of (list kind ts) = 9
kind_of (compound ms) = 10
kind_of (int_array zs) = 11

-- how many lists and compounds stand in one another
abbrev mutual
  pub depth : Tree → ℕ
  depth (list kind ts) = suc (trees_depth ts)
  depth (compound ms) = suc (members_depth ms)
  depth leaf = 0

  pub trees_depth : Trees → ℕ
  trees_depth no_trees = 0
  trees_depth (one_tree t ts) = max (depth t) (trees_depth ts)

  pub members_depth : Members → ℕ
  members_depth no_members = 0
  members_depth (one_member name t ms) = max (depth t) (members_depth ms)
