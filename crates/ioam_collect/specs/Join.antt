-- Groups joined.
use Rattle.std.specs.Prelude.{◌≡◌, List, [], ◌∷◌, ◌++◌, map, Contains}
use Rattle.ioam_pool.specs.Entry.{Entry}
use Rattle.ioam_collect.specs.Best.{groups_of}
use Rattle.ioam_collect.specs.declared.key.Key.{Key}

-- the pairs of groups, one group behind the other
abbrev pub pairs_in : List (Key × List Entry) → List (Key × Entry)
pairs_in [] = []
pairs_in (g ∷ gs) = map (λ e. (g.0, e)) g.1 ++ pairs_in gs

-- the groups of what either has
abbrev pub joined : List (Key × List Entry) → List (Key × List Entry) → List (Key × List Entry)
joined gs hs = groups_of (pairs_in gs ++ pairs_in hs)

-- they are the groups of some pairs
abbrev pub AreGroups : List (Key × List Entry) → Type 0
AreGroups gs = (ps : List (Key × Entry)) × (gs ≡ groups_of ps)

-- each of the one stands in the other
abbrev pub IsPartOf : List (Key × Entry) → List (Key × Entry) → Type 0
IsPartOf ps qs = (z : Key × Entry) → Contains ps z → Contains qs z

-- two lists have the same members
abbrev pub SameMembers : List (Key × Entry) → List (Key × Entry) → Type 0
SameMembers ps qs = IsPartOf ps qs × IsPartOf qs ps

-- collectors apart, joined two by two
pub data Tree : Type 0 where
  Leaf : List (Key × Entry) → Tree
  Join : Tree → Tree → Tree

-- the pairs of all collectors of a tree, from left to right
abbrev pub leaves : Tree → List (Key × Entry)
leaves (Leaf ps) = ps
leaves (Join one two) = leaves one ++ leaves two

-- the groups of a tree of collectors: those of each, joined two by two
abbrev pub merged : Tree → List (Key × List Entry)
merged (Leaf ps) = groups_of ps
merged (Join one two) = joined (merged one) (merged two)
