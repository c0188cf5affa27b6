-- Two lists of pairs in order, side by side.
use Rattle.std.specs.Prelude.{◌≡◌, Bool, true, false, List, [], ◌∷◌, ◌++◌, Contains}
use Rattle.std.specs.Ordering.{ordering_then}
use Rattle.std.specs.declared.cmp.Ordering.{Ordering}
use Rattle.std.specs.declared.cmp.Ordering.TheVariants.{Less, Equal, Greater}
use Rattle.ioam_pool.specs.Entry.{Entry}
use Rattle.ioam_pool.specs.Order.{meet, IsInOrder}
use Rattle.ioam_collect.specs.Keyed.{key_cmp}
use Rattle.ioam_collect.specs.Best.{pair_cmp, tells, untold}
use Rattle.ioam_collect.specs.declared.key.Key.{Key}

-- by key, then as items meet: equal also where they are the same but that one doesn't tell its visit
abbrev pub pair_meet : Key × Entry → Key × Entry → Ordering
pair_meet a b = ordering_then (key_cmp a.0 b.0) (meet a.1 b.1)

-- of two that tie, one: that which tells its visit; `left` goes on without the first, `right` without the second, `both` without either
abbrev pub tied : Bool → Bool → Key × Entry → List (Key × Entry) → List (Key × Entry) → List (Key × Entry) → List (Key × Entry)
tied true true x left both right = x ∷ both
tied false false x left both right = x ∷ both
tied false true x left both right = left
tied true false x left both right = right

-- the first of two lists in order, and what follows it: the smaller of their two first pairs, or one of the two where they
-- tie
abbrev pub one_by : Ordering → Key × Entry → Key × Entry → List (Key × Entry) → List (Key × Entry) → List (Key × Entry) → List (Key × Entry)
one_by Less x y left both right = x ∷ left
one_by Equal x y left both right = tied (tells x) (tells y) x left both right
one_by Greater x y left both right = y ∷ right

-- a pair in front of one list, joined with another list in order; `go` joins what follows the pair
abbrev pub beside : Key × Entry → (List (Key × Entry) → List (Key × Entry)) → List (Key × Entry) → List (Key × Entry)
beside x go [] = x ∷ go []
beside x go (y ∷ ys) = one_by (pair_meet x y) x y (go (y ∷ ys)) (go ys) (beside x go ys)

-- two lists in order as one: each pair once, and of two that differ in their visit alone the one that tells it
abbrev pub united : List (Key × Entry) → List (Key × Entry) → List (Key × Entry)
united [] ys = ys
united (x ∷ xs) ys = beside x (united xs) ys

-- each is before all that follow, and none stands with the one that is the same but for its visit
abbrev pub AreApart : List (Key × Entry) → Type 0
AreApart ps = IsInOrder pair_meet ps

-- each is before the next, and none stands behind the one that is the same but for its visit
abbrev pub NextTo : Key × Entry → List (Key × Entry) → Type 0
NextTo p [] = Unit {0}
NextTo p (q ∷ ps) = (pair_meet p q ≡ Less) × NextTo q ps

-- each pair is before the next, and none stands behind the one that is the same but for its visit
abbrev pub AreNeighbours : List (Key × Entry) → Type 0
AreNeighbours [] = Unit {0}
AreNeighbours (p ∷ ps) = NextTo p ps

-- the rule of a part's file, of one behind others, the last of which is this: strictly behind that by key, hop value, core and visit,
-- and not the one that tells the visit of any of them
pub record MayFollow (ps : List (Key × Entry)) (last next : Key × Entry) : Type 0 where
  pub behind : pair_cmp last next ≡ Less
  pub fresh : tells next ≡ true → Contains (ps ++ last ∷ []) (untold next) → ⊥
