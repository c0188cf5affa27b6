-- The order of entries, and which entries can't stand beside one another on a chain.
use Rattle.std.specs.Prelude.{◌≡◌, ℕ, ◌⊎◌, false, true, not, List, [], ◌∷◌, filter, Contains}
use Rattle.std.specs.Ordering.{nat_cmp, ordering_then, is_eq}
use Rattle.std.specs.declared.cmp.Ordering.{Ordering}
use Rattle.std.specs.declared.cmp.Ordering.TheVariants.{Less, Equal, Greater}
use Rattle.std.specs.Cmp.Lexicographic.{slice_cmp}
use Rattle.std.specs.List.{AllByRecursion}
use Rattle.ioam_pool.specs.Entry.{Entry, is_full, bare}

-- by falling hop values, then by core, then by the extra part; octets as words of a dictionary
abbrev pub order : Entry → Entry → Ordering
order a b = ordering_then (nat_cmp b.hops a.hops) (ordering_then (slice_cmp nat_cmp a.core b.core) (slice_cmp nat_cmp a.extra b.extra))

-- the same, but that entries of equal hop value and core are equal where either has no extra part
abbrev pub extras : List ℕ → List ℕ → Ordering
extras [] ys = Equal
extras (x ∷ xs) [] = Equal
extras (x ∷ xs) (y ∷ ys) = slice_cmp nat_cmp (x ∷ xs) (y ∷ ys)

-- by falling hop values, then by core
abbrev pub cores : Entry → Entry → Ordering
cores a b = ordering_then (nat_cmp b.hops a.hops) (slice_cmp nat_cmp a.core b.core)

-- as `order` has it, but that an item without an extra part is equal to each of its hop value and core
abbrev pub meet : Entry → Entry → Ordering
meet a b = ordering_then (cores a b) (extras a.extra b.extra)

-- each is before all that follow
abbrev pub IsInOrder : {X : Type 0} → (X → X → Ordering) → List X → Type 0
IsInOrder cmp [] = Unit {0}
IsInOrder cmp (x ∷ xs) = AllByRecursion (λ y. cmp x y ≡ Less) xs × IsInOrder cmp xs

-- Each is before all that follow, and none without an extra part stands with another of equal hop value and
-- core. This is what every chain is.
abbrev pub IsChain : List Entry → Type 0
IsChain es = IsInOrder meet es

-- in its place among those in order, if it isn't there
abbrev pub placed_by : {X : Type 0} → Ordering → X → X → List X → List X → List X
placed_by Less x y ys more = x ∷ y ∷ ys
placed_by Equal x y ys more = y ∷ ys
placed_by Greater x y ys more = y ∷ more

-- the list with one more, in its place among those in order, if none equal to it is there
abbrev pub placed : {X : Type 0} → (X → X → Ordering) → X → List X → List X
placed cmp x [] = x ∷ []
placed cmp x (y ∷ ys) = placed_by (cmp x y) x y ys (placed cmp x ys)

-- these without one
abbrev pub without : Entry → List Entry → List Entry
without e es = filter (λ y. not (is_eq (order y e))) es

-- the entry is among these, or it has no extra part and one of equal hop value and core is
abbrev pub Repeats : List Entry → Entry → Type 0
Repeats es e = Contains es e ⊎ ((is_full e ≡ false) × (y : Entry) × Contains es y × (bare y ≡ bare e))

-- the entry has an extra part, and the one without it is among these
abbrev pub Replaces : List Entry → Entry → Type 0
Replaces es e = (is_full e ≡ true) × Contains es (bare e)

-- neither: with the entry there would be one more
abbrev pub IsApart : List Entry → Entry → Type 0
IsApart es e = ¬ (Repeats es e) × ¬ (Replaces es e)
