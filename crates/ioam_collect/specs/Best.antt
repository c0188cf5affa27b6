-- The groups of a list of records: which are kept, and in which order.
use Rattle.std.specs.Prelude.{◌≡◌, Bool, true, false, cond, not, ◌&&◌, List, [], ◌∷◌, map, filter, Contains, ◌⊎◌}
use Rattle.std.specs.List.{list_any}
use Rattle.std.specs.Ordering.{ordering_then, is_eq}
use Rattle.std.specs.declared.cmp.Ordering.{Ordering}
use Rattle.ioam_pool.specs.Entry.{Entry, is_full, bare}
use Rattle.ioam_pool.specs.Order.{order, placed}
use Rattle.ioam_collect.specs.Keyed.{key_cmp}
use Rattle.ioam_collect.specs.declared.key.Key.{Key}

-- by key, then as items are ordered
abbrev pub pair_cmp : Key × Entry → Key × Entry → Ordering
pair_cmp a b = ordering_then (key_cmp a.0 b.0) (order a.1 b.1)

-- tells its visit
abbrev pub tells : Key × Entry → Bool
tells p = is_full p.1

-- the same without its visit
abbrev pub untold : Key × Entry → Key × Entry
untold p = (p.0, bare p.1)

-- in order, each once
abbrev pub arranged : {X : Type 0} → (X → X → Ordering) → List X → List X
arranged cmp [] = []
arranged cmp (x ∷ xs) = placed cmp x (arranged cmp xs)

-- whether one that tells its visit is among these of which this is the one that doesn't
abbrev pub outdone : List (Key × Entry) → Key × Entry → Bool
outdone ps p = list_any (λ y. tells y && is_eq (pair_cmp (untold y) p)) ps

-- these less each that is outdone
abbrev pub best : List (Key × Entry) → List (Key × Entry)
best ps = filter (λ p. not (outdone ps p)) ps

-- the best, in order and each once: what is kept
abbrev pub kept_of : List (Key × Entry) → List (Key × Entry)
kept_of ps = arranged pair_cmp (best ps)

-- the items of one key
abbrev pub of_key : Key → List (Key × Entry) → List Entry
of_key key [] = []
of_key key (p ∷ ps) = cond (is_eq (key_cmp key p.0)) (p.1 ∷ of_key key ps) (of_key key ps)

-- the keys, in order and each once
abbrev pub keys_in : List (Key × Entry) → List Key
keys_in ps = arranged key_cmp (map (λ p. p.0) ps)

-- the group of a key: the key and its items
abbrev pub group : List (Key × Entry) → Key → Key × List Entry
group ps key = (key, of_key key ps)

-- per key, keys in order, what is kept of it
abbrev pub groups_of : List (Key × Entry) → List (Key × List Entry)
groups_of ps = map (group (kept_of ps)) (keys_in (kept_of ps))

-- the pair is among these, or it tells no visit and one is of which it is the one that doesn't
abbrev pub RepeatsIn : List (Key × Entry) → Key × Entry → Type 0
RepeatsIn ps p = Contains ps p ⊎ ((tells p ≡ false) × (y : Key × Entry) × Contains ps y × (untold y ≡ untold p))

-- the pair tells its visit, and the one that doesn't is among these
abbrev pub ReplacesIn : List (Key × Entry) → Key × Entry → Type 0
ReplacesIn ps p = (tells p ≡ true) × Contains ps (untold p)
