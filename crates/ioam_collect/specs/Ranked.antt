-- Records in the order in which they are kept, one after the other.
use Rattle.std.specs.Prelude.{◌≡◌, ℕ, ⊤, Bool, true, false, List, [], ◌∷◌, Option, Some, None, is_some}
use Rattle.std.specs.declared.cmp.Ordering.{Ordering}
use Rattle.std.specs.declared.cmp.Ordering.TheVariants.{Less, Equal, Greater}
use Rattle.ioam_dex.specs.Record.{Rec, record_at}
use Rattle.ioam_pool.specs.Entry.{Entry}
use Rattle.ioam_collect.specs.Keyed.{keyed_of}
use Rattle.ioam_collect.specs.Unite.{pair_meet}
use Rattle.ioam_collect.specs.declared.key.Key.{Key}

-- the last pair of a list
abbrev pub last_of : List (Key × Entry) → Option (Key × Entry)
last_of [] = None
last_of (p ∷ []) = Some p
last_of (p ∷ q ∷ ps) = last_of (q ∷ ps)

-- whether an order says that the first stands before the second
abbrev pub is_less : Ordering → Bool
is_less Less = true
is_less Equal = false
is_less Greater = false

-- whether a pair may come behind the last one, if there is one
abbrev pub may_come : Option (Key × Entry) → Key × Entry → Bool
may_come None next = true
may_come (Some last) next = is_less (pair_meet last next)

-- whether a record may: one without a key may not
abbrev pub may_come_next : Option (Key × Entry) → Option (Key × Entry) → Bool
may_come_next last None = false
may_come_next last (Some next) = may_come last next

-- the pair of the last record, by its octets; none where there are none
abbrev pub last_in : List ℕ → Option (Key × Entry)
last_in [] = None
last_in (o ∷ os) = keyed_of (record_at (o ∷ os))

-- the octets are a record with a key, or there are none
abbrev pub IsLast : List ℕ → Type 0
IsLast [] = ⊤
IsLast (o ∷ os) = Rec (o ∷ os) (record_at (o ∷ os)) × (is_some (keyed_of (record_at (o ∷ os))) ≡ true)

-- what was answered, and which record is the last then
abbrev pub Ranks : Option (Key × Entry) → Option (Key × Entry) → Bool → Option (Key × Entry) → Type 0
Ranks old next true new = (may_come_next old next ≡ true) × (new ≡ next)
Ranks old next false new = (may_come_next old next ≡ false) × (new ≡ old)
