-- What of a part is still to be written.
use Rattle.std.specs.Prelude.{◌≡◌, ℕ, ◌≤◌, Bool, true, false, List, [], ◌++◌, length, Option, Some, None}
use Rattle.std.specs.List.{AllByRecursion}
use Rattle.ioam_pool.specs.Entry.{Entry}
use Rattle.ioam_collect.specs.Keyed.{IsOfRecord}
use Rattle.ioam_collect.specs.declared.key.Key.{Key}
use Rattle.ioam_part.specs.Part.{groups_octets, items_octets}

-- the items that are left of a group that was begun; none where none was
abbrev pub begun : Option (List Entry) → List Entry
begun None = []
begun (Some items) = items

-- the octets of these items' records and of those of the groups behind them
abbrev pub rest_octets : Option (List Entry) → List (Key × List Entry) → List ℕ
rest_octets items groups = items_octets (begun items) ++ groups_octets groups

-- the core of each of these items, and of those in the groups, is a record
pub record AreOfRecords (items : Option (List Entry)) (groups : List (Key × List Entry)) : Type 0 where
  pub first : AllByRecursion IsOfRecord (begun items)
  pub behind : AllByRecursion (λ (group : Key × List Entry). AllByRecursion IsOfRecord group.1) groups

-- there are so many octets, or nothing is left
abbrev pub Leaves : Bool → ℕ → List ℕ → List ℕ → Type 0
Leaves true enough octets rest = enough ≤ length octets
Leaves false enough octets rest = rest ≡ []
