-- Slots in front of a map from keys to chains.
use Rattle.std.specs.Prelude.{◌≡◌, ◌+◌, ◌*◌, ◌≤◌, ℕ, ⊤, List, All, Option, None, Some}
use Rattle.std.specs.BTreeMap.{BTreeMap, btree_map_len, get}
use Rattle.ioam_collect.specs.Keyed.{key_cmp}
use Rattle.ioam_collect.specs.declared.key.Key.{Key}
use Rattle.ioam_collect.specs.declared.slots.Slot.{Slot}

-- the slot is free, or has a key of the map with its chain
abbrev pub IsSlotOf : BTreeMap Key ℕ → Option Slot → Type 0
IsSlotOf map None = ⊤
IsSlotOf map (Some slot) = get key_cmp map slot.key ≡ Some slot.chain

-- each slot is free, or has a key of the map with its chain
abbrev pub AreSlotsOf : BTreeMap Key ℕ → List (Option Slot) → Type 0
AreSlotsOf map slots = All (IsSlotOf map) slots

-- whichever map the slots were of, they still are
abbrev pub StaySlots : List (Option Slot) → List (Option Slot) → Type 0
StaySlots old new = (map : BTreeMap Key ℕ) → AreSlotsOf map old → AreSlotsOf map new

-- room for so many slots is no more than for four of each key of the map, and 1,024
abbrev pub HasFewSlots : BTreeMap Key ℕ → ℕ → Type 0
HasFewSlots map slots = slots ≤ 4 * btree_map_len map + 1024
