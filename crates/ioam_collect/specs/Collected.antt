-- A collector as its callers see it, and the list of records that it stands for.
use Rattle.std.specs.Prelude.{◌≡◌, ℕ, ◌+◌, ◌<◌, min, List, [], ◌∷◌, ◌++◌, length, Option, Some, None, Result, Ok, Err}
use Rattle.ioam_dex.specs.Record.{Record}
use Rattle.ioam_pool.specs.Entry.{Entry}
use Rattle.ioam_pool.specs.Order.{Repeats, Replaces}
use Rattle.ioam_collect.specs.Keyed.{keyed_of, keyed}
use Rattle.ioam_collect.specs.Best.{kept_of, RepeatsIn, ReplacesIn}
use Rattle.ioam_collect.specs.Gathered.{Gathered, group_in, AreOf}
use Rattle.ioam_collect.specs.declared.key.Key.{Key}
use Rattle.ioam_collect.specs.declared.growing.Added.{Added}
use Rattle.ioam_collect.specs.declared.growing.Added.TheVariants.{Kept, Replaced, Repeat, Unkeyed, Full}

-- the groups, how many records they have and may have, and how many were read, and among these had no key
pub record Collected : Type 0 where
  pub groups : List (Key × List Entry)
  pub held : ℕ
  pub limit : ℕ
  pub read : ℕ
  pub unkeyed : ℕ

-- the groups of a collector, how many records they have, and how many they may have
abbrev pub gathered_in : Collected → Gathered
gathered_in c = record { groups = c.groups; held = c.held; limit = c.limit }

-- a count stands still at the greatest number of 64 bits
abbrev pub capped : ℕ → ℕ
capped number = min number 18446744073709551615

-- one for a record without a key, none for one with a key
abbrev pub one_where_none : Option (Key × Entry) → ℕ
one_where_none None = 1
one_where_none (Some p) = 0

-- how many of these records have no key
abbrev pub count_unkeyed : List Record → ℕ
count_unkeyed [] = 0
count_unkeyed (x ∷ xs) = one_where_none (keyed_of x) + count_unkeyed xs

-- how many of these records are kept
abbrev pub count_kept : List Record → ℕ
count_kept xs = length (kept_of (keyed xs))

-- a collector stands for these records, in the order in which they were added
pub record Stands (c : Collected) (xs : List Record) : Type 0 where
  pub groups : AreOf (gathered_in c) (keyed xs)
  pub read : c.read ≡ capped (length xs)
  pub unkeyed : c.unkeyed ≡ capped (count_unkeyed xs)

-- the answer for a record with this key and item, by what was held: the first of these that holds
abbrev pub AnswersKeyed : Collected → Key × Entry → Added → Type 0
AnswersKeyed old p Unkeyed = ⊥
AnswersKeyed old p Repeat = Repeats (group_in old.groups p.0) p.1
AnswersKeyed old p Replaced = ¬ (Repeats (group_in old.groups p.0) p.1) × Replaces (group_in old.groups p.0) p.1
AnswersKeyed old p Full =
    ¬ (Repeats (group_in old.groups p.0) p.1) × ¬ (Replaces (group_in old.groups p.0) p.1) × (old.held ≡ old.limit)
AnswersKeyed old p Kept =
    ¬ (Repeats (group_in old.groups p.0) p.1) × ¬ (Replaces (group_in old.groups p.0) p.1) × (old.held < old.limit)

-- the answer for a record: Unkeyed where it has no key, else that for its key and item
abbrev pub Answers : Collected → Option (Key × Entry) → Added → Type 0
Answers old None added = added ≡ Unkeyed
Answers old (Some p) added = AnswersKeyed old p added

-- what a collector stands for after a record, by the answer: the list with it at its end; after Full as before
abbrev pub Leaves : Added → Collected → Record → Collected → Type 0
Leaves Full old x new = new ≡ old
Leaves Kept old x new = (xs : List Record) → Stands old xs → Stands new (xs ++ x ∷ [])
Leaves Replaced old x new = (xs : List Record) → Stands old xs → Stands new (xs ++ x ∷ [])
Leaves Repeat old x new = (xs : List Record) → Stands old xs → Stands new (xs ++ x ∷ [])
Leaves Unkeyed old x new = (xs : List Record) → Stands old xs → Stands new (xs ++ x ∷ [])

-- how many more are held then
abbrev pub held_more : Added → ℕ
held_more Kept = 1
held_more Replaced = 0
held_more Repeat = 0
held_more Unkeyed = 0
held_more Full = 0

-- adding a record answers so and leaves the collector so; where there is no memory the collector is as it was
abbrev pub AddsRecord : {E : Type 0} → Collected → Record → Result Added E → Collected → Type 0
AddsRecord old x (Ok added) new = Answers old (keyed_of x) added × Leaves added old x new × (new.held ≡ old.held + held_more added) × (new.limit ≡ old.limit)
AddsRecord old x (Err _) new = new ≡ old

-- what is counted of a record, by what became of it
abbrev pub Counts : Collected → Added → Collected → Type 0
Counts old Full new = new ≡ old
Counts old Kept new = new ≡ record old { read = capped (old.read + 1) }
Counts old Replaced new = new ≡ record old { read = capped (old.read + 1) }
Counts old Repeat new = new ≡ record old { read = capped (old.read + 1) }
Counts old Unkeyed new = new ≡ record old { read = capped (old.read + 1); unkeyed = capped (old.unkeyed + 1) }

-- what is left of a pair that was added: the groups are of the list with it at its end
pub record Grown (old : Collected) (p : Key × Entry) (new : Collected) : Type 0 where
  pub are : (ps : List (Key × Entry)) → AreOf (gathered_in old) ps → AreOf (gathered_in new) (ps ++ p ∷ [])
  pub read : new.read ≡ capped (old.read + 1)
  pub unkeyed : new.unkeyed ≡ old.unkeyed

-- what a collector stands for behind a pair of a key and an item, by the answer: the list with the pair at its end; after
-- Full as before
abbrev pub LeavesPair : Added → Collected → Key × Entry → Collected → Type 0
LeavesPair Full old p new = new ≡ old
LeavesPair Unkeyed old p new = ⊥
LeavesPair Kept old p new = Grown old p new
LeavesPair Replaced old p new = Grown old p new
LeavesPair Repeat old p new = Grown old p new

-- adding such a pair answers so and leaves the collector so; where there is no memory the collector is as it was
abbrev pub AddsPair : {E : Type 0} → Collected → Key × Entry → Result Added E → Collected → Type 0
AddsPair old p (Ok added) new = AnswersKeyed old p added × LeavesPair added old p new × (new.held ≡ old.held + held_more added) × (new.limit ≡ old.limit)
AddsPair old p (Err _) new = new ≡ old

-- as many of these records are kept as may be, and the record would be one more: what Full says, straight from the list
abbrev pub IsOneMore : ℕ → List Record → Record → Type 0
IsOneMore limit xs x = (p : Key × Entry) × (keyed_of x ≡ Some p) × ¬ (RepeatsIn (kept_of (keyed xs)) p) × ¬ (ReplacesIn (kept_of (keyed xs)) p)
    × (length (kept_of (keyed xs)) ≡ limit)
