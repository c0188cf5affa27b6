-- Parts: what a collector holds, as a file. A part is a mark of 8 octets, a count of 32 bits, and so many export records, of
-- either version, in the order in which they are kept: by key, by falling hop value, by version 1 record, by visit.
use Rattle.std.specs.Prelude.{◌≡◌, ℕ, ◌+◌, ◌≤◌, List, [], ◌∷◌, ◌++◌, length, take, drop, cond, All, Some, slice_index}
use Rattle.std.specs.List.{flat_map}
use Rattle.ioam_base.specs.Words.{two_octets, four_octets}
use Rattle.ioam_dex.specs.Record.{Record, IsRecord}
use Rattle.ioam_dex.specs.Reads.{records_octets}
use Rattle.ioam_pool.specs.Entry.{Entry, is_full}
use Rattle.ioam_collect.specs.Best.{groups_of}
use Rattle.ioam_collect.specs.Collected.{Collected}
use Rattle.ioam_collect.specs.Join.{pairs_in}
use Rattle.ioam_collect.specs.Keyed.{keyed_of, keyed}
use Rattle.ioam_collect.specs.Unite.{AreApart}
use Rattle.ioam_collect.specs.declared.key.Key.{Key}

-- IOAMPART
abbrev pub mark : List ℕ
mark = 73 ∷ 79 ∷ 65 ∷ 77 ∷ 80 ∷ 65 ∷ 82 ∷ 84 ∷ []

-- the most records of a part
abbrev pub most_records : ℕ
most_records = 1048576

-- the mark and the count
abbrev pub head_octets : ℕ → List ℕ
head_octets count = mark ++ four_octets count

-- a record has a key by which it is regrouped
abbrev pub HasKey : Record → Type 0
HasKey x = (p : Key × Entry) × (keyed_of x ≡ Some p)

-- Each has a key and stands before all that follow, and none stands beside the version 2 record of which it is the version 1
-- record. Comparing each with the next is enough: `neighbours_tell` of ioam_collect.
pub record AreInOrder (xs : List Record) : Type 0 where
  pub keys : All HasKey xs
  pub apart : AreApart (keyed xs)

-- the octets of a part of these records: its head, and each record
abbrev pub part_octets : List Record → List ℕ
part_octets xs = head_octets (length xs) ++ records_octets xs

-- the octets are the part of these records
pub record IsPart (octets : List ℕ) (xs : List Record) : Type 0 where
  pub each : All IsRecord xs
  pub few : length xs ≤ most_records
  pub in_order : AreInOrder xs
  pub is : octets ≡ part_octets xs

-- the octets are the part of these groups
pub record PartOf (octets : List ℕ) (groups : List (Key × List Entry)) : Type 0 where
  pub records : List Record
  pub part : IsPart octets records
  pub same : keyed records ≡ pairs_in groups

-- ---- the same of a collector

-- the record of an item: its version 1 record, or, where a visit is told, that with the visit in its place and 12 octets longer
abbrev pub told_octets : List ℕ → List ℕ → List ℕ
told_octets core extra = 2 ∷ slice_index core 1 ∷ (two_octets (length core + 12) ++ (take 6 (drop 4 core) ++ (extra ++ drop 10 core)))

-- the octets of the record that an item is of, with its visit where that is told
abbrev pub item_octets : Entry → List ℕ
item_octets e = cond (is_full e) (told_octets e.core e.extra) e.core

-- those of items, one behind the other
abbrev pub items_octets : List Entry → List ℕ
items_octets es = flat_map item_octets es

-- those of groups, one behind the other
abbrev pub groups_octets : List (Key × List Entry) → List ℕ
groups_octets groups = flat_map (λ (group : Key × List Entry). items_octets group.1) groups

-- the octets of the part of what a collector holds
abbrev pub part_text : Collected → List ℕ
part_text c = head_octets c.held ++ groups_octets c.groups

-- ---- parts that are joined

-- the octets of a part that has what either of two parts has
pub record JoinsTo (one two both : List ℕ) : Type 0 where
  pub firsts : List Record
  pub seconds : List Record
  pub first : IsPart one firsts
  pub second : IsPart two seconds
  pub joined : PartOf both (groups_of (keyed firsts ++ keyed seconds))
