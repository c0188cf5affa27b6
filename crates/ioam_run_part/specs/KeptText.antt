-- How the records of a part are printed.
use Rattle.std.specs.Prelude.{◌≡◌, ℕ, ◌≤◌, List, ◌++◌, length, decimal, codes}
use Rattle.std.specs.List.{flat_map}
use Rattle.ioam_run_answer.specs.Record.{Record}
use Rattle.ioam_collect.specs.Best.{groups_of}
use Rattle.ioam_collect.specs.Collected.{Collected, Stands}
use Rattle.ioam_collect.specs.Keyed.{keyed}
use Rattle.ioam_part.specs.Part.{AreInOrder}
use Rattle.ioam_report_groups.specs.GroupsText.{group_text}

-- how many records are kept
abbrev pub kept_line : ℕ → List ℕ
kept_line count = codes "kept " ++ decimal count ++ codes "\n"

-- the lines of a collector's groups, and how many records it holds
abbrev pub kept_text : Collected → List ℕ
kept_text c = flat_map group_text c.groups ++ kept_line c.held

-- those of the records of a part
abbrev pub part_lines : List Record → List ℕ
part_lines xs = flat_map group_text (groups_of (keyed xs)) ++ kept_line (length xs)

-- the collector stands for the records of a part, and these are their lines
pub record AreLines (c : Collected) (text : List ℕ) : Type 0 where
  pub records : List Record
  pub in_order : AreInOrder records
  pub few : length records ≤ 1048576
  pub stands : Stands c records
  pub is : text ≡ part_lines records
