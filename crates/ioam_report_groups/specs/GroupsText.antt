-- How export records that were regrouped are printed.
use Rattle.std.specs.Prelude.{ℕ, ◌-◌, ◌==◌, if◌then◌else◌, List, [], ◌++◌, length, drop, decimal, codes}
use Rattle.std.specs.List.{flat_map}
use Rattle.std.specs.Int.{w32, to_be_bytes}
use Rattle.ioam_base.specs.Octets.{u32_at, u64_at}
use Rattle.ioam_data.specs.Kind.{words}
use Rattle.ioam_dex.specs.Record.{Record, kind_of, element_of}
use Rattle.ioam_pool.specs.Entry.{Entry}
use Rattle.ioam_line.specs.Digits.{digits_of}
use Rattle.ioam_report_lines.specs.FieldsText.{element_text}
use Rattle.ioam_report_lines.specs.TraceText.{line_feed}
use Rattle.ioam_collect.specs.Keyed.{keyed}
use Rattle.ioam_collect.specs.Best.{kept_of, groups_of}
use Rattle.ioam_collect.specs.Collected.{Collected, count_unkeyed}
use Rattle.ioam_collect.specs.declared.key.Key.{Key}

-- the time at the node and the interface by which the packet came, of the 12 octets of a visit; nothing of none
abbrev pub visit_text : List ℕ → List ℕ
visit_text extra =
    if length extra == 0 then [] else codes " at=" ++ decimal (u64_at extra 0) ++ codes " from=" ++ decimal (u32_at extra 8)

-- two spaces, the type in six digits, the fields of the element, and the visit
abbrev pub record_line : ℕ → List ℕ → List ℕ → List ℕ
record_line kind element extra =
    codes "  " ++ digits_of (drop 1 (to_be_bytes w32 kind)) ++ codes " " ++ element_text kind (words kind) element ++ visit_text extra ++ line_feed

-- the line of an item, whose core is a record
abbrev pub item_line : Entry → List ℕ
item_line e = record_line (kind_of e.core) (element_of e.core) e.extra

-- the line of a key with so many records
abbrev pub key_line : Key → ℕ → List ℕ
key_line key count =
    codes "group " ++ decimal key.namespace.0 ++ codes " " ++ decimal key.flow ++ codes " " ++ decimal key.seq ++ codes " " ++ decimal count ++ line_feed

-- the lines of a group
abbrev pub group_text : Key × List Entry → List ℕ
group_text group = key_line group.0 (length group.1) ++ flat_map item_line group.1

-- how many records were read, are kept, were there already, and have no key
abbrev pub counts_line : ℕ → ℕ → ℕ → List ℕ
counts_line read kept unkeyed =
    codes "records " ++ decimal read ++ codes " kept " ++ decimal kept ++ codes " repeats " ++ decimal (read - kept - unkeyed)
    ++ codes " unkeyed " ++ decimal unkeyed ++ line_feed

-- the text of a collector
abbrev pub collected_text : Collected → List ℕ
collected_text c = flat_map group_text c.groups ++ counts_line c.read c.held c.unkeyed

-- the text of a list of records: the lines of its groups, and its counts
abbrev pub records_text : List Record → List ℕ
records_text xs = flat_map group_text (groups_of (keyed xs)) ++ counts_line (length xs) (length (kept_of (keyed xs))) (count_unkeyed xs)
