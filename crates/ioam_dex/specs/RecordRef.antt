-- Export records that are held as their octets.
use Rattle.std.specs.Prelude.{◌≡◌, ℕ, ◌+◌, ◌-◌, List, ◌∷◌, length, take, drop, slice_index, All, None}
use Rattle.ioam_base.specs.Words.{two_octets}
use Rattle.ioam_dex.specs.Visit.{has_visit, twelve_where}
use Rattle.ioam_dex.specs.Record.{Record, IsRecord, record_at}
use Rattle.ioam_dex.specs.Reads.{records_octets}
use Rattle.ioam_dex.specs.declared.record_ref.RecordRef.{RecordRef}

-- what a record says that is held as its octets
unfoldable pub content : RecordRef → Record
content r = record_at r.octets.now

-- the version 1 record of a record, which tells no visit
abbrev pub plain : Record → Record
plain x = record x { visit = None }

-- ---- the octets of a record in four parts, of which the third is its visit

-- the octets of the visit
abbrev pub visit_size : List ℕ → ℕ
visit_size octets = twelve_where (has_visit (slice_index octets 0))

-- the first part as the version 1 record has it: the version, the extension flags and the length
abbrev pub plain_head : List ℕ → List ℕ
plain_head octets = 1 ∷ slice_index octets 1 ∷ two_octets (length octets - visit_size octets)

-- the second part: Namespace-ID, flags and IOAM-Trace-Type
abbrev pub fields_between : List ℕ → List ℕ
fields_between octets = take 6 (drop 4 octets)

-- the fourth part: Flow ID, Sequence Number and element
abbrev pub plain_tail : List ℕ → List ℕ
plain_tail octets = drop (10 + visit_size octets) octets

-- ---- records one after another

-- the octets are whole records, one after another
abbrev pub AreRecords : List ℕ → Type 0
AreRecords octets = (xs : List Record) × All IsRecord xs × (octets ≡ records_octets xs)
