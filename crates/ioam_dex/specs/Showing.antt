-- What a step tells that shows a record by its octets.
use Rattle.std.specs.Prelude.{◌≡◌, ℕ, ◌+◌, List, [], ◌∷◌, ◌++◌, length}
use Rattle.std.specs.Io.BufRead.{Rests}
use Rattle.std.specs.Borrow.{Fml, MutBor}
use Rattle.ioam_dex.specs.declared.reader.Shown.{Shown}
use Rattle.ioam_dex.specs.declared.reader.Shown.TheVariants as shown
use Rattle.ioam_dex.specs.contracts.reader.ExportReader.{the_row}
use Rattle.ioam_dex.specs.Record.{Record, Rec}
use Rattle.ioam_dex.specs.Faults.{Fault}
use Rattle.ioam_dex.specs.Reads.{Faulty, Reads, ReadsOnly}
use Rattle.ioam_dex.specs.Reading.{Reading}
use Rattle.ioam_dex.specs.Reader.{Stands, Waits, held}

-- a record more was given
abbrev pub Gives : Reading → Reading → Record → Type 0
Gives old new x = (octets : List ℕ) (records : List Record) → Stands old octets records → Stands new octets (records ++ x ∷ [])

-- what a step finds in front of the pending octets, and what it takes off; the reader keeps as many octets as before
abbrev pub Finds : Reading → Reading → Shown → Type 0
Finds old new (shown.Record octets) = ((x : Record) × Rec octets.now x × Gives old new x)
    × (old.pending ≡ octets.now ++ new.pending) × (new.start ≡ old.start + length octets.now) × (held new ≡ held old)
Finds old new shown.More = (new ≡ old) × Waits old
Finds old new (shown.Bad at fault) = (new ≡ old) × (at ≡ old.start) × Fault old.pending fault
    × ((octets : List ℕ) (records : List Record) → Stands old octets records
    → (more : List ℕ) → Reads (octets ++ more) records (Faulty at fault) × ReadsOnly (octets ++ more) records (Faulty at fault))

-- so the reader is once the octets are no longer lent
abbrev pub ShowsSo : MutBor Reading → Shown → Fml
ShowsSo reader step = Rests the_row reader (λ new. Finds reader.now new step)
