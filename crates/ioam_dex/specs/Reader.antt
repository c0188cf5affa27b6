-- What a reader stands for, and what its steps tell of the octets that it was fed.
use Rattle.std.specs.Prelude.{◌≡◌, ℕ, ◌+◌, List, [], ◌∷◌, ◌++◌, length, Option, Some, None}
use Rattle.std.specs.Io.BufRead.{Rests}
use Rattle.std.specs.Borrow.{Fml, MutBor}
use Rattle.ioam_dex.specs.declared.export.ExportFault.{ExportFault}
use Rattle.ioam_dex.specs.declared.reader.Step.{Step}
use Rattle.ioam_dex.specs.declared.reader.Step.TheVariants.{Export, More, Bad}
use Rattle.ioam_dex.specs.contracts.reader.ExportReader.{the_row}
use Rattle.ioam_dex.specs.Record.{Record, IsRecord, record_of, record_octets}
use Rattle.ioam_dex.specs.Faults.{Fault, IsCut}
use Rattle.ioam_dex.specs.Reads.{records_octets, Splits, Ending, Whole, Faulty, Reads, ReadsOnly}
use Rattle.ioam_dex.specs.Reading.{Reading}

-- a reader that was fed these octets in all, in whatever pieces, and has given these records
pub record Stands (reader : Reading) (octets : List ℕ) (records : List Record) : Type 0 where
  pub splits : Splits octets records reader.pending
  pub place : reader.start ≡ length (records_octets records)

-- a reader that was fed nothing
abbrev pub fresh : Reading
fresh = record { start = 0; pending = []; given = 0 }

-- how many octets it was fed in all
abbrev pub fed : Reading → ℕ
fed reader = reader.start + length reader.pending

-- how many octets it keeps
abbrev pub held : Reading → ℕ
held reader = reader.given + length reader.pending

-- the record that is due is not whole and has no fault: more octets have to be fed, or the input ends
abbrev pub Waits : Reading → Type 0
Waits reader = IsCut reader.pending

-- what is due has this fault
abbrev pub HasFault : Reading → ExportFault → Type 0
HasFault reader fault = Fault reader.pending fault

-- a fault of what is due stays
abbrev pub KeepsFault : Reading → Reading → Type 0
KeepsFault old new = (fault : ExportFault) → HasFault old fault → HasFault new fault

-- where what is due has a fault a step says this fault, and changes nothing
abbrev pub SaysFault : Reading → Reading → Step → Type 0
SaysFault old new step = (fault : ExportFault) → HasFault old fault → (step ≡ Bad old.start fault) × (new ≡ old)

-- what a step finds in front of the pending octets, and what it takes off
abbrev pub Moved : Reading → Reading → Step → Type 0
Moved old new (Export e) = IsRecord (record_of e) × (old.pending ≡ record_octets (record_of e) ++ new.pending)
    × (new.start ≡ old.start + length (record_octets (record_of e)))
Moved old new More = (new ≡ old) × Waits old
Moved old new (Bad at fault) = (new ≡ old) × (at ≡ old.start) × Fault old.pending fault

-- what the reader stands for behind a step, which was fed these octets and had given these records; an
-- input with a fault ends there, whatever is fed, and reads in this way alone
abbrev pub Leaves : List ℕ → List Record → Reading → Step → Type 0
Leaves octets records new (Export e) = Stands new octets (records ++ record_of e ∷ [])
Leaves octets records new More = Stands new octets records
Leaves octets records new (Bad at fault) = Stands new octets records
    × ((more : List ℕ) → Reads (octets ++ more) records (Faulty at fault) × ReadsOnly (octets ++ more) records (Faulty at fault))

-- so the reader is once the step's octets are no longer lent: it keeps as many octets as before
abbrev pub RestsSo : MutBor Reading → Step → Fml
RestsSo reader step = Rests the_row reader (λ new. Moved reader.now new step
    × ((octets : List ℕ) (records : List Record) → Stands reader.now octets records → Leaves octets records new step)
    × SaysFault reader.now new step × (held new ≡ held reader.now))

-- the ending of an input that was fed whole, by what `finish` answers
abbrev pub ending_of : Option (ℕ × ExportFault) → Ending
ending_of None = Whole
ending_of (Some (at, fault)) = Faulty at fault
