-- A part that is read in pieces.
use Rattle.std.specs.Prelude.{◌≡◌, ℕ, ◌+◌, ◌<◌, ◌≤◌, ◌⊎◌, max, min, Bool, true, false, List, [], ◌∷◌, ◌++◌, length, Option, Some, None, ⊤}
use Rattle.ioam_dex.specs.Faults.{IsCut}
use Rattle.ioam_dex.specs.Record.{Record, record_octets}
use Rattle.ioam_dex.specs.Reading.{Reading}
use Rattle.ioam_dex.specs.Reader as dex
use Rattle.ioam_collect.specs.Collected as collected
use Rattle.ioam_collect.specs.Collected.{Collected}
use Rattle.ioam_collect.specs.Keyed.{keyed_of, keyed}
use Rattle.ioam_collect.specs.Ranked.{last_of, may_come_next}
use Rattle.ioam_part.specs.Part.{most_records, head_octets, AreInOrder, IsPart}
use Rattle.ioam_part.specs.Faults.{HasFault, HasFaultBehind}
use Rattle.ioam_part.specs.declared.fault.PartFault.{PartFault}
use Rattle.ioam_part.specs.declared.fault.PartFault.TheVariants as fault
use Rattle.ioam_part.specs.declared.progress.Progress.{Progress}
use Rattle.ioam_part.specs.declared.reader.PartRefused.{PartRefused}
use Rattle.ioam_part.specs.declared.reader.PartRefused.TheVariants as refused

-- a reader as its callers see it: the octets of its head, what its reader of records has, and how far it has come
pub record PartReading : Type 0 where
  pub head : List ℕ
  pub reading : Reading
  pub progress : Progress

-- the collector stands for these records, or they are more than it may hold
abbrev pub Holds : ℕ → Bool → Collected → List Record → Type 0
Holds limit false c xs = collected.Stands c xs × (c.held ≤ limit) × (c.limit ≡ limit)
Holds limit true c xs = limit < length xs

-- of these octets behind the head these records were taken
pub record Took (count limit : ℕ) (body : List ℕ) (xs : List Record) (reading : Reading) (p : Progress) : Type 0 where
  pub stands : dex.Stands reading body xs
  pub in_order : AreInOrder xs
  pub within : length xs ≤ count
  pub last : p.order ≡ last_of (keyed xs)
  pub given : p.given ≡ length xs
  pub end : p.end ≡ reading.start
  pub holds : Holds limit p.full p.collector xs

-- no more records are whole, and where all were taken nothing is left
pub record Rests (count : ℕ) (xs : List Record) (reading : Reading) : Type 0 where
  pub waits : IsCut reading.pending
  pub done : length xs ≡ count → reading.pending ≡ []

-- the mark and the count aren't whole
pub record IsOpen (limit : ℕ) (octets : List ℕ) (r : PartReading) : Type 0 where
  pub short : length octets < 12
  pub head : octets ≡ r.head
  pub took : (count : ℕ) → Took count limit [] [] r.reading r.progress

-- the mark and the count are whole, and all records that are were taken
pub record IsBehind (limit : ℕ) (octets : List ℕ) (r : PartReading) : Type 0 where
  pub count : ℕ
  pub body : List ℕ
  pub records : List Record
  pub head : r.head ≡ head_octets count
  pub is : octets ≡ r.head ++ body
  pub few : count ≤ most_records
  pub took : Took count limit body records r.reading r.progress
  pub rests : Rests count records r.reading

-- the reader found no fault: the head isn't whole yet, or it is and all whole records were taken; or it found this one, that
-- of all octets that begin so
abbrev pub StandsBy : ℕ → List ℕ → PartReading → Option (ℕ × PartFault) → Type 0
StandsBy limit octets r None = IsOpen limit octets r ⊎ IsBehind limit octets r
StandsBy limit octets r (Some bad) = (more : List ℕ) → HasFault (octets ++ more) bad.0 bad.1

-- a reader of parts of at most so many records was fed these octets in all, in whatever pieces; a fault that it has found
-- is that of all octets that begin so
abbrev pub Stands : ℕ → List ℕ → PartReading → Type 0
Stands limit octets r = StandsBy limit octets r r.progress.fault

-- how many octets it was fed behind the head
abbrev pub fed : PartReading → ℕ
fed r = dex.fed r.reading

-- the fault that was found, if any
abbrev pub fault_of : PartReading → Option (ℕ × PartFault)
fault_of r = r.progress.fault

-- how many octets behind the head it keeps
abbrev pub held : PartReading → ℕ
held r = dex.held r.reading

-- where no fault was found fewer octets than the greatest record has are not yet taken
abbrev pub HoldsFew : PartReading → Type 0
HoldsFew r = fault_of r ≡ None → length r.reading.pending < 274

-- so many octets more were fed: it keeps these and what was not yet taken, and no more; or what it kept before
abbrev pub KeepsFew : PartReading → ℕ → PartReading → Type 0
KeepsFew old more new = held new ≤ max (held old) (length old.reading.pending + more)

-- the collector stands for the records of the part
abbrev pub IsReadAs : ℕ → List ℕ → Collected → Type 0
IsReadAs limit octets c = (xs : List Record) × IsPart octets xs × collected.Stands c xs × (length xs ≤ limit) × (c.limit ≡ limit)

-- why there is no collector: a fault, or else more records than it may hold, or no memory
abbrev pub RefusedBy : ℕ → List ℕ → PartRefused → Type 0
RefusedBy limit octets (refused.Fault at f) = HasFault octets at f
RefusedBy limit octets refused.Full = (xs : List Record) × IsPart octets xs × (limit < length xs)
RefusedBy limit octets refused.NoMemory = ⊤

-- ---- one record

-- it was taken, or it may not stand behind the last one
abbrev pub Goes : Progress → Record → Bool → Progress → Type 0
Goes old x true new = (may_come_next old.order (keyed_of x) ≡ true) × (new.order ≡ keyed_of x) × (new.fault ≡ old.fault)
    × (new.given ≡ min (old.given + 1) 4294967295) × (new.end ≡ min (old.end + length (record_octets x)) 18446744073709551615)
    × ((limit : ℕ) (xs : List Record) → AreInOrder (xs ++ x ∷ []) → Holds limit old.full old.collector xs → Holds limit new.full new.collector (xs ++ x ∷ []))
Goes old x false new = (may_come_next old.order (keyed_of x) ≡ false)
    × ((at : ℕ) × (new.fault ≡ Some (at, fault.Order)) × (old.end < 9223372036854775808 → at ≡ 12 + old.end))

-- the fault that was found behind the head, whatever follows
abbrev pub FoundBehind : ℕ → List ℕ → Option (ℕ × PartFault) → Type 0
FoundBehind count body None = ⊥
FoundBehind count body (Some bad) = (place : ℕ) × (bad.0 ≡ 12 + place) × ((more : List ℕ) → HasFaultBehind count (body ++ more) place bad.1)

-- what is known where no record was taken
abbrev pub Stops : ℕ → ℕ → List ℕ → List Record → Reading → Progress → Type 0
Stops count limit body xs reading p =
    ((p.fault ≡ None) × Took count limit body xs reading p × Rests count xs reading) ⊎ FoundBehind count body p.fault

-- one more record was taken, or none and why
abbrev pub Turns : ℕ → ℕ → List ℕ → List Record → Bool → Reading → Progress → Type 0
Turns count limit body xs true reading p = (p.fault ≡ None) × ((x : Record) × Took count limit body (xs ++ x ∷ []) reading p)
Turns count limit body xs false reading p = Stops count limit body xs reading p
