-- What EXPORTS, and a file that ought to be a part, may be.
use Rattle.std.specs.Prelude.{ℕ, ◌+◌, ◌<◌, ◌≤◌, Bool, IsTrue, IsSomeAnd, List, ◌++◌, length, Option}
use Rattle.ioam_base.specs.Octets.{IsFront}
use Rattle.ioam_desk.specs.Desk.{Reading}
use Rattle.ioam_run_answer.specs.Record.{Record}
use Rattle.ioam_run_answer.specs.Reads.{Ending, Reads, Splits}
use Rattle.ioam_collect.specs.Best.{groups_of}
use Rattle.ioam_collect.specs.Collected.{count_kept}
use Rattle.ioam_collect.specs.Keyed.{keyed}
use Rattle.ioam_collect_stream.specs.Gathering.{AreFew, Passes}
use Rattle.ioam_part.specs.Faults.{HasFault}
use Rattle.ioam_part.specs.Part.{IsPart, PartOf}
use Rattle.ioam_part.specs.declared.fault.PartFault.{PartFault}

-- ---- EXPORTS

-- the octets read as these records, and end so
abbrev pub EndsSo : Ending → List Record → List ℕ → Type 0
EndsSo ending records octets = Reads octets records ending

-- these are the first records of the octets
abbrev pub AreFirst : List Record → List ℕ → Type 0
AreFirst records octets = (rest : List ℕ) × Splits octets records rest

-- the octets are export records that end so, no more than may be
pub record IsExports (ending : Ending) (octets : List ℕ) : Type 0 where
  pub records : List Record
  pub reads : Reads octets records ending
  pub few : AreFew records

-- the octets are more export records than may be, by this limit
pub record IsLong (limit : ℕ) (octets : List ℕ) : Type 0 where
  pub records : List Record
  pub passes : Passes limit records octets
  pub few : AreFew records

-- ---- parts

-- the octets are the part of the groups of these records
abbrev pub IsPartOfAll : List Record → List ℕ → Type 0
IsPartOfAll records octets = PartOf octets (groups_of (keyed records))

-- the octets are a front of the part of the groups of these records
abbrev pub IsFrontOfPart : List Record → List ℕ → Type 0
IsFrontOfPart records front = (whole : List ℕ) × IsPartOfAll records whole × IsFront front whole

-- the octets are a part
abbrev pub IsAPart : List ℕ → Type 0
IsAPart octets = (records : List Record) × IsPart octets records

-- two names hold octets that are so to each other
abbrev pub HoldBoth : Option (List ℕ) → Option (List ℕ) → (List ℕ → List ℕ → Type 0) → Type 0
HoldBoth first second Are = IsSomeAnd first (λ one. IsSomeAnd second (Are one))

-- the octets are two parts, of which the records are so to each other
pub record AreParts (Are : List Record → List Record → Type 0) (one two : List ℕ) : Type 0 where
  pub firsts : List Record
  pub seconds : List Record
  pub first : IsPart one firsts
  pub second : IsPart two seconds
  pub are : Are firsts seconds

-- what is kept of both is no more than a part may have, or is more
abbrev pub KeepFew : List Record → List Record → Type 0
KeepFew firsts seconds = count_kept (firsts ++ seconds) ≤ 1048576

-- what is kept of both is more than a part may have: 1,048,576
abbrev pub KeepMany : List Record → List Record → Type 0
KeepMany firsts seconds = 1048576 < count_kept (firsts ++ seconds)

-- the first is a part, and the second has this fault, at this place
abbrev pub IsSecondFaulty : ℕ → PartFault → List ℕ → List ℕ → Type 0
IsSecondFaulty at fault one two = IsAPart one × HasFault two at fault

-- ---- how much is read

-- where the desk tells, what was handed out of this slot, over what a name holds, was 300,000,000 octets at most
abbrev pub ReadsFew : Bool → Option (List ℕ) → ℕ → Reading → Type 0
ReadsFew tells content slot new = IsTrue tells → IsSomeAnd content (λ octets. length octets ≤ length (new.left slot) + 300000000)
