-- The faults of a domain file, one list in the order in which they are looked for.
use Rattle.std.specs.Prelude.{◌≡◌, ⊤, ℕ, codes, List, [], ◌∷◌, ◌++◌, Option, Some, None, Result, Ok, Err}
use Rattle.toml.specs.Data.{Data, Members}
use Rattle.ioam_topo_values.specs.declared.why.Why.{Why}
use Rattle.ioam_topo_values.specs.declared.refused.Refused.{Refused}
use Rattle.ioam_topo_values.specs.declared.refused.Refused.TheVariants.{Because, NoMemory as NoRoom}
use Rattle.ioam_topo_values.specs.Entries.{rows, entries}
use Rattle.ioam_topo_entries.specs.declared.words.Table.{Table}
use Rattle.ioam_topo_entries.specs.declared.fault.DomainFault.{DomainFault}
use Rattle.ioam_topo_entries.specs.declared.fault.DomainRefused.{DomainRefused}
use Rattle.ioam_topo_entries.specs.declared.fault.DomainRefused.TheVariants.{Fault, NoMemory}

-- in place of a key that its table doesn't list
abbrev pub other_key : List ℕ
other_key = codes "other"

-- in place of a key, of a fault of the table or of the file
abbrev pub no_key : List ℕ
no_key = codes "-"

-- a fault of this table, at this place, of this key, for this reason
abbrev pub fault : Table → ℕ → List ℕ → Why → DomainFault
fault table place key why = record { table = table; place = place; field = key; why = why }

-- what a key gives: nothing where it is read, else one fault
abbrev pub at : {A : Type 0} → Table → ℕ → List ℕ → Result A Why → List DomainFault
at table place key (Ok x) = []
at table place key (Err why) = fault table place key why ∷ []

-- what the code read at a key, seen by `seen`, is this reading, or the fault of the key
abbrev pub ReadsAt : {X A : Type 0} → (X → A) → Result X DomainRefused → Table → ℕ → List ℕ → Result A Why → Type 0
ReadsAt seen (Ok x) table place key reading = reading ≡ Ok (seen x)
ReadsAt seen (Err refused) table place key reading = (why : Why) × (reading ≡ Err why) × (refused ≡ Fault (fault table place key why))

-- the first of a list
abbrev pub first : {A : Type 0} → List A → Option A
first [] = None
first (x ∷ xs) = Some x

-- what was read where there are no faults, else the first fault; want of memory is free
abbrev pub Gives : {A : Type 0} → Result A DomainRefused → List DomainFault → (A → Type 0) → Type 0
Gives (Ok x) faults P = (faults ≡ []) × P x
Gives (Err (Fault fault)) faults P = first faults ≡ Some fault
Gives (Err NoMemory) faults P = ⊤

-- the faults of entries, each by itself and by those before it
abbrev pub each : (List Members → Members → List DomainFault) → List Members → List Members → List DomainFault
each faults earlier [] = []
each faults earlier (m ∷ ms) = faults earlier m ++ each faults (earlier ++ m ∷ []) ms

-- the faults of a table of no more than so many entries: of its heading, then of its entries
abbrev pub table_faults : Table → ℕ → Option Data → (List Members → Members → List DomainFault) → List DomainFault
table_faults table most d faults = at table 0 no_key (rows most d) ++ each faults [] (entries d)

-- why a key gave nothing, at its place
abbrev pub refused_at : Table → ℕ → List ℕ → Refused → DomainRefused
refused_at table place key (Because why) = Fault (fault table place key why)
refused_at table place key NoRoom = NoMemory
