-- What the reader of a line answers.
use Rattle.std.specs.Prelude.{◌≡◌, ⊤, ℕ, Result, Ok, Err}
use Rattle.ioam_clock.specs.declared.fault.ReadWhy.{ReadWhy}
use Rattle.ioam_clock.specs.declared.refused.Refused.{Refused}
use Rattle.ioam_clock.specs.declared.refused.Refused.TheVariants.{Because, NoMemory}
use Rattle.ioam_clock.specs.declared.fault.ReadingsFault.{ReadingsFault}
use Rattle.ioam_clock.specs.declared.fault.ReadingsRefused.{ReadingsRefused}
use Rattle.ioam_clock.specs.declared.fault.ReadingsRefused.TheVariants.{Fault, NoMemory as NoRoom}

-- the reading gives this, or is refused for this; want of memory is free
abbrev pub Adds : {A X : Type 0} → Result X Refused → A → Result A ReadWhy → Type 0
Adds (Ok _) new reading = reading ≡ Ok new
Adds (Err (Because why)) new reading = reading ≡ Err why
Adds (Err NoMemory) new reading = ⊤

-- the same for the lines of a file
abbrev pub AddsLines : {A X : Type 0} → Result X ReadingsRefused → A → Result A ReadingsFault → Type 0
AddsLines (Ok _) new reading = reading ≡ Ok new
AddsLines (Err (Fault fault)) new reading = reading ≡ Err fault
AddsLines (Err NoRoom) new reading = ⊤

-- why a line wasn't read, at its number
abbrev pub refused_at : ℕ → Refused → ReadingsRefused
refused_at number (Because why) = Fault (record { line = number; why = why })
refused_at number NoMemory = NoRoom
