-- The desk over real files, in the desk's words: it tells its counts, its names and its slots.
use Rattle.std.specs.Prelude.{◌≡◌, ◌++◌, ◌∷◌, ◌⊎◌, [], ℕ, List, ⊤, false, None, Option, Some, MatchOption, Result, Ok, Err}
use Rattle.ioam_desk.specs.Desk.{Side, Reading, Writing}
use Rattle.ioam_desk.specs.HostSide.{side_of, fault_name, fault_reason, IsApart}
use Rattle.ioam_desk.specs.declared.host_fault.Reason.{Reason}
use Rattle.ioam_desk.specs.declared.file_system.Identity.{Identity}
use Rattle.ioam_desk.specs.declared.host_side.Slot.{Slot}
use Rattle.ioam_desk.specs.declared.host_side.Opened.{Opened}
use Rattle.ioam_desk.specs.declared.fault.DeskFault.{DeskFault}
use Rattle.ioam_desk.specs.declared.host_desk.HostDesk.{HostDesk}

-- what the slots hold isn't told
abbrev pub untold_reading : Side → Reading
untold_reading side = record { side = side; left = λ _. []; ended = λ _. false }

-- what the slots and the names hold isn't told
abbrev pub untold_writing : Side → Writing
untold_writing side = record { side = side; written = λ _. []; files = λ _. None }

-- R is the type of the file system, F that of its files.
abbrev pub reading_of : {R F : Type 0} → HostDesk R F → Reading
reading_of desk = untold_reading (side_of desk.inputs)

-- the outputs of the desk over real files, which don't tell what is written
abbrev pub writing_of : {R F : Type 0} → HostDesk R F → Writing
writing_of desk = untold_writing (side_of desk.outputs)

-- the slots of either kind
abbrev pub inputs_of : {R F : Type 0} → HostDesk R F → List (Slot F)
inputs_of desk = desk.inputs.slots.items

-- the slots of its outputs, as `inputs_of` has those of its inputs
abbrev pub outputs_of : {R F : Type 0} → HostDesk R F → List (Slot F)
outputs_of desk = desk.outputs.slots.items

-- the name of the last call of either kind that failed
abbrev pub read_fault_name : {R F : Type 0} → HostDesk R F → Option (List ℕ)
read_fault_name desk = fault_name desk.inputs

-- the name of the last call on outputs that failed
abbrev pub write_fault_name : {R F : Type 0} → HostDesk R F → Option (List ℕ)
write_fault_name desk = fault_name desk.outputs

-- and why it failed
abbrev pub read_fault_reason : {R F : Type 0} → HostDesk R F → Option Reason
read_fault_reason desk = fault_reason desk.inputs

-- and why it failed
abbrev pub write_fault_reason : {R F : Type 0} → HostDesk R F → Option Reason
write_fault_reason desk = fault_reason desk.outputs

-- a new slot stands behind those that were there; it is of this name, and what was opened is as this says
abbrev pub AddsOpened : {F : Type 0} → List (Slot F) → List ℕ → (Opened F → Type 0) → Result ℕ DeskFault → List (Slot F) → Type 0
AddsOpened {F} old name so (Ok slot) new = (opened : Opened F) × (new ≡ old ++ record { name = name; opened = opened } ∷ []) × so opened
AddsOpened {F} old name so (Err _) new = new ≡ old

-- a file that was opened to be written is none of those that are open, and was emptied; or it isn't a regular file
abbrev pub IsTakenAnew : {F : Type 0} → (F → Type 0) → List (Slot F) → List (Slot F) → Opened F → Type 0
IsTakenAnew emptied inputs outputs opened = MatchOption opened.identity ⊤
    (λ identity. IsApart identity inputs × IsApart identity outputs × emptied opened.file)

-- some file was opened so, and is this regular one
abbrev pub IsOfSome : {F : Type 0} → (F → Type 0) → (F → Option Identity → Type 0) → Identity → Type 0
IsOfSome {F} opened identified identity = (file : F) × opened file × identified file (Some identity)

-- this was said of a name: by the call that was to open it, or by one on the file that it had opened
abbrev pub IsSaid : {F : Type 0} → (Reason → Type 0) → (F → Type 0) → (F → Reason → Type 0) → Reason → Type 0
IsSaid {F} of_name opened of_file why = of_name why ⊎ ((file : F) × opened file × of_file file why)
