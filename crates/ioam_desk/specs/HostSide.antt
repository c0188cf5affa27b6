-- One kind of slots over real files.
use Rattle.std.specs.Prelude.{◌≡◌, ◌≢◌, ◌++◌, ◌∷◌, [], ℕ, List, All, length, ◌+◌, IfSome, Option, None, Some, option_map, option_and_then, Result, Ok, Err, vec_len}
use Rattle.std.specs.List.{slice_get}
use Rattle.ioam_desk.specs.Desk.{Side, opened_side}
use Rattle.ioam_desk.specs.declared.file_system.Identity.{Identity}
use Rattle.ioam_desk.specs.declared.host_side.HostSide.{HostSide}
use Rattle.ioam_desk.specs.declared.host_side.Slot.{Slot}
use Rattle.ioam_desk.specs.declared.host_fault.Reason.{Reason}
use Rattle.ioam_desk.specs.declared.host_fault.Reason.TheVariants as reason
use Rattle.ioam_desk.specs.declared.host_side.Failure.{Failure}
use Rattle.ioam_desk.specs.declared.host_side.Place.{Place}
use Rattle.ioam_desk.specs.declared.host_side.Place.TheVariants as place
use Rattle.ioam_desk.specs.Faults.{with_fault}
use Rattle.ioam_desk.specs.declared.fault.DeskFault.{DeskFault}
use Rattle.ioam_desk.specs.declared.fault.DeskFault.TheVariants.{Failed, NoMemory}

-- what one kind of slots shows: how many calls failed, the names that were asked for, and how many slots there are
abbrev pub side_of : {F : Type 0} → HostSide F → Side
side_of side = record { faults = side.faults; asked = side.asked.items; slots = vec_len side.slots }

-- nothing was opened, and nothing failed
abbrev pub no_side : Side
no_side = record { faults = 0; asked = []; slots = 0 }

-- what an opening call did: one slot more, or one fault more, and the name in either case; or
-- nothing, for want of memory
abbrev pub AddsSlot : Side → List ℕ → Result ℕ DeskFault → Side → Type 0
AddsSlot old name (Ok slot) new = (slot ≡ old.slots) × (new ≡ opened_side old name)
AddsSlot old name (Err Failed) new = new ≡ record (with_fault old) { asked = old.asked ++ name ∷ [] }
AddsSlot old name (Err NoMemory) new = new ≡ old

-- what a read or a write did to the counts: one fault more where it failed. Want of memory never comes
abbrev pub HasCounted : Side → Result ℕ DeskFault → Side → Type 0
HasCounted old (Ok _) new = new ≡ old
HasCounted old (Err Failed) new = new ≡ with_fault old
HasCounted old (Err NoMemory) new = ⊥

-- the file of a slot is another one from now on, which stands to the former as this says; its name,
-- which file it is, and all other slots are as they were
pub record ChangesFile {F : Type 0} (old new : List (Slot F)) (slot : ℕ) (to : F → F → Type 0) : Type 0 where
  pub slots : length new ≡ length old
  pub others : (k : ℕ) → k ≢ slot → slice_get new k ≡ slice_get old k
  pub name : option_map (λ (one : Slot F). one.name) (slice_get new slot) ≡ option_map (λ (one : Slot F). one.name) (slice_get old slot)
  pub identity : option_map (λ (one : Slot F). one.opened.identity) (slice_get new slot) ≡ option_map (λ (one : Slot F). one.opened.identity) (slice_get old slot)
  pub file : (before after : Slot F) → slice_get old slot ≡ Some before → slice_get new slot ≡ Some after → to before.opened.file after.opened.file

-- of the file of a slot this is so
abbrev pub IsOfSlot : {F A : Type 0} → (F → A → Type 0) → List (Slot F) → ℕ → A → Type 0
IsOfSlot so slots slot x = IfSome (slice_get slots slot) (λ one. so one.opened.file x)

-- none of the slots is over this file
abbrev pub IsApart : {F : Type 0} → Identity → List (Slot F) → Type 0
IsApart identity slots = All (λ slot. slot.opened.identity ≢ Some identity) slots

-- the name by which a slot was opened
abbrev pub slot_name : {F : Type 0} → HostSide F → ℕ → Option (List ℕ)
slot_name side k = option_map (λ slot. slot.name) (slice_get side.slots.items k)

-- the name that belongs to a call
abbrev pub name_of : {F : Type 0} → HostSide F → Place → Option (List ℕ)
name_of side (place.Opening at) = slice_get side.asked.items at
name_of side (place.Slot k) = slot_name side k

-- the name of the last call that failed
abbrev pub fault_name : {F : Type 0} → HostSide F → Option (List ℕ)
fault_name side = option_and_then (λ (last : Failure). name_of side last.place) side.last

-- why it failed
abbrev pub fault_reason : {F : Type 0} → HostSide F → Option Reason
fault_reason side = option_map (λ (last : Failure). last.reason) side.last

-- A file that was to be written, which is so, is refused as an input only where an input is over it, as
-- an output only where no input is and an output is, and by the system only where it said so.
abbrev pub IsRefusal : {F : Type 0} → (Reason → Type 0) → (Identity → Type 0) → List (Slot F) → List (Slot F) → Reason → Type 0
IsRefusal said so inputs outputs (reason.System why) = said (reason.System why)
IsRefusal said so inputs outputs reason.IsInput = (identity : Identity) × so identity × (IsApart identity inputs → ⊥)
IsRefusal said so inputs outputs reason.IsOutput = (identity : Identity) × so identity × IsApart identity inputs × (IsApart identity outputs → ⊥)
IsRefusal said so inputs outputs reason.TakesNone = ⊥

-- a call failed by what the system said, which is this
abbrev pub IsOfSystem : (Reason → Type 0) → Reason → Type 0
IsOfSystem said (reason.System why) = said (reason.System why)
IsOfSystem said reason.IsInput = ⊥
IsOfSystem said reason.IsOutput = ⊥
IsOfSystem said reason.TakesNone = ⊥

-- a write failed by what the system said of it, or as it took nothing
abbrev pub IsOfWrite : (Reason → Type 0) → Type 0 → Reason → Type 0
IsOfWrite said none (reason.System why) = said (reason.System why)
IsOfWrite said none reason.IsInput = ⊥
IsOfWrite said none reason.IsOutput = ⊥
IsOfWrite said none reason.TakesNone = none

-- a call that failed for this reason is an error of the outside: not where the desk itself refuses
-- the file, or where a write took nothing
abbrev pub errors_by : ℕ → Reason → ℕ
errors_by errors (reason.System why) = errors + 1
errors_by errors reason.IsInput = errors
errors_by errors reason.IsOutput = errors
errors_by errors reason.TakesNone = errors

-- how many errors the outside gave, after an opening that was answered so
abbrev pub errors_opening : {A : Type 0} → ℕ → Result A Reason → ℕ
errors_opening errors (Ok _) = errors
errors_opening errors (Err why) = errors_by errors why

-- how many errors the outside gave, after a call of the desk that was answered so and, where it failed, for this reason
abbrev pub errors_answered : ℕ → Result ℕ DeskFault → Option Reason → ℕ
errors_answered errors (Ok _) why = errors
errors_answered errors (Err NoMemory) why = errors
errors_answered errors (Err Failed) None = errors
errors_answered errors (Err Failed) (Some why) = errors_by errors why
