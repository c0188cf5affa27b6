-- How the counts of a desk's faults rise, and when a call fails.
use Rattle.std.specs.Prelude.{◌≡◌, ◌+◌, ◌-◌, ◌^◌, ℕ, Bool, true, false, min, Result, Ok, Err}
use Rattle.ioam_desk.specs.Desk.{Side}
use Rattle.ioam_desk.specs.declared.fault.DeskFault.{DeskFault}
use Rattle.ioam_desk.specs.declared.fault.DeskFault.TheVariants.{Failed, NoMemory}

-- one more, or the greatest value of a u64
abbrev pub one_more : ℕ → ℕ
one_more count = min (count + 1) (2 ^ 64 - 1)

-- one fault more
abbrev pub with_fault : Side → Side
with_fault side = record side { faults = one_more side.faults }

-- how many calls failed, after one more call
abbrev pub faults_after : {A : Type 0} → ℕ → Result A DeskFault → ℕ
faults_after faults (Ok _) = faults
faults_after faults (Err Failed) = one_more faults
faults_after faults (Err NoMemory) = faults

-- how many calls on files failed, after one more call
abbrev pub errors_after : {A E : Type 0} → ℕ → Result A E → ℕ
errors_after errors (Ok _) = errors
errors_after errors (Err _) = errors + 1

-- a call failed where it had to, and nowhere else, but for want of memory
abbrev pub FailsIf : {A : Type 0} → Bool → Result A DeskFault → Type 0
FailsIf must (Ok _) = must ≡ false
FailsIf must (Err Failed) = must ≡ true
FailsIf must (Err NoMemory) = Unit {0}
