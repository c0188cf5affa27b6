-- What takes the octets of a file that is read as a part: at most 300,000,000.
use Rattle.std.specs.Prelude.{◌≡◌, ◌||◌, ℕ, ◌+◌, Bool, List, length, is_some, nat_lt}
use Rattle.ioam_part.specs.Reading as part
use Rattle.ioam_part.specs.Reading.{PartReading, fault_of}
use Rattle.ioam_part_merge.specs.Keeping.{Keeps}
use Rattle.ioam_run_part.specs.declared.intakes.FlatIntake.{FlatIntake}
use Rattle.ioam_run_part.specs.declared.intakes.HeldIntake.{HeldIntake}

-- a fault was found, or fewer octets than a piece may still be read
abbrev pub is_decided : PartReading → ℕ → Bool
is_decided reading left = is_some (fault_of reading) || nat_lt left 65536

-- a reader of parts of at most `limit` records was fed these octets, and `left` more may be read
pub record IsFed (limit : ℕ) (octets : List ℕ) (reading : PartReading) (left : ℕ) : Type 0 where
  pub stands : part.Stands limit octets reading
  pub within : length octets + left ≡ 300000000

abbrev pub TakesHeld : HeldIntake → List ℕ → HeldIntake → Type 0
TakesHeld begun octets now = IsFed 1048576 octets now.reader now.left

abbrev pub TakesFlat : FlatIntake → List ℕ → FlatIntake → Type 0
TakesFlat begun octets now = IsFed 0 octets now.keeper.reader now.left × Keeps octets now.keeper
