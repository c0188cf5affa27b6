-- What the octets of a capture show of it while more of them may come.
use Rattle.std.specs.Prelude.{◌≡◌, ℕ, Bool, true, false, List, Option, Some, None, ◌++◌, if◌then◌else◌}
use Rattle.ioam_pcap.specs.Ending.{Ending, Whole, Faulty, stays}
use Rattle.ioam_pcap.specs.Entries.{Taken}
use Rattle.ioam_capture.specs.Merge.{Stream}
use Rattle.ioam_capture.specs.Reads.{Reads}

-- What is known of how a capture ends, by how its octets so far end: once it has ended, that; before,
-- a fault that stays, and an end or a cut may yet be no end.
abbrev pub known_ending : Bool → Ending → Option Ending
known_ending true ending = Some ending
known_ending false Whole = None
known_ending false (Faulty at f) = if stays f then Some (Faulty at f) else None

-- the octets of a capture so far, which are all of them where it has ended, show these whole
-- records, and this of how it ends behind them
pub record ShowsSo (octets : List ℕ) (ended : Bool) (taken : List Taken) (known : Option Ending) : Type 0 where
  pub ending : Ending
  pub reads : Reads octets taken ending
  pub known_is : known ≡ known_ending ended ending

-- of what they show, these records were taken, and what is left is this
abbrev pub Streams : List ℕ → Bool → List Taken → Stream → Type 0
Streams octets ended taken stream = ShowsSo octets ended (taken ++ stream.records) stream.ending
