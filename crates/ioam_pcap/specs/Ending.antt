-- How a capture ends, in either form.
use Rattle.std.specs.Prelude.{ℕ, Bool, true, false, Option, Some, None}
use Rattle.ioam_pcap.specs.declared.capture.CapFault.{CapFault}
use Rattle.ioam_pcap.specs.declared.capture.CapFault.TheVariants.{Short}

-- behind all that is due, each whole; or at a place with a fault
pub data Ending : Type 0 where
  Whole : Ending
  Faulty : ℕ → CapFault → Ending

-- a fault that stays, whatever octets come behind: each but that of a capture that is too short
abbrev pub stays : CapFault → Bool
stays (Short have) = false
stays _ = true

-- the ending of a capture that was fed whole, by what `finish` answers
abbrev pub ending_of : Option (ℕ × CapFault) → Ending
ending_of None = Whole
ending_of (Some (at, fault)) = Faulty at fault
