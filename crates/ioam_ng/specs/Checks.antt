-- Faults that are looked for in an order.
use Rattle.std.specs.Prelude.{List, [], ◌∷◌, Bool, Option, Some, None, if◌then◌else◌}
use Rattle.ioam_pcap.specs.declared.capture.CapFault.{CapFault}

-- whether there is this fault
pub record Check : Type 0 where
  pub is : Bool
  pub fault : CapFault

-- the first of several that is there
abbrev pub first : List Check → Option CapFault
first [] = None
first (check ∷ checks) = if check.is then Some check.fault else first checks
