-- The octets of a core: few stand in place, more in memory of their own.
use Rattle.std.specs.Prelude.{ℕ, ◌≤◌, List, length, take}
use Rattle.ioam_pool.specs.declared.octets.Octets.{Octets}
use Rattle.ioam_pool.specs.declared.octets.Octets.TheVariants.{Few, Many}

-- the octets, wherever they stand
abbrev pub octets_of : Octets → List ℕ
octets_of (Few size octets) = take size octets
octets_of (Many octets) = octets.items

-- at most 38 of them stand in place, and at most 262 in memory of their own
abbrev pub AreOctets : Octets → Type 0
AreOctets (Few size octets) = size ≤ 38
AreOctets (Many octets) = length octets.items ≤ 262
