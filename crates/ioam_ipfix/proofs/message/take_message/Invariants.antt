use Rattle.std.proofs.Common.{◌-◌, ◌*◌, ◌≤◌, length}
use Rattle.std.specs.Prelude.{vec_len, vec_capacity}
use Rattle.ioam_ipfix.proofs.PlacesLaws.{Sets}
use Rattle.ioam_ipfix.proofs.message.take_message.Given as goal

-- the sets up to a place were taken
abbrev pub invariant-sets : goal.invariant-sets
invariant-sets l = record {
  few : 8 * vec_len l.places ≤ l.at;
  room : 8192 ≤ vec_capacity l.places;
  taken : Sets l.message l.fn.known l.at l.behind l.places.items;
}

abbrev pub decreases-sets : goal.decreases-sets
decreases-sets l = length l.message - l.at
