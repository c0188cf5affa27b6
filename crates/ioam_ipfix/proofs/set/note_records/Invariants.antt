use Rattle.std.proofs.Common.{◌-◌, ◌*◌, ◌≤◌}
use Rattle.std.specs.Prelude.{vec_len, vec_capacity}
use Rattle.ioam_ipfix.proofs.PlacesLaws.{Noted}
use Rattle.ioam_ipfix.proofs.set.note_records.Given as goal

-- the records up to a place were noted
abbrev pub invariant-records : goal.invariant-records
invariant-records l = record {
  after : l.from ≤ l.at;
  within : l.at ≤ l.to;
  few : 8 * vec_len l.places ≤ l.at;
  room : 8192 ≤ vec_capacity l.places;
  noted : Noted l.id l.message l.from l.to l.initial.places.items l.at l.places.items;
}

abbrev pub decreases-records : goal.decreases-records
decreases-records l = l.to - l.at
