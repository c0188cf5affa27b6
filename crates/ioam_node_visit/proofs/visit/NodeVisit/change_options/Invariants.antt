use Rattle.std.proofs.Common.{◌≡◌, ◌+◌, ◌-◌, ◌≤◌, ◌++◌, length, drop, slice_index}
use Rattle.ioam_dex.specs.Reads.{records_octets}
use Rattle.ioam_ip.specs.OptionsLeft.{options_from}
use Rattle.ioam_ip.specs.Rewriting.{with_steps}
use Rattle.ioam_node_visit.specs.Counted.{notes_in, records_in}
use Rattle.ioam_node_visit.specs.Exports.{records_of}
use Rattle.ioam_node_visit.specs.Notes.{notes_of}
use Rattle.ioam_node_visit.specs.Step.{node_step}
use Rattle.ioam_node_visit.proofs.visit.NodeVisit.change_options.Given as goal

abbrev pub invariant-options : goal.invariant-options
invariant-options l =
    let old = l.initial.head in
    let all = options_from (length old) old 2 in
    let left = options_from (length old) old l.at in
    let notes = notes_of l.self.domain.now l.self.readings.now l.self.place l.self.time l.self.hops in
    let records = records_of l.self.domain.now l.self.readings.now l.self.place l.self.time l.self.hops in
    let step = node_step l.self.domain.now l.self.readings.now l.self.place l.self.time l.self.hops in
    (2 ≤ l.at) × (drop l.at l.head ≡ drop l.at old)
    × (with_steps step l.head left ≡ with_steps step old all)
    × (slice_index l.head 1 ≡ slice_index old 1)
    × (l.room.notes ++ notes_in notes left ≡ l.initial.room.notes ++ notes_in notes all)
    × (l.room.spare + length (notes_in notes all) ≡ l.initial.room.spare + length (notes_in notes left))
    × (length (notes_in notes left) ≤ l.room.spare)
    × (l.room.exports ++ records_octets (records_in records left) ≡ l.initial.room.exports ++ records_octets (records_in records all))
    × (l.room.capacities ≡ l.initial.room.capacities)

abbrev pub decreases-options : goal.decreases-options
decreases-options l = length l.head - l.at
