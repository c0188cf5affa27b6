use Rattle.std.proofs.Common.{◌++◌, ap, ◌∙◌, ◌-◌, ℕ, List, slice_index, sym, subst, length}
use Rattle.ioam_dex.specs.Reads.{records_octets}
use Rattle.ioam_ip.specs.Hop.{hop_options}
use Rattle.ioam_node_visit.specs.Counted.{notes_in, records_in}
use Rattle.ioam_node_visit.specs.Exports.{records_of}
use Rattle.ioam_node_visit.specs.Notes.{notes_of}
use Rattle.ioam_node_visit.specs.Stepped.{Stepped}
use Rattle.ioam_node_visit.specs.Visits.{Visited, tunnel_records}
use Rattle.ioam_node_visit.proofs.FlowExportsLaws.{flow-exports}
use Rattle.ioam_node_visit.proofs.ExportedLaws.{exports-are, exports-only}
use Rattle.ioam_node_visit.proofs.NotedLaws.{notes-are, notes-only}
use Rattle.ioam_node_visit.proofs.SteppedLaws.{stepped-is, stepped-only}
use Rattle.ioam_node_visit.proofs.RecordsLaws.{later-records}
use Rattle.ioam_node_visit.proofs.VisitLaws.{exits}
use Rattle.ioam_node_visit.proofs.visits.exit.Goals as goal

pub returns-clause-closed : goal.returns-clause-closed
returns-clause-closed c tunnel visits is some same =
    exits c.args.domain.now c.args.readings.now tunnel is visits (record { place = c.args.place; time = c.args.time }) c.args.packet.now same
    c.visit_packet.new.packet some c.visit_packet.ensures.steps

pub returns-clause-exported : goal.returns-clause-exported
returns-clause-exported c tunnel visits is some same =
    c.visit_packet.ensures.exports
    ∙ ap (λ rs. c.args.room.now.exports ++ records_octets rs)
    (later-records c.args.domain.now c.args.readings.now tunnel is visits (record { place = c.args.place; time = c.args.time }) c.args.packet.now same some)

pub returns-clause-records : goal.returns-clause-records
returns-clause-records c =
    let d = c.args.domain.now in
    let r = c.args.readings.now in
    let p = c.args.place in
    let t = c.args.time in
    let hops = slice_index c.args.packet.now 7 - 1 in
    let options = hop_options c.args.packet.now in
    record {
      records = records_in (records_of d r p t hops) options;
      are = exports-are d r p t hops options;
      only = exports-only d r p t hops options;
      is = c.visit_packet.ensures.exports;
    }

pub returns-clause-stepped : goal.returns-clause-stepped
returns-clause-stepped c =
    let d = c.args.domain.now in
    let r = c.args.readings.now in
    let p = c.args.place in
    let t = c.args.time in
    let hops = slice_index c.args.packet.now 7 - 1 in
    let packet = c.args.packet.now in
    let P : List ℕ → Type 0 = λ xs. Stepped d r p t hops (slice_index c.args.packet.now 7) packet xs in
    subst P (sym c.visit_packet.ensures.steps) (stepped-is d r p t hops packet c.requires.sound c.requires.packet)

pub returns-clause-only : goal.returns-clause-only
returns-clause-only c other given =
    let hops = slice_index c.args.packet.now 7 - 1 in
    stepped-only c.args.domain.now c.args.readings.now c.args.place c.args.time hops (slice_index c.args.packet.now 7) c.args.packet.now other c.visit_packet.new.packet
    given (returns-clause-stepped c)

pub returns-clause-flow : goal.returns-clause-flow
returns-clause-flow c tunnel visits flow number is carries some same =
    let visit : Visited = record { place = c.args.place; time = c.args.time } in
    record {
      records = tunnel_records c.args.domain.now c.args.readings.now tunnel (length visits) visit;
      are = flow-exports c.args.domain.now c.args.readings.now tunnel (length visits) visit flow number carries;
      is = returns-clause-exported c tunnel visits is some same;
    }

pub returns-clause-noted : goal.returns-clause-noted
returns-clause-noted c =
    let d = c.args.domain.now in
    let r = c.args.readings.now in
    let p = c.args.place in
    let t = c.args.time in
    let hops = slice_index c.args.packet.now 7 - 1 in
    let options = hop_options c.args.packet.now in
    record {
      notes = notes_in (notes_of d r p t hops) options;
      are = notes-are d r p t hops options;
      only = notes-only d r p t hops options;
      is = c.visit_packet.ensures.notes;
    }
