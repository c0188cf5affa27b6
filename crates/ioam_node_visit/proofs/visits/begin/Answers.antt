use Rattle.std.proofs.Common.{◌-◌, ◌++◌, [], refl, ap, ◌∙◌, ℕ, List, slice_index, sym, subst, ◌≡◌, arith}
use Rattle.ioam_dex.specs.Reads.{records_octets}
use Rattle.ioam_ip.specs.Hop.{hop_options}
use Rattle.ioam_node_visit.specs.Counted.{notes_in, records_in}
use Rattle.ioam_node_visit.specs.Exports.{records_of}
use Rattle.ioam_node_visit.specs.FlowExports.{AreFlowExports}
use Rattle.ioam_node_visit.specs.Notes.{notes_of}
use Rattle.ioam_node_visit.specs.Stepped.{Stepped}
use Rattle.ioam_node_visit.specs.Visits.{Visited, tunnel_records}
use Rattle.ioam_node_visit.proofs.FlowExportsLaws.{flow-exports}
use Rattle.ioam_node_visit.proofs.ExportedLaws.{exports-are, exports-only}
use Rattle.ioam_node_visit.proofs.NotedLaws.{notes-are, notes-only}
use Rattle.ioam_node_visit.proofs.SteppedLaws.{stepped-is, stepped-only}
use Rattle.ioam_node_visit.proofs.RecordsLaws.{first-records}
use Rattle.ioam_node_visit.proofs.VisitLaws.{begins}
use Rattle.ioam_node_visit.proofs.visits.begin.Goals as goal

pub returns-clause-wire : goal.returns-clause-wire
returns-clause-wire c tunnel is same =
    begins c.args.domain.now c.args.readings.now tunnel is [] (record { place = c.args.place; time = c.args.time }) c.args.packet.now same
    c.visit_packet.new.packet refl c.visit_packet.ensures.steps

pub returns-clause-exported : goal.returns-clause-exported
returns-clause-exported c tunnel is same =
    c.visit_packet.ensures.exports
    ∙ ap (λ rs. c.args.room.now.exports ++ records_octets rs)
    (first-records c.args.domain.now c.args.readings.now tunnel is [] (record { place = c.args.place; time = c.args.time }) c.args.packet.now same refl)

pub returns-clause-records : goal.returns-clause-records
returns-clause-records c =
    let d = c.args.domain.now in
    let r = c.args.readings.now in
    let p = c.args.place in
    let t = c.args.time in
    let hops = slice_index c.args.packet.now 7 in
    let options = hop_options c.args.packet.now in
    record {
      records = records_in (records_of d r p t hops) options;
      are = exports-are d r p t hops options;
      only = exports-only d r p t hops options;
      is = c.visit_packet.ensures.exports;
    }

pub returns-clause-stepped : goal.returns-clause-stepped
returns-clause-stepped c =
    let d = c.args.domain.now in
    let r = c.args.readings.now in
    let p = c.args.place in
    let t = c.args.time in
    let hops = slice_index c.args.packet.now 7 in
    let packet = c.args.packet.now in
    let P : List ℕ → Type 0 = λ xs. Stepped d r p t hops hops packet xs in
    subst P (sym c.visit_packet.ensures.steps) (stepped-is d r p t hops packet c.requires.sound c.requires.packet)

pub returns-clause-only : goal.returns-clause-only
returns-clause-only c other given =
    let hops = slice_index c.args.packet.now 7 in
    stepped-only c.args.domain.now c.args.readings.now c.args.place c.args.time hops hops c.args.packet.now other c.visit_packet.new.packet
    given (returns-clause-stepped c)

pub returns-clause-flow : goal.returns-clause-flow
returns-clause-flow c tunnel flow number is carries same =
    let d = c.args.domain.now in
    let r = c.args.readings.now in
    let visit : Visited = record { place = c.args.place; time = c.args.time } in
    let records = tunnel_records d r tunnel 0 visit in
    let hops : tunnel.hops - 0 ≡ tunnel.hops = omega arith in
    let P : ℕ → Type 0 = λ n. AreFlowExports d r c.args.place c.args.time n flow flow.direct number records in
    record {
      records = records;
      are = subst P hops (flow-exports d r tunnel 0 visit flow number carries);
      is = returns-clause-exported c tunnel is same;
    }

pub returns-clause-noted : goal.returns-clause-noted
returns-clause-noted c =
    let d = c.args.domain.now in
    let r = c.args.readings.now in
    let p = c.args.place in
    let t = c.args.time in
    let hops = slice_index c.args.packet.now 7 in
    let options = hop_options c.args.packet.now in
    record {
      notes = notes_in (notes_of d r p t hops) options;
      are = notes-are d r p t hops options;
      only = notes-only d r p t hops options;
      is = c.visit_packet.ensures.notes;
    }
