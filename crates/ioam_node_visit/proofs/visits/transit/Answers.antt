use Rattle.std.proofs.Common.{◌-◌, ◌++◌, slice_index, arith, ap, ◌∙◌, ℕ, List, sym, subst, length}
use Rattle.std.proofs.lemmas.List.{get_or-set_same}
use Rattle.ioam_dex.specs.Reads.{records_octets}
use Rattle.ioam_ip.proofs.CarriedLaws.{CarriesIoam-lowered, CarriesIoam-raised}
use Rattle.ioam_ip.proofs.SoundLaws.{IsSound-lowered, option_count-lowered}
use Rattle.ioam_node_visit.specs.Counted.{notes_in, records_in}
use Rattle.ioam_node_visit.specs.Exports.{records_of}
use Rattle.ioam_node_visit.specs.Notes.{notes_of}
use Rattle.ioam_ip.specs.Hop.{hop_options}
use Rattle.ioam_node_visit.specs.Stepped.{Stepped}
use Rattle.ioam_node_visit.specs.Visits.{Visited, tunnel_records}
use Rattle.ioam_node_visit.proofs.FlowExportsLaws.{flow-exports}
use Rattle.ioam_node_visit.proofs.ExportedLaws.{exports-are, exports-only}
use Rattle.ioam_node_visit.proofs.NotedLaws.{notes-are, notes-only}
use Rattle.ioam_node_visit.proofs.SteppedLaws.{stepped-lowered, stepped-only}
use Rattle.ioam_node_visit.proofs.CountedLaws.{IsPacket-lowered, options_lowered}
use Rattle.ioam_node_visit.proofs.RecordsLaws.{later-records}
use Rattle.ioam_node_visit.proofs.VisitLaws.{transits}
use Rattle.ioam_node_visit.proofs.visits.transit.Goals as goal

pub visit_packet-requires-clause-packet : goal.visit_packet-requires-clause-packet
visit_packet-requires-clause-packet c = IsPacket-lowered c.args.packet.now (slice_index c.args.packet.now 7 - 1) c.requires.packet

pub visit_packet-requires-clause-sound : goal.visit_packet-requires-clause-sound
visit_packet-requires-clause-sound c = IsSound-lowered c.args.packet.now (slice_index c.args.packet.now 7 - 1) c.requires.sound

pub visit_packet-requires-clause-room : goal.visit_packet-requires-clause-room
visit_packet-requires-clause-room c = omega (arith, c.requires.room, option_count-lowered c.args.packet.now (slice_index c.args.packet.now 7 - 1))

pub returns-clause-notes : goal.returns-clause-notes
returns-clause-notes c =
    let limit = slice_index c.args.packet.now 7 - 1 in
    let notes = notes_of c.args.domain.now c.args.readings.now c.args.place c.args.time limit in
    c.visit_packet.ensures.notes ∙ ap (λ os. c.args.room.now.notes ++ notes_in notes os) (options_lowered c.args.packet.now limit)

pub returns-clause-exports : goal.returns-clause-exports
returns-clause-exports c =
    let limit = slice_index c.args.packet.now 7 - 1 in
    let records = records_of c.args.domain.now c.args.readings.now c.args.place c.args.time limit in
    c.visit_packet.ensures.exports ∙ ap (λ os. c.args.room.now.exports ++ records_octets (records_in records os)) (options_lowered c.args.packet.now limit)

pub returns-clause-spare : goal.returns-clause-spare
returns-clause-spare c =
    omega (arith, c.visit_packet.ensures.spare, option_count-lowered c.args.packet.now (slice_index c.args.packet.now 7 - 1))

pub returns-clause-carries : goal.returns-clause-carries
returns-clause-carries c =
    let limit = slice_index c.args.packet.now 7 - 1 in
    let passes = c.visit_packet.ensures.carries in (
      (λ carries. passes.0 (CarriesIoam-lowered c.args.packet.now limit carries)),
      (λ carries. CarriesIoam-raised c.args.packet.now limit (passes.1 carries)),
    )

pub returns-clause-count : goal.returns-clause-count
returns-clause-count c =
    c.visit_packet.ensures.count ∙ option_count-lowered c.args.packet.now (slice_index c.args.packet.now 7 - 1)

pub returns-clause-hops : goal.returns-clause-hops
returns-clause-hops c =
    let within = c.requires.packet.header_there in
    c.visit_packet.ensures.hops ∙ get_or-set_same c.args.packet.now 7 (slice_index c.args.packet.now 7 - 1) 0 (omega (arith, within))

pub returns-clause-wire : goal.returns-clause-wire
returns-clause-wire c tunnel visits is some same =
    transits c.args.domain.now c.args.readings.now tunnel is visits (record { place = c.args.place; time = c.args.time }) c.args.packet.now same
    c.visit_packet.new.packet some c.visit_packet.ensures.steps

pub returns-clause-exported : goal.returns-clause-exported
returns-clause-exported c tunnel visits is some same =
    returns-clause-exports c
    ∙ ap (λ rs. c.args.room.now.exports ++ records_octets rs)
    (later-records c.args.domain.now c.args.readings.now tunnel is visits (record { place = c.args.place; time = c.args.time }) c.args.packet.now same some)

pub returns-clause-records : goal.returns-clause-records
returns-clause-records c =
    let d = c.args.domain.now in
    let r = c.args.readings.now in
    let p = c.args.place in
    let t = c.args.time in
    let hops = slice_index c.args.packet.now 7 - 1 in
    let options = hop_options c.args.packet.now in
    record {
      records = records_in (records_of d r p t hops) options;
      are = exports-are d r p t hops options;
      only = exports-only d r p t hops options;
      is = returns-clause-exports c;
    }

pub returns-clause-stepped : goal.returns-clause-stepped
returns-clause-stepped c =
    let d = c.args.domain.now in
    let r = c.args.readings.now in
    let p = c.args.place in
    let t = c.args.time in
    let hops = slice_index c.args.packet.now 7 - 1 in
    let packet = c.args.packet.now in
    let P : List ℕ → Type 0 = λ xs. Stepped d r p t hops hops packet xs in
    subst P (sym c.visit_packet.ensures.steps) (stepped-lowered d r p t hops packet hops c.requires.sound c.requires.packet)

pub returns-clause-only : goal.returns-clause-only
returns-clause-only c other given =
    let hops = slice_index c.args.packet.now 7 - 1 in
    stepped-only c.args.domain.now c.args.readings.now c.args.place c.args.time hops hops c.args.packet.now other c.visit_packet.new.packet
    given (returns-clause-stepped c)

pub returns-clause-flow : goal.returns-clause-flow
returns-clause-flow c tunnel visits flow number is carries some same =
    let visit : Visited = record { place = c.args.place; time = c.args.time } in
    record {
      records = tunnel_records c.args.domain.now c.args.readings.now tunnel (length visits) visit;
      are = flow-exports c.args.domain.now c.args.readings.now tunnel (length visits) visit flow number carries;
      is = returns-clause-exported c tunnel visits is some same;
    }

pub returns-clause-noted : goal.returns-clause-noted
returns-clause-noted c =
    let d = c.args.domain.now in
    let r = c.args.readings.now in
    let p = c.args.place in
    let t = c.args.time in
    let hops = slice_index c.args.packet.now 7 - 1 in
    let options = hop_options c.args.packet.now in
    record {
      notes = notes_in (notes_of d r p t hops) options;
      are = notes-are d r p t hops options;
      only = notes-only d r p t hops options;
      is = returns-clause-notes c;
    }
