use Rattle.std.proofs.Common.{◌≤◌, ◌-◌, ◌++◌, List, ℕ, arith, length, length-append, take, drop, sym, ap, ◌∙◌}
use Rattle.std.proofs.lemmas.List.{append-nil}
use Rattle.ioam_dex.specs.Reads.{records_octets}
use Rattle.ioam_ip.specs.Hop.{option_count}
use Rattle.ioam_ip.specs.Rewriting.{options_in}
use Rattle.ioam_ip.proofs.HopLaws.{hop_options-none, hop_options-is, option_count-is, hop_stepped-none, hop_stepped-is}
use Rattle.ioam_node_visit.specs.Counted.{notes_in, records_in}
use Rattle.ioam_node_visit.specs.Exports.{records_of}
use Rattle.ioam_node_visit.specs.Notes.{notes_of}
use Rattle.ioam_node_visit.specs.Step.{node_step}
use Rattle.ioam_node_visit.proofs.StepLaws.{notes_in_few}
use Rattle.ioam_node_visit.proofs.visit.NodeVisit.change_packet.Goals as goal

pub returns-in_default-clause-notes : goal.returns-in_default-clause-notes
returns-in_default-clause-notes c =
    let v = c.args.self.now in
    let notes = notes_of v.domain.now v.readings.now v.place v.time v.hops in
    sym (ap (λ os. c.args.room.now.notes ++ notes_in notes os) (hop_options-none c.args.packet.now c.in_default.ensures.place) ∙ append-nil c.args.room.now.notes)

pub returns-in_default-clause-exports : goal.returns-in_default-clause-exports
returns-in_default-clause-exports c =
    let v = c.args.self.now in
    let records = records_of v.domain.now v.readings.now v.place v.time v.hops in
    sym (ap (λ os. c.args.room.now.exports ++ records_octets (records_in records os)) (hop_options-none c.args.packet.now c.in_default.ensures.place) ∙ append-nil c.args.room.now.exports)

pub returns-in_default-clause-steps : goal.returns-in_default-clause-steps
returns-in_default-clause-steps c =
    let v = c.args.self.now in
    hop_stepped-none c.args.packet.now c.in_default.ensures.place (node_step v.domain.now v.readings.now v.place v.time v.hops)

pub returns-clause-steps : goal.returns-clause-steps
returns-clause-steps c =
    let v = c.args.self.now in
    hop_stepped-is c.args.packet.now c.in-Some.hop c.in-Some.ensures.place c.change_options.new.head c.change_options.auto.head
    (node_step v.domain.now v.readings.now v.place v.time v.hops) c.change_options.ensures.steps

pub returns-clause-notes : goal.returns-clause-notes
returns-clause-notes c =
    let v = c.args.self.now in
    let notes = notes_of v.domain.now v.readings.now v.place v.time v.hops in
    c.change_options.ensures.notes
    ∙ ap (λ os. c.args.room.now.notes ++ notes_in notes os) (sym (hop_options-is c.args.packet.now c.in-Some.hop c.in-Some.ensures.place))

pub returns-clause-exports : goal.returns-clause-exports
returns-clause-exports c =
    let v = c.args.self.now in
    let records = records_of v.domain.now v.readings.now v.place v.time v.hops in
    c.change_options.ensures.exports
    ∙ ap (λ os. c.args.room.now.exports ++ records_octets (records_in records os)) (sym (hop_options-is c.args.packet.now c.in-Some.hop c.in-Some.ensures.place))

pub change_options-requires-clause-room : goal.change_options-requires-clause-room
change_options-requires-clause-room c =
    let v = c.args.self.now in
    let packet = c.args.packet.now in
    let hop = c.in-Some.hop in
    let old : List ℕ = take (hop.end - hop.start) (drop hop.start packet) in
    let room : option_count packet ≤ c.args.room.now.spare = c.requires.room in
    let notes = notes_of v.domain.now v.readings.now v.place v.time v.hops in
    let small : length (notes_in notes (options_in old)) ≤ c.args.room.now.spare =
    omega (arith, notes_in_few v.domain.now v.readings.now v.place v.time v.hops (options_in old), option_count-is packet hop c.in-Some.ensures.place, room) in
    small

pub returns-clause-spare : goal.returns-clause-spare
returns-clause-spare c =
    let v = c.args.self.now in
    let packet = c.args.packet.now in
    let hop = c.in-Some.hop in
    let old : List ℕ = take (hop.end - hop.start) (drop hop.start packet) in
    omega (arith, notes_in_few v.domain.now v.readings.now v.place v.time v.hops (options_in old), option_count-is packet hop c.in-Some.ensures.place, c.change_options.ensures.spare)

pub returns-clause-given : goal.returns-clause-given
returns-clause-given c =
    let more = ap length c.change_options.ensures.notes ∙ length-append c.args.room.now.notes _ in
    omega (arith, more, c.change_options.ensures.spare)
