use Rattle.std.proofs.Common.{length, refl, arith}
use Rattle.std.proofs.lemmas.Option.{slice_get_read}
use Rattle.ioam_base.proofs.ResultLaws.{OnOk-map}
use Rattle.ioam_capture.specs.Merge.{arrival_of}
use Rattle.ioam_capture.specs.Reader.{taken_of}
use Rattle.ioam_capture_merge.specs.declared.capture.Capture.{Capture}
use Rattle.ioam_capture_merge.proofs.MergeLaws.{comes_packet, comes_taken, room_kept}
use Rattle.ioam_run_traffic.proofs.RunsLaws.{runs_take}
use Rattle.ioam_run_traffic.proofs.progress.Progress.take_from.Goals as goal

pub take-requires-clause-short : goal.take-requires-clause-short
take-requires-clause-short g c = (rw c.in-Packet.is at c.next.follows.holds-at-none).0.1

pub take-requires-clause-few : goal.take-requires-clause-few
take-requires-clause-few g c = omega (arith, c.requires.few, c.args.terms.now.domain.now.packets_most)

pub unreachable-requires : goal.unreachable-requires
unreachable-requires g c =
    let (n, fed, ended, arrivals, time, comes) = c.requires.coming in
    let items = c.args.self.now.merge.captures.items in
    let before = c.index_mut-capture.result.now in
    let there = slice_get_read items (length items) c.args.place before refl (omega (arith, comes.inside, comes.merging.captures)) c.index_mut-capture.ensures.value in
    let (link, packet, is) = comes_packet n fed ended arrivals c.args.self.now.merge c.args.place time comes before there
    c.next.follows.lender-at-none c.next.result (λ octets given stands. c.next.follows.holds-at-none.3 octets given stands) c.in_default.not-NoMemory in
    c.in_default.not-Packet link packet is

pub returns-in-Packet-clause-room : goal.returns-in-Packet-clause-room
returns-in-Packet-clause-room g c = OnOk-map c.take.result _ _ c.take.ensures.counted (λ counted.
    let told = rw c.in-Packet.is at c.next.follows.holds-at-none in
    let (n, fed, ended, arrivals, time, comes) = c.requires.coming in
    let items = c.args.self.now.merge.captures.items in
    let before = c.index_mut-capture.result.now in
    let there = slice_get_read items (length items) c.args.place before refl (omega (arith, comes.inside, comes.merging.captures)) c.index_mut-capture.ensures.value in
    let after : Capture = record { reader = c.next.follows.lender-at-none; ended = before.ended } in
    room_kept items c.args.place before after there told.1 refl)

pub returns-in-Packet-clause-takes : goal.returns-in-Packet-clause-takes
returns-in-Packet-clause-takes g c = OnOk-map c.take.result _ _ c.take.ensures.gathers
    (λ more opens n fed ended arrivals so_far time comes runs.
    let told = rw c.in-Packet.is at c.next.follows.holds-at-none in
    let items = c.args.self.now.merge.captures.items in
    let before = c.index_mut-capture.result.now in
    let there = slice_get_read items (length items) c.args.place before refl (omega (arith, comes.inside, comes.merging.captures)) c.index_mut-capture.ensures.value in
    let after : Capture = record { reader = c.next.follows.lender-at-none; ended = before.ended } in
    let item = taken_of c.in-Packet.link c.in-Packet.packet in
    let one = arrival_of c.args.place item in
    let taken_so = comes_taken n fed ended arrivals c.args.self.now.merge c.args.place time comes before there after item
    (λ octets given stands. (told.3 octets given stands).0) refl _ refl refl in (
      one,
      taken_so.0,
      runs_take opens c.args.terms.now arrivals so_far c.args.self.now.gathered runs one c.take.new.self _ refl more c.requires.few told.0.0,
    ))
