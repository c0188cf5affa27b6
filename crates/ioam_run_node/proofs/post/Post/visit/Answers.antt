use Rattle.std.proofs.Common.{refl, ap, ◌∙◌, ◌++◌, List, ℕ}
use Rattle.ioam_node_visit.specs.declared.note.NodeNote.{NodeNote}
use Rattle.ioam_run_node.specs.Seat.{seat_of}
use Rattle.ioam_run_node.proofs.SendingLaws.{passed_is, noted_is, exported_is, clean_is}
use Rattle.ioam_run_node.proofs.post.Post.visit.Goals as goal

pub returns-clause-packet : goal.returns-clause-packet
returns-clause-packet c =
    passed_is (seat_of c.args.self.now) c.args.time c.args.way c.args.packet.now c.args.packet.now c.outward_of.result refl c.outward_of.ensures
    c.transit.new.packet c.transit.ensures.steps

pub returns-clause-notes : goal.returns-clause-notes
returns-clause-notes c =
    c.transit.ensures.notes ∙ ap (λ (n : List NodeNote). c.args.room.now.notes ++ n)
    (noted_is (seat_of c.args.self.now) c.args.time c.args.way c.args.packet.now c.args.packet.now c.outward_of.result refl c.outward_of.ensures)

pub returns-clause-exports : goal.returns-clause-exports
returns-clause-exports c =
    c.transit.ensures.exports ∙ ap (λ (e : List ℕ). c.args.room.now.exports ++ e)
    (exported_is (seat_of c.args.self.now) c.args.time c.args.way c.args.packet.now c.args.packet.now c.outward_of.result refl c.outward_of.ensures)

pub returns-clause-clean : goal.returns-clause-clean
returns-clause-clean c =
    clean_is (seat_of c.args.self.now) c.args.time c.args.way c.args.packet.now c.args.packet.now c.transit.new.packet refl c.requires.can_go
    (passed_is (seat_of c.args.self.now) c.args.time c.args.way c.args.packet.now c.args.packet.now c.outward_of.result refl c.outward_of.ensures
    c.transit.new.packet c.transit.ensures.steps)
    c.transit.ensures.packet c.transit.ensures.sound c.transit.ensures.carries
