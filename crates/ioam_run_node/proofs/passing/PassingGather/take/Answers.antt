use Rattle.std.proofs.Common.{[], refl, ◌+◌, arith}
use Rattle.std.proofs.lemmas.List.Elements.{All-nil, All-cons}
use Rattle.ioam_run_stream.specs.Reader.{taken_of}
use Rattle.ioam_pcap.specs.Text.{IsSendable}
use Rattle.ioam_run_node.specs.NodeText.{added_of}
use Rattle.ioam_run_node.specs.Passage.{Goes, Drops}
use Rattle.ioam_run_node.specs.Seat.{seat_of}
use Rattle.ioam_run_node.proofs.PassingLaws.{Adds-second, Gathers-push}
use Rattle.ioam_run_node.proofs.passing.PassingGather.take.Goals as goal

pub returns-in_ok-sent-in-Goes-clause-gathers : goal.returns-in_ok-sent-in-Goes-clause-gathers
returns-in_ok-sent-in-Goes-clause-gathers c = (
  added_of (seat_of c.args.self.now.post) (c.args.self.now.sent + c.args.self.now.dropped + 1) (Goes c.args.captured.now.time c.in-Goes.way c.in-Goes.packet.now),
  c.in_ok-sent-in-Goes.ensures.adds,
  Gathers-push c.args.self.now _
      (taken_of c.args.link c.args.captured.now) (Goes c.args.captured.now.time c.in-Goes.way c.in-Goes.packet.now)
      (c.args.self.now.sent + c.args.self.now.dropped + 1) refl refl
      c.in-Goes.ensures.passage c.in_ok-sent-in-Goes.ensures.clean (All-cons IsSendable _ [] c.in_ok-sent-in-Goes.ensures.fits (All-nil IsSendable)) refl (omega arith),
)

pub returns-in_ok-put_drop-in-Drops-clause-gathers : goal.returns-in_ok-put_drop-in-Drops-clause-gathers
returns-in_ok-put_drop-in-Drops-clause-gathers c = (
  added_of (seat_of c.args.self.now.post) (c.args.self.now.sent + c.args.self.now.dropped + 1) (Drops c.in-Drops.reason),
  Adds-second _ _ _ _ c.requires.width refl c.in_ok-put_drop-in-Drops.ensures,
  Gathers-push c.args.self.now _
      (taken_of c.args.link c.args.captured.now) (Drops c.in-Drops.reason)
      (c.args.self.now.sent + c.args.self.now.dropped + 1) refl refl c.in-Drops.ensures.passage tt (All-nil IsSendable) (omega arith) refl,
)
