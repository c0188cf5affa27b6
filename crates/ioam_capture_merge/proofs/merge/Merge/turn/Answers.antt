use Rattle.std.proofs.Common.{sym, ap, ◌∙◌}
use Rattle.ioam_capture.specs.Turn.{turn_of}
use Rattle.ioam_capture_merge.proofs.MergeLaws.{turns_of}
use Rattle.ioam_capture_merge.proofs.merge.Merge.turn.Goals as goal

pub returns : goal.returns
returns c = λ n fed ended taken merging known.
    turns_of n fed ended taken c.args.self.now merging known c.next_turn.result (sym (c.next_turn.ensures.exact ∙ ap turn_of c.deref.ensures.value))
