use Rattle.std.proofs.Common.{refl, [], ◌∷◌, ◌+◌}
use Rattle.ioam_pcap.specs.Text.{record_octets}
use Rattle.ioam_run_capture.specs.FilterText.{verdict_line}
use Rattle.ioam_run_capture.specs.Verdict.{Keeps, Drops}
use Rattle.ioam_run_stream.proofs.AddsLaws.{Adds-both, Adds-second}
use Rattle.ioam_run_capture.proofs.FilteringLaws.{Gathers-keep, Gathers-drop}
use Rattle.ioam_run_capture.proofs.filtering.FilteringGather.take.Goals as goal

pub returns-in_ok-put_kept-in-Kept-clause-gathers : goal.returns-in_ok-put_kept-in-Kept-clause-gathers
returns-in_ok-put_kept-in-Kept-clause-gathers c = (
  record_octets c.args.captured.now.time c.in-Kept.octets.now ∷ verdict_line (c.args.self.now.kept + c.args.self.now.dropped + 1) (Keeps c.in-Kept.octets.now) ∷ [],
  Adds-both _ _ _ _ _ _ _ c.requires.width refl c.in_ok-put_record-in-Kept.ensures.octets refl c.in_ok-put_kept-in-Kept.ensures,
  λ begun. Gathers-keep _ _ _ _ _ refl c.in-Kept.ensures.verdict refl refl,
)

pub returns-in_ok-put_dropped-in-Dropped-clause-gathers : goal.returns-in_ok-put_dropped-in-Dropped-clause-gathers
returns-in_ok-put_dropped-in-Dropped-clause-gathers c = (
  [] ∷ verdict_line (c.args.self.now.kept + c.args.self.now.dropped + 1) (Drops c.in-Dropped.reason) ∷ [],
  Adds-second _ _ _ _ c.requires.width refl c.in_ok-put_dropped-in-Dropped.ensures,
  λ begun. Gathers-drop _ _ _ _ _ refl c.in-Dropped.ensures.verdict refl refl,
)
