use Rattle.std.proofs.Common.{refl, [], ◌∷◌, arith}
use Rattle.ioam_run_stream.specs.Reader.{taken_of}
use Rattle.ioam_ng.specs.Text.{packet_octets}
use Rattle.ioam_run_stream.proofs.AddsLaws.{Adds-one}
use Rattle.ioam_run_capture.proofs.SavingLaws.{Saves-push}
use Rattle.ioam_run_capture.proofs.saving.SavingGather.take.Goals as goal

pub returns-clause-gathers : goal.returns-clause-gathers
returns-clause-gathers c = (
  packet_octets (taken_of c.args.link c.args.captured.now) ∷ [],
  Adds-one _ _ _ _ c.requires.width refl c.in_ok-put_ng_packet.ensures.octets,
  λ begun. Saves-push _ _ _ (c.requires.short, omega (arith, c.requires.time), omega arith) refl,
)
