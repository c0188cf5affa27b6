use Rattle.std.proofs.Common.{refl, [], ◌∷◌}
use Rattle.ioam_run_stream.proofs.AddsLaws.{Adds-one}
use Rattle.ioam_run_capture.proofs.ListingLaws.{Lists-push}
use Rattle.ioam_run_capture.proofs.listing.ListingGather.take.Goals as goal

pub returns-clause-gathers : goal.returns-clause-gathers
returns-clause-gathers g c =
    let lines = c.in_ok-put_entry.ensures in (
      lines.0 ∷ [],
      Adds-one _ _ _ _ c.requires.width refl lines.2,
      λ begun. Lists-push g.L.PacketText.tells g.L.PacketText.one _ _ _ _ _ refl lines.1 refl,
    )
