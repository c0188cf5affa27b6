-- What the verdict says.
use Rattle.std.proofs.Common.{◌≡◌, ◌↔◌, ℕ, List, [], ◌∷◌, refl, ap}
use Rattle.std.specs.List.{AllByRecursion}
use Rattle.ioam_pcap.specs.Entries.{Taken}
use Rattle.ioam_run_audit.specs.Fates.{IsSentOn}
use Rattle.ioam_run_audit.specs.Fit.{CameFrom, HasReason, IsFit, Place}
use Rattle.ioam_run_audit.specs.Lines.{BecomeOf, sums_of, verdict_of, Yes}
use Rattle.ioam_run_audit.specs.declared.fate.Fate.{Fate}
use Rattle.ioam_run_audit.proofs.FatesLaws.{none_left_map}
use Rattle.ioam_run_audit.proofs.RecordLaws.{came_fit, skipped_apart}

none_by : (rest : List Taken) (sent : ℕ) → verdict_of rest sent ≡ Yes → rest ≡ []
none_by [] sent is = refl
none_by (t ∷ rest) sent is = absurd (cc is)

pub verdict_map : (place : Place) (before after : List Taken) (fates : List Fate) (rest : List Taken) → BecomeOf place before after fates rest
    → (verdict_of rest (sums_of fates).sent ≡ Yes) ↔ (AllByRecursion IsFit after × IsSentOn (CameFrom place) before after)
verdict_map place before after fates rest are =
    let both = none_left_map HasReason IsFit (CameFrom place) (skipped_apart place) IsFit (came_fit place) 1 before after fates rest are in (
      λ is. both.0 (none_by rest (sums_of fates).sent is),
      λ all. ap (λ (r : List Taken). verdict_of r (sums_of fates).sent) (both.1 all),
    )
