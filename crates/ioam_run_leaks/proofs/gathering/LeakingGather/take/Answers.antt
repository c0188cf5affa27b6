use Rattle.std.proofs.Common.{ℕ, ◌+◌, [], ◌∷◌, ap}
use Rattle.ioam_run_leaks.specs.Gathering.{found_octets}
use Rattle.ioam_run_leaks.specs.LeaksText.{found_line}
use Rattle.ioam_run_leaks.specs.Observation.{observation_of}
use Rattle.ioam_run_leaks.proofs.GatheringLaws.{Gathers-push}
use Rattle.ioam_run_leaks.proofs.gathering.LeakingGather.take.Goals as goal

pub returns-clause-gathers : goal.returns-clause-gathers
returns-clause-gathers c =
    let seen = observation_of c.observe-seen.result in (
      found_octets c.args.captured.now.time seen ∷ found_line (c.all-number.result + 1) seen ∷ [],
      c.in_ok-put_found.ensures,
      λ begun. Gathers-push _ _ _ _ c.observe-seen.ensures.shows _ (ap (λ (n : ℕ). n + 1) c.all-number.ensures) c.requires.few
          c.add.ensures.counted c.in_ok-count_flow.ensures,
    )
