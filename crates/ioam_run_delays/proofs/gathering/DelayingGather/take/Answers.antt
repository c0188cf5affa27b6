use Rattle.std.proofs.Common.{ℕ, [], ◌∷◌, refl, subst}
use Rattle.ioam_run_stream.specs.Reader.{taken_of}
use Rattle.ioam_run_stream.proofs.AddsLaws.{Adds-none}
use Rattle.ioam_run_delays.specs.Observation.{Shows}
use Rattle.ioam_run_delays.proofs.GatheringLaws.{Gathers-push, short, skipped_more}
use Rattle.ioam_run_delays.proofs.gathering.DelayingGather.take.Goals as goal

pub returns-clause-gathers : goal.returns-clause-gathers
returns-clause-gathers c =
    let seen = c.in_ok-skipped.ensures in
    let record_is = taken_of c.args.link c.args.captured.now in
    let P : ℕ → Type 0 = λ units. Shows units record_is seen.0 in (
      [] ∷ [],
      Adds-none _ c.requires.width,
      λ begun. Gathers-push begun _ _ record_is seen.0 (subst P c.units_of.ensures.is seen.1) refl refl c.requires.bound (short c.units_of.result record_is seen.0 seen.1 c.requires.short)
          (λ below. skipped_more _ _ _ _ seen.0 seen.2 c.from.ensures c.saturating_add-self.ensures below) seen.3,
    )
