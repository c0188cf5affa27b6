-- What leaves by the ports of a domain may leave it.
use Rattle.std.proofs.Common.{ℕ, ◌<◌, Bool, IsSomeAnd, List, Option, sym, ap, subst, inl, inr, arith}
use Rattle.ioam_clock.specs.declared.sample.Sample.{Sample}
use Rattle.ioam_desk.specs.Desk.{Reading, Writing}
use Rattle.ioam_run_traffic.specs.Clean.{MayLeave}
use Rattle.ioam_run_traffic.proofs.CleanLaws.{outs-clean}
use Rattle.ioam_run_traffic.specs.Merge.{Arrival}
use Rattle.ioam_run_traffic.specs.Text.{IsCaptureOf}
use Rattle.ioam_run_files.specs.Outcomes.{IsBehindAll}
use Rattle.ioam_run_files.specs.Outcome.{Outcome}
use Rattle.ioam_run_files.specs.Outcome.TheVariants as outcome
use Rattle.ioam_topo.specs.declared.domain.Domain.{Domain}
use Rattle.ioam_run_traffic.specs.Traffic.{frames_of}
use Rattle.ioam_run_domain.specs.Promise.{RunNames, HoldsFiles, IsReady, Leaves, IsBounded, course_for}

module _ (opens : Bool) (files : RunNames) (old_in new_in : Reading) (old new : Writing) where
  bounded : (domain : Domain) (readings : List (List Sample)) → IsReady old files domain readings → (Are : List Arrival → Type 0)
      → HoldsFiles opens files old_in new_in old new (course_for opens files old_in old domain readings) Are → IsBounded opens files old_in new_in old new
  bounded domain readings ready Are all = (
    domain,
    readings,
    ready,
    λ gate place port is.
        let P : Option (List ℕ) → Type 0 = λ o. IsSomeAnd o (IsCaptureOf MayLeave) in
        subst P (sym (all.outs gate place port is))
        (outs-clean domain readings (frames_of (course_for opens files old_in old domain readings).ports all.taken) all.fates all.become place),
  )

  pub Leaves-bounded : (answer : Outcome) → IsBehindAll (old.side.slots < new.side.slots) answer → Leaves opens files old_in new_in old new answer
      → IsBounded opens files old_in new_in old new
  Leaves-bounded outcome.Done behind left = bounded left.0 left.1 left.2 _ left.3
  Leaves-bounded (outcome.Capture name at fault) behind left = bounded left.0 left.1 left.2 _ left.3.2
  Leaves-bounded (outcome.Packets limit) behind left = bounded left.0 left.1 left.2 _ left.3
  Leaves-bounded (outcome.Exports place fault) behind left = absurd left
  Leaves-bounded (outcome.Ipfix place fault) behind left = absurd left
  Leaves-bounded (outcome.Part which place fault) behind left = absurd left
  Leaves-bounded (outcome.Records limit) behind left = absurd left
  Leaves-bounded outcome.ReadFault behind (inl early) = absurd (omega (arith, behind, ap (λ (w : Writing). w.side.slots) early.1))
  Leaves-bounded outcome.ReadFault behind (inr late) = bounded late.0 late.1 late.2 _ late.3.1
  Leaves-bounded outcome.Usage behind left = absurd behind
  Leaves-bounded (outcome.Names name) behind left = absurd behind
  Leaves-bounded (outcome.Domain fault) behind left = absurd behind
  Leaves-bounded (outcome.Readings fault) behind left = absurd behind
  Leaves-bounded outcome.WriteFault behind left = absurd behind
  Leaves-bounded outcome.NoMemory behind left = absurd behind
