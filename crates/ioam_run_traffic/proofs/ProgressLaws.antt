-- Why no record is taken any more.
use Rattle.std.proofs.Common.{ℕ, ◌≤◌, Bool, List, length, arith}
use Rattle.ioam_capture.specs.Merge.{Arrival}
use Rattle.ioam_capture.specs.declared.turns.Turn.TheVariants as turn
use Rattle.ioam_capture_merge.specs.Merge.{Comes, Merging, Turns}
use Rattle.ioam_capture_merge.proofs.MergeLaws.{comes_begins}
use Rattle.ioam_pcap.specs.declared.capture.CapFault.{CapFault}
use Rattle.ioam_run_arrivals.specs.Forwarding.{taken as count_taken}
use Rattle.ioam_stream.specs.Stage.{Seen}
use Rattle.ioam_run_traffic.specs.Progress.{Runs, Stopping}
use Rattle.ioam_run_traffic.specs.StageLaws.{covered_by}
use Rattle.ioam_run_traffic.specs.declared.halt.Halt.TheVariants.{Over, Broken, Limit}
use Rattle.ioam_run_traffic.specs.declared.progress.Progress.{Progress}
use Rattle.ioam_run_traffic.specs.declared.terms.Terms.{Terms}
use Rattle.ioam_run_traffic.proofs.RunsLaws.{runs_count}

module _ {F G : Type 0} (opens : Bool) (terms : Terms F G) (seen : Seen) (taken : List Arrival) (so_far : List (List ℕ)) (progress : Progress) where
  -- as many were taken as may be
  pub limit_stops : (place time : ℕ) → Comes (length terms.ports.now) seen.fed seen.ended taken progress.merge place time
      → Runs opens terms taken so_far progress.gathered → terms.domain.now.packets ≤ count_taken progress.gathered
      → Stopping opens terms seen taken so_far progress Limit
  limit_stops place time comes runs full = (
    record {
      arrive = λ contents covers. (
        omega (arith, full, runs.few, runs_count opens terms taken so_far progress.gathered runs),
        comes_begins (length terms.ports.now) seen.fed seen.ended taken progress.merge place time comes contents (covered_by (length terms.ports.now) seen contents covers),
      );
      ends = tt;
    },
    comes.merging.begins,
    runs,
  )

  module _ (merging : Merging (length terms.ports.now) seen.fed seen.ended taken progress.merge) (runs : Runs opens terms taken so_far progress.gathered) where
    -- all captures are at their ends
    pub over_stops : Turns (length terms.ports.now) seen.fed seen.ended taken progress.merge turn.Over → Stopping opens terms seen taken so_far progress Over
    over_stops turns = (
      record { arrive = λ contents covers. turns.0 contents (covered_by (length terms.ports.now) seen contents covers); ends = λ k inside. turns.1 k inside },
      merging.begins,
      runs,
    )

    -- or one is faulty
    pub broken_stops : (place at : ℕ) (fault : CapFault) → Turns (length terms.ports.now) seen.fed seen.ended taken progress.merge (turn.Broken place at fault)
        → Stopping opens terms seen taken so_far progress (Broken place at fault)
    broken_stops place at fault turns = (
      record { arrive = λ contents covers. (turns.0, turns.1 contents (covered_by (length terms.ports.now) seen contents covers)); ends = tt },
      merging.begins,
      runs,
    )
