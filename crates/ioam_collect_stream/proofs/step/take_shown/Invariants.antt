use Rattle.std.proofs.Common.{◌≡◌, ◌≤◌, ℕ, List, length}
use Rattle.ioam_dex.specs.Record.{Record}
use Rattle.ioam_dex.specs.Reader.{fed}
use Rattle.ioam_collect_stream.specs.Gathering.{Gathers}
use Rattle.ioam_collect_stream.proofs.step.take_shown.Given as goal

-- the collector stands for the records that were given
abbrev pub invariant-records : goal.invariant-records
invariant-records l = record {
  gathers : (octets : List ℕ) (records : List Record) → Gathers octets records l.initial.reader l.initial.collector
      → (all : List Record) × Gathers octets all l.reader l.collector;
  fewer : length l.reader.pending ≤ length l.initial.reader.pending;
  fed : fed l.reader ≡ fed l.initial.reader;
  limit : l.collector.limit ≡ l.initial.collector.limit;
}

-- what was fed and not yet taken
abbrev pub decreases-records : goal.decreases-records
decreases-records l = length l.reader.pending
