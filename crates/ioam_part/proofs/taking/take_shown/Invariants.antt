use Rattle.std.proofs.Common.{◌≡◌, ℕ, List, length, None}
use Rattle.ioam_dex.specs.Reader as dex
use Rattle.ioam_dex.specs.Record.{Record}
use Rattle.ioam_part.specs.Reading.{Took}
use Rattle.ioam_part.proofs.taking.take_shown.Given as goal

-- of what was fed some records were taken, and no fault was found; as many octets are kept
abbrev pub invariant-records : goal.invariant-records
invariant-records l = record {
  takes : (limit : ℕ) (body : List ℕ) (xs : List Record) → l.initial.progress.fault ≡ None
      → Took l.count limit body xs l.initial.reader l.initial.progress
      → (ys : List Record) × (l.progress.fault ≡ None) × Took l.count limit body ys l.reader l.progress;
  held : dex.held l.reader ≡ dex.held l.initial.reader;
}

abbrev pub decreases-records : goal.decreases-records
decreases-records l = length l.reader.pending
