use Rattle.std.proofs.Common.{◌≡◌, ◌≤◌, ℕ, Bool, List}
use Rattle.ioam_capture.specs.Merge.{Arrival}
use Rattle.ioam_capture_merge.specs.Merge.{room_of}
use Rattle.ioam_stream.specs.Stage.{Seen}
use Rattle.ioam_run_traffic.specs.Progress.{IsTaking, Taking, left_in}
use Rattle.ioam_run_traffic.proofs.progress.Progress.take_shown.Given as goal

-- what was taken is taken, and perhaps more
abbrev pub invariant-records : goal.invariant-records
invariant-records g l = record {
  taking : IsTaking l.initial.terms l.self;
  goes : (opens : Bool) (seen : Seen) (before : List Arrival) (so_far : List (List ℕ)) → Taking opens l.initial.terms seen before so_far l.initial.self
      → (now : List Arrival) × Taking opens l.initial.terms seen now so_far l.self;
  left : left_in l.initial.terms l.self.gathered ≤ left_in l.initial.terms l.initial.self.gathered;
  room : room_of l.self.merge.captures.items ≡ room_of l.initial.self.merge.captures.items;
}

-- how much is left
abbrev pub decreases-records : goal.decreases-records
decreases-records g l = left_in l.initial.terms l.self.gathered
