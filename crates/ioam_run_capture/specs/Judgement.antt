-- What contracts see of a `Judgement`.
use Rattle.std.specs.Prelude.{ℕ, ◌≤◌, ⊤, List, length}
use Rattle.ioam_run_capture.specs.Verdict.{Verdict, Keeps, Drops}
use Rattle.ioam_run_capture.specs.declared.judge.Judgement.{Judgement}
use Rattle.ioam_run_capture.specs.declared.judge.Judgement.TheVariants.{Kept, Dropped}

-- the verdict that a judgement is
abbrev pub verdict_of : Judgement → Verdict
verdict_of (Kept packet) = Keeps packet.now
verdict_of (Dropped reason) = Drops reason

-- a kept packet is no longer than its frame
abbrev pub IsWithin : Verdict → List ℕ → Type 0
IsWithin (Keeps packet) frame = length packet ≤ length frame
IsWithin (Drops reason) frame = ⊤
