use Rattle.std.proofs.Common.{[], false}
use Rattle.ioam_capture_merge.specs.Merge.{Merging}
use Rattle.ioam_capture_merge.proofs.merge.Merge.new.Given as goal

-- so many captures so far, of which nothing was handed out
abbrev pub invariant-captures : goal.invariant-captures
invariant-captures l = Merging l._index (λ k. []) (λ k. false) [] l.merge
