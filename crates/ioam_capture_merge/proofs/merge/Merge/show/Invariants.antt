use Rattle.std.proofs.Common.{◌≡◌, ℕ, Bool, List, vec_len}
use Rattle.ioam_capture.specs.Merge.{Arrival}
use Rattle.ioam_capture_merge.specs.Merge.{AreKnown, Merging, room_of}
use Rattle.ioam_capture_merge.proofs.merge.Merge.show.Given as goal

-- what was taken is taken still, and it is known what is due of the captures so far
abbrev pub invariant-captures : goal.invariant-captures
invariant-captures l = record {
  merging : (n : ℕ) (fed : ℕ → List ℕ) (ended : ℕ → Bool) (taken : List Arrival) → Merging n fed ended taken l.initial.self
      → Merging n fed ended taken l.self × AreKnown l.place l.self;
  count : vec_len l.self.captures ≡ vec_len l.initial.self.captures;
  room : room_of l.self.captures.items ≡ room_of l.initial.self.captures.items;
}
