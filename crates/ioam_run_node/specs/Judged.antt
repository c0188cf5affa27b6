-- What contracts see of a `Judged`.
use Rattle.std.specs.Prelude.{ℕ, ◌≤◌, ⊤, List, length}
use Rattle.ioam_run_node.specs.Passage.{Passage, Goes, Drops, CanGo}
use Rattle.ioam_run_node.specs.Seat.{Seat}
use Rattle.ioam_run_node.specs.declared.judging.Judged.{Judged}
use Rattle.ioam_run_node.specs.declared.judging.Judged.TheVariants as judged

-- what becomes of a packet at a time, as it was judged: the way by which it goes on and what it then is, or why it is dropped
abbrev pub passage_of : ℕ → Judged → Passage
passage_of time (judged.Goes way packet) = Goes time way packet.now
passage_of time (judged.Drops why) = Drops why

-- where it goes on it can be sent, and is no longer than its frame
abbrev pub IsFit : Seat → List ℕ → Judged → Type 0
IsFit seat frame (judged.Goes way packet) = CanGo seat way packet.now × (length packet.now ≤ length frame)
IsFit seat frame (judged.Drops why) = ⊤
