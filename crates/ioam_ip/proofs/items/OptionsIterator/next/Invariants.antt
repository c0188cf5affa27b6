use Rattle.std.proofs.Common.{length, ◌-◌, ◌≡◌}
use Rattle.ioam_ip.specs.OptionsLeft.{options_from}
use Rattle.ioam_ip.proofs.items.OptionsIterator.next.Given as goal

abbrev pub invariant-loop-self : goal.invariant-loop-self
invariant-loop-self l = (l.self.head ≡ l.initial.self.head)
    × (l.self.head.now ≡ l.head)
    × (options_from (length l.head) l.head l.self.at ≡ options_from (length l.head) l.head l.initial.self.at)

abbrev pub decreases-loop-self : goal.decreases-loop-self
decreases-loop-self l = length l.head - l.self.at
