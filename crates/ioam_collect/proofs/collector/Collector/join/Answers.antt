use Rattle.std.proofs.Common.{ap₂}
use Rattle.ioam_collect.proofs.CollectedLaws.{collected}
use Rattle.ioam_collect.proofs.JoiningLaws.{stores_join}
use Rattle.ioam_collect.proofs.collector.Collector.join.Goals as goal

pub returns-in-Some : goal.returns-in-Some
returns-in-Some c =
    rw (← c.self.view_is, ← c.other.view_is) (stores_join c.self.inside.store c.other.inside.store c.in-Some.store c.self.inside.read c.self.inside.unkeyed
    c.other.inside.read c.other.inside.unkeyed _ (rw c.in-Some.is at c.in_ok-store.ensures)
    (ap₂ (λ read unkeyed. collected c.in-Some.store read unkeyed) c.saturating_add-self-inside.ensures c.saturating_add-self-inside-in-Some.ensures))
