use Rattle.std.proofs.Common.{nat_le, rules}
use Rattle.std.proofs.lemmas.List.Sorted.{IsPartitionedBy-leb, IsPartitionPoint-from_clause}
use Rattle.ioam_clock.specs.declared.sample.Sample.{Sample}
use Rattle.ioam_clock.proofs.TrackLaws.{Rise-steady}
use Rattle.ioam_clock.proofs.track.search_until.Goals as goal

pub returns-clause-cut : goal.returns-clause-cut
returns-clause-cut c = IsPartitionPoint-from_clause (λ (y : Sample). nat_le y.time c.args.time) c.args.samples.now c.partition_point.result c.partition_point.ensures.partitioned
    (IsPartitionedBy-leb (λ (y : Sample). y.time) c.args.samples.now c.args.time (Rise-steady c.args.samples.now c.requires)) (λ a r f' q. search rules)
