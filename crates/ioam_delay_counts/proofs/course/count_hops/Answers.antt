use Rattle.std.proofs.Common.{◌++◌, List, ℤ, Option, take, subst, ◌∙◌, length-append, arith}
use Rattle.std.proofs.lemmas.List.{length-take}
use Rattle.ioam_delay_counts.specs.Tables.{IsTable}
use Rattle.ioam_delay_counts.specs.Courses.{hops_from}
use Rattle.ioam_delay_counts.specs.Orders.{hop_before}
use Rattle.ioam_delay_counts.specs.Tallies.{CountsPassed}
use Rattle.ioam_delay_counts.specs.declared.keys.HopKey.{HopKey}
use Rattle.ioam_delay_counts.proofs.CourseLaws.{counted_more, hops_few}
use Rattle.ioam_delay_counts.proofs.course.count_hops.Goals as goal

pub hops-preserved : goal.hops-preserved
hops-preserved c = record {
  limit = c.in_ok-count.ensures.limit ∙ c.hops.invariant.limit;
  some = omega arith;
  within = omega (arith, c.hops-test.true);
  counted = λ seen short is.
      let P : List (HopKey × Option ℤ) → Type 0 = λ all. IsTable hop_before CountsPassed all c.count.new.self in
      subst P (counted_more c.args.namespace c.args.sights.now c.hops.at seen _ _ _ c.hops.invariant.some c.hops-test.true c.gap_between.ensures c.between.ensures)
      (c.in_ok-count.ensures.counted (seen ++ hops_from c.args.namespace (take c.hops.at c.args.sights.now))
      (omega (
        arith,
        short,
        length-append seen (hops_from c.args.namespace (take c.hops.at c.args.sights.now)),
        hops_few c.args.namespace (take c.hops.at c.args.sights.now),
        length-take c.hops.at c.args.sights.now,
      )) (c.hops.invariant.counted seen short is));
}
