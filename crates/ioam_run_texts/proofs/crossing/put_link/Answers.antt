use Rattle.std.proofs.Common.{refl, arith}
use Rattle.ioam_batch.specs.Crossings.{crossings}
use Rattle.ioam_run_texts.proofs.CrossedLaws.{kept-step}
use Rattle.ioam_run_texts.proofs.crossing.put_link.Goals as goal

pub visits-preserved : goal.visits-preserved
visits-preserved c = record {
  records = kept-step c.args.link.0 (crossings c.args.job.now.crossings) c.list-visits.result.now c.visits.number _ _ c.args.out.now.items c.visits.out.items
      c.put_visit.new.out.items (omega arith) refl c.visits.invariant.records c.in_ok-put_visit.ensures;
}
