use Rattle.std.proofs.Common.{◌≡◌, ◌++◌, take}
use Rattle.ioam_batch.specs.Crossings.{crossings}
use Rattle.ioam_pcap.specs.Text.{records_text}
use Rattle.ioam_run_texts.specs.Standing.{kept_from}
use Rattle.ioam_run_texts.proofs.crossing.put_link.Given as goal

-- the records of the visits so far
abbrev pub invariant-visits : goal.invariant-visits
invariant-visits l = record {
  records : l.out.items ≡ l.initial.out.items ++ records_text (kept_from l.link.0 (crossings l.job.crossings) 0 (take l.number l.visits));
}
