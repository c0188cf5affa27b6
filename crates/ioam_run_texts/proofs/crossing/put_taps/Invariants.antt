use Rattle.std.proofs.Common.{◌+◌, length}
use Rattle.ioam_desk_outputs.specs.Told.{Adds}
use Rattle.ioam_pcap.specs.Text.{records_text}
use Rattle.ioam_topo.specs.Domain.{ports}
use Rattle.ioam_run_texts.specs.Standing.{job_crossed}
use Rattle.ioam_run_texts.proofs.AddsLaws.{first_of, to_taps}
use Rattle.ioam_run_texts.proofs.crossing.put_taps.Given as goal

-- the taps in front of this place were told
abbrev pub invariant-taps : goal.invariant-taps
invariant-taps l = record {
  told : Adds l.initial.outputs l.outputs (first_of (length (ports l.domain) + l.k) (to_taps l.domain (λ link. records_text (job_crossed l.job link))));
}
