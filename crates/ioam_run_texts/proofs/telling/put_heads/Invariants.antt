use Rattle.std.proofs.Common.{[]}
use Rattle.ioam_desk_outputs.specs.Told.{Adds}
use Rattle.ioam_pcap.specs.Text.{capture_text}
use Rattle.ioam_run_texts.proofs.AddsLaws.{first_of, to_captures}
use Rattle.ioam_run_texts.proofs.telling.put_heads.Given as goal

-- the outputs in front of this place have their heads
abbrev pub invariant-captures : goal.invariant-captures
invariant-captures l = record {
  told : Adds l.initial.outputs l.outputs (first_of l.at (to_captures l.domain (capture_text [])));
}
