use Rattle.std.proofs.Common.{◌≡◌, ◌+◌, drop, length, vec_len}
use Rattle.ioam_clock.specs.Lines.{lines}
use Rattle.ioam_clock.specs.Reading.{node_names, lines_added}
use Rattle.ioam_clock.proofs.reading.add_lines.Given as goal

abbrev pub invariant-loop-line : goal.invariant-loop-line
invariant-loop-line l = record {
  count : l.number ≡ length l.yielded;
  len : vec_len l.tracks ≡ vec_len l.initial.tracks;
  rest : lines_added (node_names l.domain) (l.number + 1) l.tracks.items (drop l.number (lines l.octets))
      ≡ lines_added (node_names l.domain) 1 l.initial.tracks.items (lines l.octets);
}
