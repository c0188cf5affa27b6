use Rattle.std.proofs.Common.{◌≡◌, ◌+◌, ◌-◌, ◌*◌, ◌++◌, ◌/◌, ◌≤◌, length, drop}
use Rattle.ioam_report_lines.specs.Spaced.{fillers_text}
use Rattle.ioam_report_lines.proofs.elements.put_fillers.Given as goal

abbrev pub invariant-fillers : goal.invariant-fillers
invariant-fillers g l = record {
  value : l.line ≡ fillers_text (length l.octets / 4 - l.words) (drop (4 * l.words) l.octets) ++ l.initial.line;
  size : length l.line + 16 * l.words ≤ 16 * (length l.octets / 4) + length l.initial.line;
  within : l.words ≤ length l.octets / 4;
}

abbrev pub decreases-fillers : goal.decreases-fillers
decreases-fillers g l = l.words
