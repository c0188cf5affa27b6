use Rattle.std.proofs.Common.{◌≡◌, ◌+◌, ◌*◌, ◌≤◌, drop, map}
use Rattle.ioam_ip.specs.Sizes.{options_end}
use Rattle.ioam_tunnel.specs.Size.{trace_size}
use Rattle.ioam_tunnel.proofs.sizes.traces_end.Given as goal

abbrev pub invariant-loop-trace : goal.invariant-loop-trace
invariant-loop-trace l = record {
  ends : options_end l.end (map trace_size (drop l.trace-index l.traces)) ≡ options_end 2 (map trace_size l.traces);
  small : l.end ≤ 2 + 259 * l.trace-index;
}
