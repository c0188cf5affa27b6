use Rattle.ioam_pcap.specs.Pick.{IsBest}
use Rattle.ioam_pcap.proofs.picking.pick.Given as goal

abbrev pub invariant-loop-place : goal.invariant-loop-place
invariant-loop-place l = IsBest l.place l.times l.best
