use Rattle.std.proofs.Common.{◌≡◌, ◌<◌, drop}
use Rattle.ioam_base.specs.Decimal.{digits_below}
use Rattle.ioam_base.proofs.digits.digits_below.Given as goal

abbrev pub invariant-loop-octet : goal.invariant-loop-octet
invariant-loop-octet l = record {
  value : digits_below l.limit l.number (drop l.octet-index l.digits) ≡ digits_below l.limit 0 l.digits;
  small : l.number < l.limit;
}
