use Rattle.std.proofs.Common.{◌≡◌, ◌+◌, ◌-◌, ◌*◌, ◌≤◌, length, take, drop, arith}
use Rattle.ioam_report_lines.proofs.FittingLaws.{take-few}
use Rattle.ioam_report_lines.proofs.SpacedLaws.{filler-before}
use Rattle.ioam_report_lines.proofs.elements.put_fillers.Goals as goal

pub fillers-preserved : goal.fillers-preserved
fillers-preserved g c =
    let at = c.fillers.words - 1 in
    let size = 4 * at + 4 - 4 * at in
    let filler = take size (drop (4 * at) c.args.octets.now) in
    let is : c.fillers.words ≡ at + 1 = omega (arith, c.fillers-test.true) in
    let four : size ≡ 4 = omega arith in
    let grown : length c.put.new.self ≤ 6 + (2 * length filler + 2) + length c.fillers.line = c.put.ensures.size in
    record {
      value = filler-before c.args.octets.now _ _ _ at c.fillers.words size four is c.fillers.invariant.within c.fillers.invariant.value c.put.ensures.value;
      size = omega (arith, c.fillers-test.true, grown, take-few size (drop (4 * at) c.args.octets.now), c.fillers.invariant.size);
      within = omega (arith, c.fillers.invariant.within);
    }
