use Rattle.std.proofs.Common.{◌≤◌, ◌-◌, refl, arith}
use Rattle.ioam_delays.proofs.BucketLaws.{few_bits, first_bits, in_greatest, in_least, seven_bits}
use Rattle.ioam_delays.proofs.buckets.size_bucket.Goals as goal

pub overflow_sub-shift : goal.overflow_sub-shift
overflow_sub-shift c = omega (arith, seven_bits c.args.size c.ilog2-shift.result c.if-size-lt64.false c.ilog2-shift.ensures.next_power_gt)

pub returns-clause-least : goal.returns-clause-least
returns-clause-least c =
    let e = c.ilog2-shift.result in
    let seven : 6 ≤ e = seven_bits c.args.size e c.if-size-lt64.false c.ilog2-shift.ensures.next_power_gt in
    let bits = first_bits c.args.size e (omega arith) c.ilog2-shift.ensures.power_le c.ilog2-shift.ensures.next_power_gt in
    in_least c.args.size (e - 5) _ _ refl bits.0 bits.1 (omega arith)

pub returns-clause-greatest : goal.returns-clause-greatest
returns-clause-greatest c =
    let e = c.ilog2-shift.result in
    let seven : 6 ≤ e = seven_bits c.args.size e c.if-size-lt64.false c.ilog2-shift.ensures.next_power_gt in
    let bits = first_bits c.args.size e (omega arith) c.ilog2-shift.ensures.power_le c.ilog2-shift.ensures.next_power_gt in
    in_greatest c.args.size (e - 5) _ _ refl bits.0 bits.1 (omega arith)

pub returns-clause-exists : goal.returns-clause-exists
returns-clause-exists c =
    let e = c.ilog2-shift.result in
    let seven : 6 ≤ e = seven_bits c.args.size e c.if-size-lt64.false c.ilog2-shift.ensures.next_power_gt in
    let bits = first_bits c.args.size e (omega arith) c.ilog2-shift.ensures.power_le c.ilog2-shift.ensures.next_power_gt in
    omega (arith, bits.1, few_bits c.args.size e c.requires c.ilog2-shift.ensures.power_le)
