use Rattle.std.proofs.Common.{arith}
use Rattle.ioam_delays.proofs.BucketLaws.{bucket_ends, least_whole, wide, width_whole}
use Rattle.ioam_delays.proofs.buckets.size_greatest.Goals as goal

pub overflow_add-result : goal.overflow_add-result
overflow_add-result c = omega (
  arith,
  least_whole c.args.bucket c.shift_of-shift.result c.shift_of-shift.ensures c.requires,
  width_whole c.args.bucket c.shift_of-shift.result c.shift_of-shift.ensures c.requires,
  bucket_ends c.args.bucket c.requires,
  wide c.args.bucket,
)

pub returns-clause-is : goal.returns-clause-is
returns-clause-is c = omega (
  arith,
  least_whole c.args.bucket c.shift_of-shift.result c.shift_of-shift.ensures c.requires,
  width_whole c.args.bucket c.shift_of-shift.result c.shift_of-shift.ensures c.requires,
  bucket_ends c.args.bucket c.requires,
  wide c.args.bucket,
)

pub returns-clause-fits : goal.returns-clause-fits
returns-clause-fits c = omega (
  arith,
  least_whole c.args.bucket c.shift_of-shift.result c.shift_of-shift.ensures c.requires,
  width_whole c.args.bucket c.shift_of-shift.result c.shift_of-shift.ensures c.requires,
  bucket_ends c.args.bucket c.requires,
  wide c.args.bucket,
)
