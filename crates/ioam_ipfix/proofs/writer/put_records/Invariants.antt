use Rattle.std.proofs.Common.{◌-◌, ◌+◌, ◌≤◌, length}
use Rattle.std.specs.Prelude.{vec_len, vec_capacity}
use Rattle.ioam_ipfix.proofs.RunLaws.{Put}
use Rattle.ioam_ipfix.proofs.writer.put_records.Given as goal

-- the records up to a place were put
abbrev pub invariant-records : goal.invariant-records
invariant-records l = record {
  within : l.at ≤ length l.run;
  few : vec_len l.out ≤ vec_len l.initial.out + l.at;
  grows : vec_len l.initial.out ≤ vec_len l.out;
  room : vec_len l.initial.out + length l.run ≤ vec_capacity l.out;
  put : Put l.run l.initial.out.items l.at l.out.items;
}

abbrev pub decreases-records : goal.decreases-records
decreases-records l = length l.run - l.at
