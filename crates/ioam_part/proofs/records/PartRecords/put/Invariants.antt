use Rattle.std.proofs.Common.{◌≡◌, ◌+◌, ◌<◌, ◌++◌, length}
use Rattle.ioam_part.specs.Rest.{rest_octets, AreOfRecords}
use Rattle.ioam_part.proofs.records.PartRecords.put.Given as goal

-- what was put and what is left are what was to be put
abbrev pub invariant-groups : goal.invariant-groups
invariant-groups l = record {
  octets : l.out.items ++ rest_octets l.self-inside.items l.self-inside.groups ≡ l.initial.out.items ++ rest_octets l.initial.self-inside.items l.initial.self-inside.groups;
  are : AreOfRecords l.self-inside.items l.self-inside.groups;
  few : length l.initial.out.items < l.enough + 274 → length l.out.items < l.enough + 274;
}

abbrev pub decreases-groups : goal.decreases-groups
decreases-groups l = length l.self-inside.groups
