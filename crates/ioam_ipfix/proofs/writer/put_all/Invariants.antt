use Rattle.std.proofs.Common.{◌≡◌, ◌+◌, ◌-◌, ◌*◌, ◌≤◌, ◌++◌, take}
use Rattle.std.specs.Prelude.{vec_len, vec_capacity, flat_map}
use Rattle.ioam_ipfix.specs.Templates.{template_octets, all_ids}
use Rattle.ioam_ipfix.proofs.writer.put_all.Given as goal

-- the templates of smaller ids were put
abbrev pub invariant-templates : goal.invariant-templates
invariant-templates l = record {
  items : l.out.items ≡ l.initial.out.items ++ flat_map template_octets (take (l.id - 256) all_ids);
  len : vec_len l.out ≤ vec_len l.initial.out + 76 * (l.id - 256);
  grows : vec_len l.initial.out ≤ vec_len l.out;
  room : vec_len l.initial.out + 608 ≤ vec_capacity l.out;
}
