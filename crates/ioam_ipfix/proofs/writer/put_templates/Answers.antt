use Rattle.std.proofs.Common.{arith}
use Rattle.std.specs.Prelude.{flat_map}
use Rattle.ioam_ipfix.specs.Templates.{template_octets, all_ids}
use Rattle.ioam_ipfix.proofs.RunLaws.{closed}
use Rattle.ioam_ipfix.proofs.writer.put_templates.Goals as goal

pub returns-clause-ok : goal.returns-clause-ok
returns-clause-ok c =
    closed c.args.out.now.items c.reserve_heads.new.out.items c.put_all.new.out.items c.write_heads.new.out.items (flat_map template_octets all_ids) c.len-start.result 0 2
    (omega (arith, c.len-start.ensures, c.args.out.now.ok.0)) c.in_ok-reserve_heads.ensures.ok c.put_all.ensures.items c.write_heads.ensures
