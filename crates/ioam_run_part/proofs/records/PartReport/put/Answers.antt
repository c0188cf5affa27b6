use Rattle.std.proofs.Common.{Bool, subst}
use Rattle.ioam_part.specs.Rest.{Leaves}
use Rattle.ioam_run_part.proofs.PartReportLaws.{piece_said}
use Rattle.ioam_run_part.proofs.records.PartReport.put.Goals as goal

pub returns-then-branch : goal.returns-then-branch
returns-then-branch c =
    let said = piece_said c.args.out.now.items c.put_records.new.out.items c.args.self.now.records c.put_records.new.records c.in_ok-put_records.ensures.octets c.requires
    (subst (λ (full : Bool). Leaves full 65536 c.put_records.new.out.items c.put_records.new.records) c.if-branch.true c.in_ok-put_records.ensures.leaves) in
    record { added = said.0; says = said.1; rest_is = said.2; fewer = said.3 }
