use Rattle.ioam_base.proofs.ResultLaws.{OnOk-map}
use Rattle.ioam_run_part.proofs.KeptLaws.{lines_are, put_text}
use Rattle.ioam_run_part.proofs.kept.put_kept.Goals as goal

pub returns-clause-text : goal.returns-clause-text
returns-clause-text c = OnOk-map c.put_count.result _ _ c.put_count.ensures
    (put_text c.args.collector.now c.args.out.now.items c.put_lines.new.out.items c.put_count.new.out.items c.held.result c.in_ok-put_lines.ensures.text c.held.ensures)

pub returns-clause-lines : goal.returns-clause-lines
returns-clause-lines c = λ xs in_order few stands. lines_are c.args.collector.now xs in_order stands (c.put_lines.ensures.groups xs stands)

pub returns-in_err-put_lines-clause-lines : goal.returns-in_err-put_lines-clause-lines
returns-in_err-put_lines-clause-lines c = λ xs in_order few stands. lines_are c.args.collector.now xs in_order stands (c.put_lines.ensures.groups xs stands)
