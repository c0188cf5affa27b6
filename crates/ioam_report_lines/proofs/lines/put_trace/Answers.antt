use Rattle.std.proofs.Common.{◌++◌, is_ok, cond, sym, ap, ◌∙◌}
use Rattle.ioam_trace.specs.Read.{elements_in}
use Rattle.ioam_report_lines.proofs.LinesLaws.{trace_lines-TraceOf, trace_lines-HasFault}
use Rattle.ioam_report_lines.proofs.lines.put_trace.Goals as goal

pub returns-in-Ok : goal.returns-in-Ok
returns-in-Ok c =
    c.put_whole_lines.ensures
    ∙ ap (λ text. cond (is_ok c.put_whole_lines.result) (c.args.out.now.items ++ text) c.args.out.now.items)
    (sym (trace_lines-TraceOf c.args.octets.now c.in-Ok.trace.head (elements_in c.in-Ok.trace) c.in-Ok.ensures.reads.0))

pub returns-in-Err : goal.returns-in-Err
returns-in-Err c =
    c.put_bad_line.ensures
    ∙ ap (λ text. cond (is_ok c.put_bad_line.result) (c.args.out.now.items ++ text) c.args.out.now.items)
    (sym (trace_lines-HasFault c.args.octets.now c.in-Err.fault c.in-Err.ensures.reads))
