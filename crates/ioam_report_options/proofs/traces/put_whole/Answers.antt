use Rattle.std.proofs.Common.{◌++◌, codes, is_ok, cond, append_assoc, ap, ◌∙◌, rules}
use Rattle.std.specs.List.{flat_map}
use Rattle.ioam_trace.specs.Read.{elements_in}
use Rattle.ioam_report_lines.specs.TraceText.{element_line}
use Rattle.ioam_report_options.specs.OptionText.{front_text, head_text}
use Rattle.ioam_report_options.proofs.AppendsLaws.{appended-behind}
use Rattle.ioam_report_options.proofs.traces.put_whole.Goals as goal

pub returns : goal.returns
returns c =
    let trace = c.args.trace.now in
    let old = c.args.out.now.items in
    let front = front_text c.args.front.kind c.args.front.at in
    let first = codes "trace " ++ head_text trace.head in
    let others = flat_map (element_line trace.head.kind trace.head.node_len) (elements_in trace) in
    appended-behind c.settle.result c.put_element_lines-answer.result old (front ++ first) others _ _ _ _
    (search rules) (c.in_ok-finish_line.ensures ∙ ap (λ xs. old ++ (front ++ xs)) c.put_head.ensures.value) c.put_element_lines-answer.ensures c.settle.ensures.answer
    c.settle.ensures.kept
    ∙ ap (λ xs. cond (is_ok c.settle.result) (old ++ xs) old) (append_assoc front first others)
