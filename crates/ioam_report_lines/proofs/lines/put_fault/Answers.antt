use Rattle.std.proofs.Common.{◌≡◌, ◌++◌, codes, decimal, sym, ap, ◌∙◌, rules}
use Rattle.ioam_trace.specs.declared.fault.TraceFault.TheVariants.{NodeLen}
use Rattle.ioam_report_lines.specs.TraceText.{fault_text}
use Rattle.ioam_report_lines.proofs.TextLaws.{node_len_pieces}
use Rattle.ioam_report_lines.proofs.lines.put_fault.Goals as goal

pub returns-in-NodeLen-clause-value : goal.returns-in-NodeLen-clause-value
returns-in-NodeLen-clause-value c =
    let found : c.from-in-NodeLen-2.result ≡ c.in-NodeLen.found = search rules in
    let wanted : c.from-in-NodeLen.result ≡ c.in-NodeLen.wanted = search rules in
    let old = c.args.line.now in
    c.put_named_fault-in-NodeLen.ensures.value
    ∙ ap (λ xs. (codes "  trace bad " ++ codes "node-len") ++ ((codes " " ++ decimal c.from-in-NodeLen-2.result) ++ xs)) c.put.ensures.value
    ∙ node_len_pieces c.from-in-NodeLen-2.result c.from-in-NodeLen.result old
    ∙ ap (λ n. (codes "  trace bad " ++ fault_text (NodeLen n c.from-in-NodeLen.result)) ++ old) found
    ∙ ap (λ n. (codes "  trace bad " ++ fault_text (NodeLen c.in-NodeLen.found n)) ++ old) wanted
    ∙ ap (λ fault. (codes "  trace bad " ++ fault_text fault) ++ old) (sym c.in-NodeLen.is)
