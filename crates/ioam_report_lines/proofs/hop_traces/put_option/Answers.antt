use Rattle.std.proofs.Common.{◌≡◌, ◌++◌, ◌-◌, List, ℕ, true, false, length, take, drop, sym, ap, ◌∙◌, arith, length-drop}
use Rattle.std.specs.Bool.{if◌then◌else◌}
use Rattle.std.specs.Prelude.{is_ok}
use Rattle.std.proofs.lemmas.List.{append-nil, take_all}
use Rattle.ioam_ip.specs.Spot.{item_in}
use Rattle.ioam_report_lines.specs.HopText.{is_changing_trace}
use Rattle.ioam_report_lines.specs.TraceText.{trace_lines}
use Rattle.ioam_report_lines.proofs.HopTracesLaws.{one_line, no_line}
use Rattle.ioam_report_lines.proofs.hop_traces.put_option.Goals as goal

pub returns-then-is_changing_trace : goal.returns-then-is_changing_trace
returns-then-is_changing_trace c =
    let item = item_in c.args.head.now c.args.spot.now in
    let is : is_changing_trace item ≡ true = sym (c.is_changing_trace.ensures.value c.args.spot.now.at) ∙ c.if-is_changing_trace.true in
    let old = c.args.out.now.items in
    let rest : take (length item.body - 2) (drop 2 item.body) ≡ drop 2 item.body =
    take_all (length item.body - 2) (drop 2 item.body) (omega (arith, length-drop 2 item.body)) in
    let told : List ℕ → List ℕ = λ xs. if is_ok c.put_trace.result then old ++ xs else old in
    c.put_trace.ensures ∙ ap (λ xs. told (trace_lines xs)) rest ∙ ap told (one_line item is)

pub returns-else-is_changing_trace : goal.returns-else-is_changing_trace
returns-else-is_changing_trace c =
    let item = item_in c.args.head.now c.args.spot.now in
    let is : is_changing_trace item ≡ false = sym (c.is_changing_trace.ensures.value c.args.spot.now.at) ∙ c.if-is_changing_trace.false in
    let old = c.args.out.now.items in
    sym (append-nil old) ∙ ap (λ xs. old ++ xs) (no_line item is)
