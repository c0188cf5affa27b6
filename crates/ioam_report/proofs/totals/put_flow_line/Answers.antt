use Rattle.std.proofs.Common.{◌≡◌, List, ℕ, [], ◌++◌, codes, decimal, is_ok, cond, ap, ◌∙◌, rules}
use Rattle.std.specs.Bool.{if◌then◌else◌}
use Rattle.ioam_edge.specs.Receiver.{tally_in}
use Rattle.ioam_report_lines.specs.TraceText.{line_feed}
use Rattle.ioam_report.specs.SumsText.{is_numbered, tally_text}
use Rattle.ioam_report.proofs.TallyLaws.{flow_parts}
use Rattle.ioam_report.proofs.totals.put_flow_line.Goals as goal

pub returns : goal.returns
returns c =
    let name = c.args.flow.now.name in
    let sum = c.args.sum.now in
    let old = c.args.out.now.items in
    let numbers : List ℕ = if is_numbered c.args.flow.now.edge then tally_text (tally_in sum.receiver) else [] in
    let shown : List ℕ → List ℕ = λ xs. cond (is_ok c.append_three.result) (old ++ xs) old in
    let words : c.octets.result.now ≡ (codes " enclosed " ++ decimal sum.enclosed) ++ ((codes " exited " ++ decimal sum.exited)
    ++ ((codes " direct " ++ decimal sum.direct) ++ (numbers ++ line_feed))) =
    c.octets.ensures ∙ c.put-3.ensures.value
    ∙ ap (λ xs. (codes " enclosed " ++ decimal sum.enclosed) ++ xs) (c.put-2.ensures.value
    ∙ ap (λ xs. (codes " exited " ++ decimal sum.exited) ++ xs) (c.put.ensures.value
    ∙ ap (λ xs. (codes " direct " ++ decimal sum.direct) ++ xs) (c.put_numbers.ensures.value ∙ ap (λ xs. numbers ++ xs) c.end.ensures.value))) in
    let told : c.append_three.new.out.items ≡ shown (codes "flow " ++ name ++ c.octets.result.now) = search rules in
    told
    ∙ ap (λ xs. shown (codes "flow " ++ name ++ xs)) words
    ∙ ap shown (flow_parts name sum.enclosed sum.exited sum.direct numbers)
