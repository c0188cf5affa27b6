use Rattle.std.proofs.Common.{◌≡◌, ◌++◌, drop, codes, decimal, refl, ap, ◌∙◌, rules}
use Rattle.std.specs.Int.{w32, to_be_bytes}
use Rattle.ioam_line.specs.Digits.{digits_of}
use Rattle.ioam_report_options.proofs.TextLaws.{head_by_pieces}
use Rattle.ioam_report_options.proofs.traces.put_head.Goals as goal

pub returns-clause-value : goal.returns-clause-value
returns-clause-value c =
    let head = c.args.head.now in
    let remaining : c.from.result ≡ head.remaining = search rules in
    let flags : c.from-2.result ≡ head.flags = search rules in
    let namespace : c.from-3.result ≡ head.namespace.0 = search rules in
    c.put-4.ensures.value
    ∙ ap (λ xs. c.args.label.now ++ xs) (c.put-3.ensures.value
    ∙ ap (λ xs. decimal c.from-3.result ++ xs) (c.put_trace_type.ensures.value
    ∙ ap (λ xs. (codes " " ++ digits_of (drop 1 (to_be_bytes w32 head.kind))) ++ xs) (c.put-2.ensures.value
    ∙ ap (λ xs. (codes " flags " ++ decimal c.from-2.result) ++ xs) (c.put.ensures.value
    ∙ ap (λ xs. (codes " remaining " ++ decimal c.from.result) ++ xs) c.requires.ends))))
    ∙ head_by_pieces head c.args.label.now c.from-3.result head.kind c.from-2.result c.from.result namespace refl flags remaining
