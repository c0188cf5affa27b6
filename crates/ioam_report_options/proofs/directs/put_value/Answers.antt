use Rattle.std.proofs.Common.{◌≡◌, ◌++◌, drop, codes, decimal, refl, ap, ◌∙◌, rules}
use Rattle.std.specs.Int.{w32, to_be_bytes}
use Rattle.ioam_line.specs.Digits.{digits_of}
use Rattle.ioam_report_lines.specs.Spaced.{when_there}
use Rattle.ioam_report_options.proofs.TextLaws.{direct_by_pieces}
use Rattle.ioam_report_options.proofs.directs.put_value.Goals as goal

pub returns-clause-value : goal.returns-clause-value
returns-clause-value c =
    let direct = c.args.direct.now in
    let flags : c.from.result ≡ direct.flags = search rules in
    let namespace : c.from-2.result ≡ direct.namespace.0 = search rules in
    c.put-2.ensures.value
    ∙ ap (λ xs. (codes "direct " ++ decimal c.from-2.result) ++ xs) (c.put_trace_type.ensures.value
    ∙ ap (λ xs. (codes " " ++ digits_of (drop 1 (to_be_bytes w32 direct.kind))) ++ xs) (c.put.ensures.value
    ∙ ap (λ xs. (codes " flags " ++ decimal c.from.result) ++ xs) (c.put_plain_narrow-2.ensures.value
    ∙ ap (λ xs. when_there direct.flow (λ number. codes " flow=" ++ decimal number) ++ xs) (c.put_plain_narrow.ensures.value
    ∙ ap (λ xs. when_there direct.seq (λ number. codes " seq=" ++ decimal number) ++ xs) c.requires))))
    ∙ direct_by_pieces direct c.from-2.result direct.kind c.from.result _ _ namespace refl flags refl refl
